-- The contraction's entry is put, and its first code point is marked.
use Rattle.std.proofs.Common.{arith}
use Rattle.mc_allkeys.proofs.EntryLemmas.{after_put, long_put, more_noted, on_ok}
use Rattle.mc_allkeys.proofs.SoundLemmas.{sound_kept, sound_long, text_is}
use Rattle.mc_allkeys.proofs.keys.Keys.put_long.Goals as goal

pub invariant_of-self-inside : goal.invariant_of-self-inside
invariant_of-self-inside c = (
  c.self.inside.sized,
  (
    more_noted c.self.inside.singles c.note_reach.new.self c.self.inside.contractions
        c.self.inside.reaches c.note_reach.ensures.kept,
    (
      c.self.inside.few,
      (
        sound_kept c.self.inside.singles c.note_reach.new.self c.self.inside.contractions
            c.self.inside.ranges c.self.inside.sized c.note_reach.ensures.entries c.self.inside.sound,
        tt,
      ),
    ),
  ),
)

pub invariant_of-self-inside-2 : goal.invariant_of-self-inside-2
invariant_of-self-inside-2 c =
    let ok = rw (c.in_ok-key.ensures, c.in_ok-elements.ensures) at c.put.ensures.ok in
    let after = after_put c.put.result c.self.inside.singles c.note_reach.new.self c.self.inside.contractions
    c.put.new.self c.args.text.now c.args.elements.now c.self.inside.sized c.self.inside.reaches
    c.note_reach.ensures.kept c.in_ok-note_reach.ensures.noted c.requires.long c.requires.short
    (omega (arith, c.len.ensures)) ok c.put.ensures.err in
    let sound = sound_long c.put.result c.self.inside.singles c.note_reach.new.self c.self.inside.contractions
    c.put.new.self c.self.inside.ranges c.self.inside.sized c.args.text.now c.args.elements.now
    c.requires.long
    (text_is c.args.text.now (omega (arith, c.requires.long)) c.requires.short c.requires.codes)
    c.requires.weights c.note_reach.ensures.entries ok c.put.ensures.err c.self.inside.sound in
    (after.0, (after.1.0, (after.1.1, (sound, tt))))

pub returns-clause-entries : goal.returns-clause-entries
returns-clause-entries c =
    rw (← c.self.view_is)
    (on_ok c.put.result
    (long_put c.self.inside.singles c.note_reach.new.self c.self.inside.contractions c.put.new.self
    c.self.inside.sized c.args.text.now c.args.elements.now c.requires.long c.requires.short
    c.note_reach.ensures.entries)
    (rw (c.in_ok-key.ensures, c.in_ok-elements.ensures) at c.put.ensures.ok))
