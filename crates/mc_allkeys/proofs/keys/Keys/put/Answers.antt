-- A text of one code point is put among these.
use Rattle.std.proofs.Common.{◌≡◌, length, arith}
use Rattle.mc_allkeys.proofs.EntryLemmas.{single_put, more_noted, same_reach}
use Rattle.mc_allkeys.proofs.SoundLemmas.{sound_single, text_is}
use Rattle.mc_allkeys.proofs.keys.Keys.put.Goals as goal

pub invariant_of-self-inside : goal.invariant_of-self-inside
invariant_of-self-inside c =
    let one : length c.args.text.now ≡ 1 = omega arith in
    let sound = sound_single c.put.result c.self.inside.singles c.put.new.self c.self.inside.contractions
    c.self.inside.ranges c.self.inside.sized c.args.text.now c.args.elements.now one
    (text_is c.args.text.now c.requires.some c.requires.short c.requires.codes) c.read_weights.ensures
    c.put.ensures.entries c.put.ensures.unchanged c.self.inside.sound in (
      c.self.inside.sized,
      (
        (more_noted c.self.inside.singles c.put.new.self c.self.inside.contractions
            c.self.inside.reaches (same_reach _ _ c.put.ensures.reach)),
        (c.self.inside.few, (sound, tt)),
      ),
    )

pub returns-then-text-eq1-clause-entries : goal.returns-then-text-eq1-clause-entries
returns-then-text-eq1-clause-entries c =
    let one : length c.args.text.now ≡ 1 = omega arith in
    rw (← c.self.view_is)
    (single_put c.put.result c.self.inside.singles c.put.new.self c.self.inside.contractions
    c.self.inside.sized c.args.text.now c.args.elements.now one c.put.ensures.entries)
