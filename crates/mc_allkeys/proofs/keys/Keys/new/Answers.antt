use Rattle.mc_allkeys.proofs.EntryLemmas.{none_long, none_noted, none_few, no_entries}
use Rattle.mc_allkeys.proofs.SoundLemmas.{sound_none}
use Rattle.mc_allkeys.proofs.keys.Keys.new.Goals as goal

pub invariant_of-result : goal.invariant_of-result
invariant_of-result c = (
  none_long c.new-2.result c.new-2.ensures,
  (
    none_noted c.in_ok-new.field-0 c.new-2.result c.new-2.ensures,
    (
      none_few c.new-2.result c.new-2.ensures,
      (
        sound_none _ _
            (no_entries c.in_ok-new.field-0 c.new-2.result c.new-2.ensures c.in_ok-new.ensures.none)
            c.new-3.ensures,
        tt,
      ),
    ),
  ),
)

pub returns : goal.returns
returns c = (
  no_entries c.in_ok-new.field-0 c.new-2.result c.new-2.ensures c.in_ok-new.ensures.none,
  c.new-3.ensures,
)
