-- The places of the first entries.
use Rattle.std.proofs.Common.{◌≡◌, map, take}
use Rattle.mc_group.specs.declared.entry.Entry.{Entry}
use Rattle.mc_group.proofs.order.places_of.Given as goal

abbrev pub invariant-loop-entry : goal.invariant-loop-entry
invariant-loop-entry l =
    l.places ≡ map (λ (entry : Entry). entry.place) (take l.entry-index l.entries)
