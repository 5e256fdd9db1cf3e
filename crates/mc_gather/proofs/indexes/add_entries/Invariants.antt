-- So far the entries of the rows in front of this one.
use Rattle.std.proofs.Common.{◌≡◌, ◌≤◌, ◌+◌, take}
use Rattle.mc_gather.specs.Indexed.{gathered}
use Rattle.mc_gather.proofs.indexes.add_entries.Given as goal

abbrev pub invariant-loop-i : goal.invariant-loop-i
invariant-loop-i g l =
    (l.builder ≡ gathered (g.C.Collation.meaning l.collation) l.index (take l.i l.table))
    × (l.initial.steps ≤ l.steps) × (l.steps ≤ l.initial.steps + l.i)
