-- So far the indexes that are declared in front of this one.
use Rattle.std.proofs.Common.{◌≤◌, ◌+◌, ◌*◌, length, take}
use Rattle.std.specs.List.{AllZip}
use Rattle.mc_gather.specs.Indexed.{IsIndexOf}
use Rattle.mc_gather.proofs.indexes.put_indexes.Given as goal

abbrev pub invariant-loop-index : goal.invariant-loop-index
invariant-loop-index g l =
    AllZip (IsIndexOf (g.B.Book.meaning l.book) l.declared.columns l.table)
    (take l.index-index l.declared.indexes) l.held
    × (l.initial.steps ≤ l.steps)
    × (l.steps ≤ l.initial.steps + l.index-index * length l.table)
