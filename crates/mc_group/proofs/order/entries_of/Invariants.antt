-- What is sorted for the first rows.
use Rattle.std.proofs.Common.{◌≡◌, map}
use Rattle.std.specs.List.{range_with_len}
use Rattle.mc_group.specs.Fronts.{entry_of}
use Rattle.mc_group.proofs.order.entries_of.Given as goal

abbrev pub invariant-loop-i : goal.invariant-loop-i
invariant-loop-i g l =
    l.entries.items
    ≡ map (entry_of l.columns (g.B.Book.meaning l.book) l.kinds l.keys) (range_with_len 0 l.i)
