-- The columns of the first kinds.
use Rattle.std.proofs.Common.{◌≡◌, take}
use Rattle.mc_group.specs.Cells.{columns_of}
use Rattle.mc_group.proofs.column.columns_of.Given as goal

abbrev pub invariant-loop-i : goal.invariant-loop-i
invariant-loop-i g l = l.columns ≡ columns_of (g.B.Book.meaning l.book) (take l.i l.kinds) l.desc
