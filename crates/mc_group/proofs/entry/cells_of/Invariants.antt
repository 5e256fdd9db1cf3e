-- The cells of the first kinds.
use Rattle.std.proofs.Common.{◌≡◌, take}
use Rattle.mc_group.specs.Cells.{cells_of}
use Rattle.mc_group.proofs.entry.cells_of.Given as goal

abbrev pub invariant-loop-i : goal.invariant-loop-i
invariant-loop-i g l = l.cells ≡ cells_of (g.B.Book.meaning l.book) (take l.i l.kinds) l.row
