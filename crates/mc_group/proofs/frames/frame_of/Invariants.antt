-- The numbers of the first values.
use Rattle.std.proofs.Common.{◌≡◌, take}
use Rattle.mc_group.specs.Frames.{row_frame}
use Rattle.mc_group.proofs.frames.frame_of.Given as goal

abbrev pub invariant-loop-i : goal.invariant-loop-i
invariant-loop-i g l =
    l.frame.items ≡ row_frame (g.B.Book.meaning l.book) (take l.i l.kinds) l.row
