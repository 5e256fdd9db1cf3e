-- The numbers so far, and those behind the frames so far.
use Rattle.std.proofs.Common.{◌≡◌, ◌++◌, [], drop, map}
use Rattle.std.specs.Str.{bytes_eq}
use Rattle.mc_group.specs.Frames.{row_frame}
use Rattle.mc_group.proofs.GroupNumbers.{numbers_behind}
use Rattle.mc_group.proofs.grouping.numbers_of.Given as goal

abbrev pub invariant-loop-i : goal.invariant-loop-i
invariant-loop-i g l =
    let frame = row_frame (g.B.Book.meaning l.book) l.kinds in
    l.numbers ++ numbers_behind bytes_eq l.seen (map frame (drop l.i l.keys))
    ≡ numbers_behind bytes_eq [] (map frame l.keys)
