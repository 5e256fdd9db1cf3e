-- The best of the first values.
use Rattle.std.specs.List.{IsFirstBest}
use Rattle.mc_group.specs.Extremes.{stands_before}
use Rattle.mc_group.specs.Order.{directed, value_order}
use Rattle.mc_group.proofs.extremes.best_place.Given as goal

abbrev pub invariant-loop-i : goal.invariant-loop-i
invariant-loop-i g l =
    IsFirstBest (stands_before (directed l.desc (value_order (g.B.Book.meaning l.book) l.kind)))
    l.values l.i l.best
