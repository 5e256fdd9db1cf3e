-- So far the groups in front of this one have their aggregates.
use Rattle.std.specs.Prelude.{All, ◌||◌}
use Rattle.std.specs.List.{list_any}
use Rattle.mc_eval.specs.Fit.{has_like}
use Rattle.mc_eval.specs.Outcomes.{IsKept}
use Rattle.mc_exec.specs.Aggregates.{aggregates_in}
use Rattle.mc_exec.specs.Shown.{group_values}
use Rattle.mc_exec.specs.Steps.{GoesOn}
use Rattle.mc_exec.proofs.Filled.{IsFilled}
use Rattle.mc_exec.proofs.grouped.put_all_groups.Given as goal

abbrev pub invariant-loop-i : goal.invariant-loop-i
invariant-loop-i g l =
    IsFilled (group_values (g.B.Book.meaning l.book) l.q l.nulls) l.groups l.initial.values l.i
    l.values
    × All (All IsKept) l.values
    × GoesOn (list_any has_like (aggregates_in l.q) || (list_any has_like l.q.items
    || list_any (λ key. has_like key.expr) l.q.orders)) l.initial.work l.work
