-- One more group without rows.
use Rattle.std.proofs.Common.{◌++◌, ◌∷◌, [], ◌+◌, List, ap, arith, sym, ◌∙◌}
use Rattle.mc_values.specs.declared.value.Value.{Value}
use Rattle.mc_exec.proofs.Parted.{open_more}
use Rattle.mc_exec.proofs.groups.open_groups.Goals as goal

pub loop-turn-preserved : goal.loop-turn-preserved
loop-turn-preserved c =
    c.in_ok-open.ensures ∙ (ap (λ (l : List (List (List Value))). l ++ [] ∷ [])
    c.loop-turn.invariant
    ∙ sym (open_more {R = List Value} c.loop-turn.turn (c.loop-turn.turn + 1) (omega arith)))
