use Rattle.std.proofs.Common.{subst}
use Rattle.mc_eval.specs.Arithmetic.{arithmetic, on_numbers}
use Rattle.mc_eval.specs.Held.{TellsHeld}
use Rattle.mc_eval.specs.Outcomes.{of_two}
use Rattle.mc_eval.proofs.Pairs.{pair_told}
use Rattle.mc_eval.proofs.arithmetic.calculated.Goals as goal

pub returns-in-Ok-other-clause-told : goal.returns-in-Ok-other-clause-told
returns-in-Ok-other-clause-told c = λ x y h k.
    c.on_numbers.ensures.told (of_two (on_numbers (arithmetic c.args.op)) x y)
    (pair_told (on_numbers (arithmetic c.args.op)) x y _ _ _ _
    (subst (λ r. TellsHeld x r) c.in-Ok.is h) (subst (λ r. TellsHeld y r) c.in-Ok-other.is k)
    c.get.ensures c.get-in-Ok-other.ensures)
