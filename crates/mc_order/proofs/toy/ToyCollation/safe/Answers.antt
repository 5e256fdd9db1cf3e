use Rattle.std.proofs.Common.{arith}
use Rattle.std.proofs.lemmas.Bool.Decides.{nat_tests}
use Rattle.mc_order.specs.ToyLaws.{toy_safe}
use Rattle.mc_order.proofs.toy.ToyCollation.safe.Goals as goal

pub returns : goal.returns
returns c =
    let safe = toy_safe c.args.c in
    (λ t. safe.0 (λ e. grind (arith, nat_tests)), λ h. let other = safe.1 h in grind (arith, nat_tests))
