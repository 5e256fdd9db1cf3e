use Rattle.std.proofs.Common.{arith}
use Rattle.std.proofs.lemmas.Bool.Decides.{nat_tests}
use Rattle.mc_order.specs.ToyLaws.{toy_same}
use Rattle.mc_order.proofs.toy.ToyCollation.same_char.Goals as goal

pub returns : goal.returns
returns c =
    let same = toy_same c.args.c c.args.d in
    (λ t. same.0 (grind (arith, nat_tests)), λ e. let f = same.1 e in grind (arith, nat_tests))
