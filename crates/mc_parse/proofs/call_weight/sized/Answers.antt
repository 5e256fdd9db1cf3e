use Rattle.std.proofs.Common.{◌-◌, ap, ◌∙◌, refl, arith, rules, to_z-of_z, SFits, w64}
use Rattle.mc_parse.specs.Cuts.{cut_in}
use Rattle.mc_parse.proofs.WeightWays.{cut_read, cut_unopened, cut_deep, cut_numberless}
use Rattle.mc_parse.proofs.WeightWays.{cut_unclosed}
use Rattle.mc_parse.proofs.call_weight.sized.Goals as goal

pub returns-in_default-clause-err : goal.returns-in_default-clause-err
returns-in_default-clause-err c = cut_unopened c.requires c.in_default.ensures c.left.ensures

pub returns-then-below-eq0-clause-err : goal.returns-then-below-eq0-clause-err
returns-then-below-eq0-clause-err c =
    cut_deep (omega arith) c.requires c.in-Some.ensures c.left-then-below-eq0.ensures

pub returns-in_default-int-clause-err : goal.returns-in_default-int-clause-err
returns-in_default-int-clause-err c =
    cut_numberless (c.args.below - 1) (omega arith) c.requires c.in-Some.ensures
    c.in_default-int.ensures c.left-in_default-int.ensures

pub returns-in-Some-mark-clause-ok : goal.returns-in-Some-mark-clause-ok
returns-in-Some-mark-clause-ok c =
    let fits : SFits w64 c.in-Some-int.number = search rules in
    cut_read (c.args.below - 1) (omega arith) c.requires c.in-Some.ensures c.in-Some-int.ensures
    c.in-Some-mark.ensures refl
    (c.cut_of.ensures ∙ ap (λ z. cut_in c.args.unit z) (to_z-of_z fits))

pub returns-in-None-clause-err : goal.returns-in-None-clause-err
returns-in-None-clause-err c =
    cut_unclosed (c.args.below - 1) (omega arith) c.requires c.in-Some.ensures
    c.in-Some-int.ensures c.in-None.ensures c.left-in-None.ensures
