use Rattle.std.proofs.Common.{sym, ap, ◌∙◌}
use Rattle.mc_coerce.specs.declared.operand.Agg.TheVariants.{Uses}
use Rattle.mc_coerce.specs.Aggregate.{uses_or_mix}
use Rattle.mc_coerce.proofs.Origins.{aggregate-none, aggregate-some}
use Rattle.mc_coerce.proofs.aggregates.aggregate.Goals as goal

pub returns-then-count-eq0 : goal.returns-then-count-eq0
returns-then-count-eq0 c =
    ap Uses c.of_bin.ensures
    ∙ sym (aggregate-none c.args.list.now c.args.purpose
    (sym c.count.ensures ∙ c.if-count-eq0.true))

pub returns-in-Some : goal.returns-in-Some
returns-in-Some c =
    ap uses_or_mix c.in-Some.ensures
    ∙ sym (aggregate-some c.args.list.now c.args.purpose
    (λ e. c.if-count-eq0.false (c.count.ensures ∙ e)))

pub returns-in-None : goal.returns-in-None
returns-in-None c =
    ap uses_or_mix c.in-None.ensures
    ∙ sym (aggregate-some c.args.list.now c.args.purpose
    (λ e. c.if-count-eq0.false (c.count.ensures ∙ e)))
