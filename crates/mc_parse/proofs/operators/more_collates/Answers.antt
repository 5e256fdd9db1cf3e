use Rattle.std.proofs.Common.{refl, sym, subst}
use Rattle.mc_sql.specs.Rules as rule
use Rattle.mc_parse.specs.Language.{behind}
use Rattle.mc_parse.specs.Read.{as_operand, IsFault}
use Rattle.mc_parse.proofs.Ways.{link_shorter}
use Rattle.mc_parse.proofs.Folds.{folds_none}
use Rattle.mc_parse.proofs.OperatorWays.{collate_read, collates_read, collate_missed}
use Rattle.mc_parse.proofs.operators.more_collates.Goals as goal

pub loop-behind-init : goal.loop-behind-init
loop-behind-init c below = folds_none refl

pub loop-behind-smaller : goal.loop-behind-smaller
loop-behind-smaller c = link_shorter c.in-Some.ensures (c.in-Ok.ensures.ok 0)

pub loop-behind-preserved : goal.loop-behind-preserved
loop-behind-preserved c below =
    collate_read below _ _ _ _ _ _ _ (record { name = c.in-Ok.name; extent = c.in-Ok.extent })
    (c.loop-behind.invariant below) c.in-Some.ensures (c.in-Ok.ensures.ok below)
    c.in_ok-operand-in-Ok.ensures

pub returns-in-Err-clause-err : goal.returns-in-Err-clause-err
returns-in-Err-clause-err c below =
    subst (λ f. IsFault (behind rule.more_collates) rule.more_collates below c.args.place.tokens.now
    f)
    (sym c.instead.ensures)
    (collate_missed below _ _ _ _ _ _ (c.loop-behind.invariant below) c.in-Some.ensures
    (c.in-Err.ensures.err below))

pub returns-clause-ok : goal.returns-clause-ok
returns-clause-ok c below =
    collates_read below _ _ _ _ (c.loop-behind.invariant below) c.in_default.ensures
