use Rattle.std.proofs.Common.{subst, sym}
use Rattle.mc_sql.specs.Rules as rule
use Rattle.mc_parse.specs.Language.{behind_at}
use Rattle.mc_parse.specs.Read.{IsFault}
use Rattle.mc_parse.proofs.SaidWays.{tested_read, tested_missed}
use Rattle.mc_parse.proofs.comparison.tested.Goals as goal

pub returns-in_ok-is_null-in-Some-clause-ok : goal.returns-in_ok-is_null-in-Some-clause-ok
returns-in_ok-is_null-in-Some-clause-ok c alias below tokens p =
    tested_read alias below _ _ _ _ _ _ _ _ p (c.not_option-negated.ensures below) c.in-Some.ensures
    c.span.ensures c.in_ok-is_null-in-Some.ensures

pub returns-in-None-clause-err : goal.returns-in-None-clause-err
returns-in-None-clause-err c alias below tokens p =
    subst (λ f. IsFault (behind_at alias rule.pred) rule.pred below tokens f)
    (sym c.instead.ensures)
    (tested_missed alias below _ _ _ _ _ _ p (c.not_option-negated.ensures below) c.in-None.ensures
    c.left.ensures)
