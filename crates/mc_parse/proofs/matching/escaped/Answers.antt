use Rattle.std.proofs.Common.{subst, sym}
use Rattle.mc_sql.specs.Rules as rule
use Rattle.mc_parse.specs.Language.{behind_at}
use Rattle.mc_parse.specs.Read.{IsFault}
use Rattle.mc_parse.proofs.MatchingWays.{escaped_read, escaped_missed}
use Rattle.mc_parse.proofs.matching.escaped.Goals as goal

pub returns-in_ok-like-in-Ok-clause-ok : goal.returns-in_ok-like-in-Ok-clause-ok
returns-in_ok-like-in-Ok-clause-ok c below tokens p =
    escaped_read _ below _ _ _ _ _ _ _ _ _ p (c.in-Ok.ensures.ok below) c.in_ok-like-in-Ok.ensures

pub returns-in-Err-clause-err : goal.returns-in-Err-clause-err
returns-in-Err-clause-err c below tokens p =
    subst (λ f. IsFault (behind_at c.args.alias rule.pred) rule.pred below tokens f)
    (sym c.instead_of_two.ensures)
    (escaped_missed _ below _ _ _ _ _ _ p (c.in-Err.ensures.err below))
