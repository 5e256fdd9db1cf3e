use Rattle.std.proofs.Common.{sym, subst}
use Rattle.mc_sql.specs.Rules as rule
use Rattle.mc_parse.specs.Clauses.{IsClauseFault}
use Rattle.mc_parse.specs.declared.fault.Fault.{Fault}
use Rattle.mc_parse.proofs.Statements.{select_missed, statement_fault}
use Rattle.mc_parse.proofs.statement.statement.Goals as goal

pub returns-in_default-clause-err : goal.returns-in_default-clause-err
returns-in_default-clause-err c =
    select_missed _ _ _ _ c.explain_option-explain.ensures c.in_default.ensures c.left.ensures

pub returns-in-Err-clause-err : goal.returns-in-Err-clause-err
returns-in-Err-clause-err c =
    subst (λ (f : Fault). IsClauseFault rule.statement c.args.place.tokens.now f)
    (sym c.instead.ensures)
    (statement_fault _ _ _ _ _ _ _ c.explain_option-explain.ensures c.in-Some.ensures
    c.distinct_option-distinct.ensures c.in-Err.ensures.err)
