use Rattle.mc_grammar.proofs.Excludes.{reading_or_none, reading_or_deep, none_or_deep, one_none}
use Rattle.mc_grammar.proofs.Excludes.{one_deep}
use Rattle.mc_sql.specs.Rules.{statement}
use Rattle.mc_sql.specs.Statements.{statements}
use Rattle.mc_sql.specs.Nest.{deeper, nest_limit}
use Rattle.mc_sql.proofs.exclusive.statements_have_one_answer.Goals as goal

pub returns-clause-reading_or_none : goal.returns-clause-reading_or_none
returns-clause-reading_or_none c = λ tokens front rest p q.
    reading_or_none statements deeper nest_limit statement tokens front rest p q

pub returns-clause-reading_or_deep : goal.returns-clause-reading_or_deep
returns-clause-reading_or_deep c = λ tokens front rest p q.
    reading_or_deep statements deeper nest_limit statement tokens front rest p q

pub returns-clause-none_or_deep : goal.returns-clause-none_or_deep
returns-clause-none_or_deep c = λ tokens f v h w p q.
    none_or_deep statements deeper nest_limit statement tokens f v h w p q

pub returns-clause-one_none : goal.returns-clause-one_none
returns-clause-one_none c = λ tokens f v h w p q.
    one_none statements deeper nest_limit statement tokens f v h w p q

pub returns-clause-one_deep : goal.returns-clause-one_deep
returns-clause-one_deep c = λ tokens f v h w p q.
    one_deep statements deeper nest_limit statement tokens f v h w p q
