use Rattle.mc_grammar.proofs.SameReadings.{same_readings}
use Rattle.mc_sql.specs.Rules.{statement}
use Rattle.mc_sql.specs.Statements.{statements}
use Rattle.mc_sql.specs.Tables.{tables}
use Rattle.mc_sql.proofs.Sound.{told_apart, ends}
use Rattle.mc_sql.proofs.once.statements_read_once.Goals as goal

pub returns : goal.returns
returns c = λ tokens f h. same_readings statements tables 16 told_apart statement tokens f h ends
