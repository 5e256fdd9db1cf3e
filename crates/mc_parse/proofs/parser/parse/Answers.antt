use Rattle.std.proofs.Common.{◌∙◌, subst, List}
use Rattle.mc_token.specs.declared.lexeme.Token.{Token}
use Rattle.mc_sql.specs.Rules.{statement}
use Rattle.mc_ast.specs.Values.{a_statement}
use Rattle.mc_parse.specs.Clauses.{IsClause}
use Rattle.mc_parse.proofs.parser.parse.Goals as goal

pub returns-in-Ok : goal.returns-in-Ok
returns-in-Ok c =
    c.whole.ensures c.args.tokens.now c.args.end
    (subst (λ (ts : List Token).
    IsClause statement ts c.in-Ok.rest.tokens.now (a_statement c.in-Ok.tree))
    (c.new.ensures ∙ c.as_slice-tokens.ensures) c.in-Ok.ensures.ok)
