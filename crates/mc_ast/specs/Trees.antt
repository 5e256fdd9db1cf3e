-- The tree of a list of tokens.
use Rattle.std.specs.Prelude.{◌≡◌, List, [], ◌∷◌}
use Rattle.mc_token.specs.declared.lexeme.Token.{Token}
use Rattle.mc_grammar.specs.Reading.{Forest, bare, leaf, node, tokens_of, IsReading}
use Rattle.mc_sql.specs.Rules.{Alternative, statement}
use Rattle.mc_sql.specs.Statements.{statements}
use Rattle.mc_ast.specs.declared.statement.Statement.{Statement}
use Rattle.mc_ast.specs.Values.{Value, a_token, a_statement}
use Rattle.mc_ast.specs.Meaning.{meaning}
use Rattle.mc_ast.specs.Spans.{span_of}

-- What the trees of a forest mean, from left to right.
abbrev pub meanings : Forest Alternative Token → List Value
meanings bare = []
meanings (leaf token others) = a_token token ∷ meanings others
meanings (node a inner others) =
    meaning a (span_of (tokens_of inner)) (meanings inner) ∷ meanings others

-- A reading of the tokens means this statement.
pub record IsTreeOf (tokens : List Token) (tree : Statement) : Type 0 where
  pub reading : Forest Alternative Token
  pub reads : IsReading statements statement tokens reading
  pub means : meanings reading ≡ a_statement tree ∷ []
