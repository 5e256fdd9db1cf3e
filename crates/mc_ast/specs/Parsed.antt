-- What comes of the tokens of a statement: their tree, or the place where they cannot be read on,
-- or the one where they stand too deep. Aho, Lam, Sethi and Ullman, Compilers, 4.1.3, where a
-- parser finds an error as soon as one can be seen.
use Rattle.std.specs.Prelude.{◌≡◌, ℕ, List, [], ◌∷◌, map}
use Rattle.mc_token.specs.declared.lexeme.Token.{Token}
use Rattle.mc_grammar.specs.Answers.{HasNoReading, HasDeepReading}
use Rattle.mc_grammar.specs.Nest.{bound, nested, AreWithin}
use Rattle.mc_grammar.specs.Reading.{Forest, IsReading}
use Rattle.mc_sql.specs.Nest.{deeper, nest_limit}
use Rattle.mc_sql.specs.Rules.{Alternative, statement}
use Rattle.mc_sql.specs.Statements.{statements}
use Rattle.mc_ast.specs.declared.statement.Statement.{Statement}
use Rattle.mc_ast.specs.Values.{a_statement}
use Rattle.mc_ast.specs.Trees.{meanings}

-- A reading of the tokens, none of which stands too deep, means this statement.
pub record IsTreeWithin (tokens : List Token) (tree : Statement) : Type 0 where
  pub reading : Forest Alternative Token
  pub reads : IsReading statements statement tokens reading
  pub within : AreWithin nest_limit (nested deeper 0 [] reading) (map (λ x. bound x) tokens)
  pub means : meanings reading ≡ a_statement tree ∷ []

-- The byte at which tokens begin; of none, this end.
abbrev pub place_of : ℕ → List Token → ℕ
place_of end [] = end
place_of end (token ∷ tokens) = token.span.start

-- The tokens can be read up to this byte, the start of one or their end, and no further.
pub record IsStuckAt (tokens : List Token) (end n : ℕ) : Type 0 where
  pub front : List Token
  pub rest : List Token
  pub stuck : HasNoReading statements deeper nest_limit statement tokens front rest
  pub place : n ≡ place_of end rest

-- The tokens can be read up to the one that starts at this byte, and with it only too deep.
pub record IsTooDeepAt (tokens : List Token) (n : ℕ) : Type 0 where
  pub front : List Token
  pub token : Token
  pub behind : List Token
  pub deep : HasDeepReading statements deeper nest_limit statement tokens front (token ∷ behind)
  pub place : n ≡ token.span.start
