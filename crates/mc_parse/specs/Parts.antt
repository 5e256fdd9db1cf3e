-- The parts of TRIM and SUBSTRING: MySQL 8.0 manual, 12.8.
use Rattle.std.specs.Prelude.{◌≡◌, ℕ, List, [], ◌∷◌, Option, codes}
use Rattle.std.specs.Option.{option_map}
use Rattle.mc_token.specs.declared.lexeme.Token.{Token}
use Rattle.mc_grammar.specs.Places.{Done}
use Rattle.mc_sql.specs.Classes.{Class, word}
use Rattle.mc_sql.specs.Rules.{Rule}
use Rattle.mc_ast.specs.declared.expr.Expr.{Expr}
use Rattle.mc_ast.specs.declared.operators.TrimSide.{TrimSide}
use Rattle.mc_ast.specs.declared.operators.TrimSide.TheVariants.{Both, Leading, Trailing}
use Rattle.mc_ast.specs.Values.{maybe_operand, Operand}
use Rattle.mc_parse.specs.Language.{language, at, behind}

-- The word of a side.
abbrev pub side_word : TrimSide → List ℕ
side_word Both = codes "both"
side_word Leading = codes "leading"
side_word Trailing = codes "trailing"

-- The words of all sides.
abbrev pub side_words : List Class
side_words =
    word (codes "both") ∷ word (codes "leading") ∷ word (codes "trailing") ∷ []

-- A rule that may be empty has read this operand, or none.
pub record MayRead (r : Rule) (below : ℕ) (tokens rest : List Token) (found : Option Expr)
    : Type 0 where
  pub member : Option Operand
  pub done : Done language (behind r) 1 (at below r) tokens rest (maybe_operand member)
  pub says : found ≡ option_map (λ x. x.expr) member
