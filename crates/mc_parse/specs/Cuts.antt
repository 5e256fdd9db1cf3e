-- How much of a text WEIGHT_STRING takes: MySQL 8.0 manual, 12.8.
use Rattle.std.specs.Prelude.{ℕ, ℤ, List, Option, codes}
use Rattle.mc_token.specs.declared.lexeme.Lexeme.TheVariants.{Word}
use Rattle.mc_token.specs.declared.lexeme.Token.{Token}
use Rattle.mc_grammar.specs.Places.{Done}
use Rattle.mc_sql.specs.Rules.{cut_option}
use Rattle.mc_ast.specs.declared.operators.Cut.{Cut}
use Rattle.mc_ast.specs.declared.operators.Cut.TheVariants as a_cut
use Rattle.mc_ast.specs.Values.{cut}
use Rattle.mc_parse.specs.declared.call_weight.CutUnit.{CutUnit}
use Rattle.mc_parse.specs.declared.call_weight.CutUnit.TheVariants.{Chars, Bytes}
use Rattle.mc_parse.specs.Language.{language, at, behind}
use Rattle.mc_parse.specs.Place.{IsNext}

-- So many of the unit.
abbrev pub cut_in : CutUnit → ℤ → Cut
cut_in Chars number = a_cut.Chars number
cut_in Bytes number = a_cut.Bytes number

-- The word behind AS.
abbrev pub unit_word : CutUnit → List ℕ
unit_word Chars = codes "char"
unit_word Bytes = codes "binary"

-- AS and that word are next.
pub record IsCutWord (unit : CutUnit) (tokens rest : List Token) : Type 0 where
  pub between : List Token
  pub begins : IsNext (Word (codes "as")) tokens between
  pub says : IsNext (Word (unit_word unit)) between rest

-- [AS (CHAR | BINARY) ( Int )] is read, with this cut.
abbrev pub HasCut : ℕ → List Token → List Token → Option Cut → Type 0
HasCut below tokens rest c =
    Done language (behind cut_option) 1 (at below cut_option) tokens rest (cut c)
