-- Inside what is said of a sum: the alternative is known, and some of it is read.
use Rattle.std.specs.Prelude.{◌≡◌, ◌⊎◌, ℕ, suc, ◌≤◌, Bool, true, false, List, [], ◌∷◌, length}
use Rattle.std.specs.Prelude.{codes}
use Rattle.mc_base.specs.declared.span.Span.{Span}
use Rattle.mc_token.specs.declared.lexeme.Lexeme.TheVariants.{Sym}
use Rattle.mc_token.specs.declared.lexeme.Symbol.TheVariants.{LeftParen, RightParen}
use Rattle.mc_token.specs.declared.lexeme.Token.{Token}
use Rattle.mc_grammar.specs.Grammar.{Symbol, one, rule}
use Rattle.mc_grammar.specs.Places.{Inside}
use Rattle.mc_grammar.specs.Room.{Roomed, Admitted, with_room}
use Rattle.mc_sql.specs.Classes.{Class, word, mark}
use Rattle.mc_sql.specs.Rules.{Rule, Alternative, pred, sum, or, more_ors, not_option}
use Rattle.mc_sql.specs.Rules.{escape_option}
use Rattle.mc_sql.specs.Rules.{compared, tested_null, matched, listed, ranged}
use Rattle.mc_ast.specs.declared.operators.CmpOp.{CmpOp}
use Rattle.mc_ast.specs.Spans.{from_to, span_of}
use Rattle.mc_ast.specs.Values.{Value, operand, flag, comparison, a_token}
use Rattle.mc_parse.specs.declared.operand.Operand.{Operand as Found}
use Rattle.mc_parse.specs.Language.{language, at, behind_at}
use Rattle.mc_parse.specs.Read.{as_operand}

-- Some of the alternative is read, from `first` to `last` and with these values, and these symbols
-- are left.
pub record IsSaid (alias : Bool) (below : ℕ) (a : Alternative)
    (left : List (Symbol (Admitted Class) (Roomed Rule))) (values : List Value)
    (tokens rest : List Token) (first last : Span) : Type 0 where
  pub front : List Token
  pub inside : Inside language (behind_at alias pred) 1 (at below pred)
      (record { alternative = record { what = a; room = suc below }; left = left } ∷ []) values
      tokens front rest
  pub some : 1 ≤ length front
  pub stands : from_to first last ≡ span_of front

-- A comparison, behind its sign.
pub record IsComparing (alias : Bool) (below : ℕ) (op : CmpOp) (tokens rest : List Token)
    (left : Found) : Type 0 where
  pub last : Span
  pub said : IsSaid alias below compared (with_room (suc below) [] (rule sum ∷ []))
      (operand (as_operand left) ∷ comparison op ∷ []) tokens rest left.extent last

-- IS NULL, behind IS.
pub record IsTesting (alias : Bool) (below : ℕ) (tokens rest : List Token)
    (left : Found) : Type 0 where
  pub last : Span
  pub token : Token
  pub said : IsSaid alias below tested_null
      (with_room (suc below) [] (rule not_option ∷ one (word (codes "null")) ∷ []))
      (operand (as_operand left) ∷ a_token token ∷ []) tokens rest left.extent last

-- LIKE, behind the word.
pub record IsMatching (alias : Bool) (below : ℕ) (negated : Bool) (tokens rest : List Token)
    (left : Found) : Type 0 where
  pub last : Span
  pub token : Token
  pub said : IsSaid alias below matched
      (with_room (suc below) [] (rule sum ∷ rule escape_option ∷ []))
      (operand (as_operand left) ∷ flag negated ∷ a_token token ∷ []) tokens rest left.extent last

-- LIKE, behind its pattern.
pub record IsEscaping (alias : Bool) (below : ℕ) (negated : Bool) (tokens rest : List Token)
    (left pattern : Found) : Type 0 where
  pub token : Token
  pub said : IsSaid alias below matched (with_room (suc below) [] (rule escape_option ∷ []))
      (operand (as_operand left) ∷ flag negated ∷ a_token token ∷ operand (as_operand pattern) ∷ [])
      tokens rest left.extent pattern.extent

-- IN, behind the word.
pub record IsListing (alias : Bool) (below : ℕ) (negated : Bool) (tokens rest : List Token)
    (left : Found) : Type 0 where
  pub last : Span
  pub token : Token
  pub said : IsSaid alias below listed
      (with_room (suc below) (true ∷ true ∷ true ∷ false ∷ [])
      (one (mark LeftParen) ∷ rule or ∷ rule more_ors ∷ one (mark RightParen) ∷ []))
      (operand (as_operand left) ∷ flag negated ∷ a_token token ∷ []) tokens rest left.extent last

-- BETWEEN, behind the word.
pub record IsRanging (alias : Bool) (below : ℕ) (negated : Bool) (tokens rest : List Token)
    (left : Found) : Type 0 where
  pub last : Span
  pub token : Token
  pub said : IsSaid alias below ranged
      (with_room (suc below) [] (rule sum ∷ one (word (codes "and")) ∷ rule sum ∷ []))
      (operand (as_operand left) ∷ flag negated ∷ a_token token ∷ []) tokens rest left.extent last
