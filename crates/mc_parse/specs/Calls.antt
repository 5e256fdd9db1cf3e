-- How far a call is read: MySQL 8.0 manual, 9.2.5.
use Rattle.std.specs.Prelude.{◌≡◌, ℕ, suc, false, List, [], ◌∷◌, ◌++◌, drop, length, IsTrue, codes}
use Rattle.mc_base.specs.declared.span.Span.{Span}
use Rattle.mc_token.specs.declared.lexeme.Lexeme.TheVariants.{Word, Sym}
use Rattle.mc_token.specs.declared.lexeme.Symbol.TheVariants.{LeftParen, RightParen}
use Rattle.mc_token.specs.declared.lexeme.Token.{Token}
use Rattle.mc_grammar.specs.Grammar.{Symbol}
use Rattle.mc_grammar.specs.Places.{Place, Inside, Done}
use Rattle.mc_grammar.specs.Room.{Roomed, Admitted}
use Rattle.mc_sql.specs.Classes.{Class, word, mark, called, is_called}
use Rattle.mc_sql.specs.Rules.{Rule, Alternative, call, or, more_ors}
use Rattle.mc_ast.specs.declared.expr.Expr.{Expr}
use Rattle.mc_ast.specs.declared.expr.Form.{Form}
use Rattle.mc_ast.specs.Grouping.{whole}
use Rattle.mc_ast.specs.Spans.{from_to}
use Rattle.mc_ast.specs.Values.{Value, a_token, operand, operands, exprs, Operand}
use Rattle.mc_parse.specs.declared.call.CallWord.{CallWord}
use Rattle.mc_parse.specs.declared.call.CallWord.TheVariants.{Convert, Cast, Count, Trim}
use Rattle.mc_parse.specs.declared.call.CallWord.TheVariants.{Substring, WeightString, Other}
use Rattle.mc_parse.specs.declared.fault.Fault.{Fault}
use Rattle.mc_parse.specs.declared.fault.Fault.TheVariants.{NoReading}
use Rattle.mc_parse.specs.Language.{language, at, behind, behind_at}
use Rattle.mc_parse.specs.Place.{is_missing, are_missing, span_at, IsNext}
use Rattle.mc_parse.specs.Read.{IsRead, IsFault}

-- The words that begin a call with arguments of their own, and what else begins one.
abbrev pub call_words : List Class
call_words =
    word (codes "convert") ∷ word (codes "cast") ∷ word (codes "count") ∷ word (codes "trim") ∷
    word (codes "substring") ∷ word (codes "weight_string") ∷ []

-- The word of a call that is none of those.
pub record IsOther (name : List ℕ) (tokens rest : List Token) : Type 0 where
  pub next : IsNext (Word name) tokens rest
  pub calls : IsTrue (is_called name)
  pub others : IsTrue (are_missing call_words tokens)

-- The word of a call is next.
abbrev pub IsCallWord : CallWord → List ℕ → List Token → List Token → Type 0
IsCallWord Convert name tokens rest =
    (name ≡ codes "convert") × IsNext (Word (codes "convert")) tokens rest
IsCallWord Cast name tokens rest = (name ≡ codes "cast") × IsNext (Word (codes "cast")) tokens rest
IsCallWord Count name tokens rest =
    (name ≡ codes "count") × IsNext (Word (codes "count")) tokens rest
IsCallWord Trim name tokens rest = (name ≡ codes "trim") × IsNext (Word (codes "trim")) tokens rest
IsCallWord Substring name tokens rest =
    (name ≡ codes "substring") × IsNext (Word (codes "substring")) tokens rest
IsCallWord WeightString name tokens rest =
    (name ≡ codes "weight_string") × IsNext (Word (codes "weight_string")) tokens rest
IsCallWord Other name tokens rest = IsOther name tokens rest

-- The word of a call and its parenthesis are next.
pub record IsOpened (w : CallWord) (name : List ℕ) (tokens rest : List Token) : Type 0 where
  pub between : List Token
  pub begins : IsCallWord w name tokens between
  pub opens : IsNext (Sym LeftParen) between rest

-- A place in an alternative of a call, of which so many symbols are read.
abbrev pub call_place : ℕ → ℕ → Alternative
    → Place (Admitted Class) (Roomed Rule) (Roomed Alternative)
call_place below taken a = record {
  alternative = record { what = a; room = suc (suc below) };
  left = drop taken (language.grammar.symbols (record { what = a; room = suc (suc below) }));
}

abbrev pub call_places : ℕ → ℕ → List Alternative
    → List (Place (Admitted Class) (Roomed Rule) (Roomed Alternative))
call_places below taken [] = []
call_places below taken (a ∷ as') = call_place below taken a ∷ call_places below taken as'

-- A call is read so many symbols far, by each of these alternatives, with these values behind its
-- `(`; `below` levels are left for what stands inside.
pub record IsInCall (name : List ℕ) (below taken : ℕ) (alternatives : List Alternative)
    (values : List Value) (tokens rest : List Token) : Type 0 where
  pub first : Span
  pub second : Span
  pub others : List Token
  pub inside : Inside language (behind call) 1 (at (suc below) call)
      (call_places below taken alternatives)
      (a_token (record { span = first; kind = Word name })
      ∷ a_token (record { span = second; kind = Sym LeftParen }) ∷ values)
      tokens
      (record { span = first; kind = Word name } ∷ record { span = second; kind = Sym LeftParen }
      ∷ others)
      rest

-- A call of this form is read, all of whose tokens are its own.
abbrev pub IsCallRead : ℕ → List Token → List Token → Span → Form → Type 0
IsCallRead below tokens rest span form =
    IsRead (behind call) 1 call (suc below) tokens rest (operand (whole span form)) span

abbrev pub IsCallFault : ℕ → List Token → Fault → Type 0
IsCallFault below tokens fault = IsFault (behind call) call (suc below) tokens fault

-- The `)` of a call is next, whose first tokens those are, and the call stands there.
pub record IsClosed (tokens rest behind' : List Token) (span : Span) : Type 0 where
  pub next : IsNext (Sym RightParen) rest behind'
  pub whole : span ≡ from_to (span_at tokens) (span_at rest)

-- It is not next.
pub record IsUnclosed (rest : List Token) (fault : Fault) : Type 0 where
  pub missing : IsTrue (is_missing (mark RightParen) rest)
  pub says : fault ≡ NoReading (length rest)

-- One operand is read, and appended to a list.
pub record IsPushed (below : ℕ) (tokens rest : List Token) (old new : List Expr) : Type 0 where
  pub member : Operand
  pub read : IsRead (behind_at false or) 1 or below tokens rest (operand member) member.extent
  pub listed : new ≡ old ++ (member.expr ∷ [])

-- Operands behind commas are read, and appended to a list.
pub record HasOrs (below : ℕ) (tokens rest : List Token) (old new : List Expr) : Type 0 where
  pub members : List Operand
  pub done : Done language (behind more_ors) 1 (at below more_ors) tokens rest (operands members)
  pub listed : new ≡ old ++ exprs members
