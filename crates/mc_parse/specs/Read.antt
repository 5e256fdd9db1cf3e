-- What a function that reads a rule answers: Aho, Lam, Sethi and Ullman, Compilers, 4.4.
use Rattle.std.specs.Prelude.{◌≡◌, ℕ, Bool, List, length}
use Rattle.mc_base.specs.declared.span.Span.{Span}
use Rattle.mc_token.specs.declared.lexeme.Token.{Token}
use Rattle.mc_grammar.specs.Ahead.{Ahead}
use Rattle.mc_grammar.specs.Places.{Done, Fails, IsTooDeep}
use Rattle.mc_grammar.specs.Room.{Admitted}
use Rattle.mc_sql.specs.Classes.{Class}
use Rattle.mc_sql.specs.Rules.{Rule}
use Rattle.mc_ast.specs.Spans.{span_of, span_from}
use Rattle.mc_ast.specs.Values.{Value, Operand, operand}
use Rattle.mc_parse.specs.declared.fault.Fault.{Fault}
use Rattle.mc_parse.specs.declared.fault.Fault.TheVariants.{NoReading, TooDeep, NoMemory}
use Rattle.mc_parse.specs.declared.operand.Operand.{Operand as Found}
use Rattle.mc_parse.specs.Language.{language, at, behind, behind_at, look_at}

-- The rule has read the tokens up to the rest, with this value, and they stand there.
pub record IsRead (after : Ahead (Admitted Class)) (look : ℕ) (r : Rule) (below : ℕ)
    (tokens rest : List Token) (value : Value) (extent : Span) : Type 0 where
  pub done : Done language after look (at below r) tokens rest value
  pub whole : extent ≡ span_of done.front

-- The rule can read the tokens up to the last so many, and no further.
pub record FailsAt (after : Ahead (Admitted Class)) (r : Rule) (below : ℕ) (tokens : List Token)
    (left : ℕ) : Type 0 where
  pub rest : List Token
  pub fails : Fails language after (at below r) tokens rest
  pub place : left ≡ length rest

-- The rule can read the tokens up to the last so many, and the next one stands too deep.
pub record IsTooDeepAt (after : Ahead (Admitted Class)) (r : Rule) (below : ℕ)
    (tokens : List Token) (left : ℕ) : Type 0 where
  pub rest : List Token
  pub deep : IsTooDeep language after (at below r) tokens rest
  pub place : left ≡ length rest

-- Why the rule does not read the tokens, by cases of the fault. Want of memory says nothing.
abbrev pub Cause : Ahead (Admitted Class) → Rule → ℕ → List Token → Fault → Type 0
Cause after r below tokens (NoReading left) = FailsAt after r below tokens left
Cause after r below tokens (TooDeep left) = IsTooDeepAt after r below tokens left
Cause after r below tokens NoMemory = Unit

-- The fault says why the rule does not read the tokens.
pub record IsFault (after : Ahead (Admitted Class)) (r : Rule) (below : ℕ) (tokens : List Token)
    (fault : Fault) : Type 0 where
  pub cause : Cause after r below tokens fault

-- An operand that is found, as the meaning of a rule.
abbrev pub as_operand : Found → Operand
as_operand x = record { expr = x.expr; extent = x.extent }

-- The rule has read this operand.
abbrev pub IsOperand : Rule → ℕ → List Token → List Token → Found → Type 0
IsOperand r below tokens rest x =
    IsRead (behind r) 1 r below tokens rest (operand (as_operand x)) x.extent

-- The same, where an alias may follow or not.
abbrev pub IsOperandAt : Bool → Rule → ℕ → List Token → List Token → Found → Type 0
IsOperandAt alias r below tokens rest x =
    IsRead (behind_at alias r) (look_at alias rest) r below tokens rest
    (operand (as_operand x)) x.extent

-- The rest of a chain is read, and what it has is put to the first operand.
pub record IsFolded {X : Type 0} (after : Ahead (Admitted Class)) (look : ℕ) (more : Rule)
    (value : List X → Value) (fold : Operand → List X → Operand) (below : ℕ)
    (tokens rest : List Token) (first last : Operand) : Type 0 where
  pub links : List X
  pub done : Done language after look (at below more) tokens rest (value links)
  pub folded : last ≡ fold first links
  pub whole : last.extent ≡ span_from first.extent done.front

-- The rule has read the tokens up to the rest, behind others: what stood from `first` on now ends
-- at the end of `last`.
pub record IsPut (after : Ahead (Admitted Class)) (look : ℕ) (r : Rule) (below : ℕ)
    (tokens rest : List Token) (value : Value) (first last : Span) : Type 0 where
  pub done : Done language after look (at below r) tokens rest value
  pub whole : last ≡ span_from first done.front
