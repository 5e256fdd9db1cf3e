-- Conjuncts of WHERE made ready for many rows: MySQL 8.0 manual, 13.2.10.
use Rattle.std.specs.Prelude.{◌≡◌, ⊤, ℕ, Bool, true, false, List, [], ◌∷◌, map, All, Option, Some}
use Rattle.std.specs.Prelude.{slice_get}
use Rattle.std.specs.Option.{option_map_or}
use Rattle.std.specs.declared.cmp.Ordering.{Ordering}
use Rattle.mc_ast.specs.declared.operators.CmpOp.{CmpOp}
use Rattle.mc_ast.specs.declared.operators.CmpOp.TheVariants.{NullEq}
use Rattle.mc_charset.specs.Chars.{chars, IsWellFormed}
use Rattle.mc_charset.specs.declared.charset.Charset.{Charset}
use Rattle.mc_like.specs.Items.{items_of}
use Rattle.mc_order.specs.Meaning.{Meaning, flat_list}
use Rattle.mc_order.specs.Order.{list_order}
use Rattle.mc_typing.specs.declared.typed.Node.{Node-F, out-Node}
use Rattle.mc_typing.specs.declared.typed.TypedExpr.{TypedExpr}
use Rattle.mc_values.specs.declared.value.Value.{Value}
use Rattle.mc_values.specs.declared.value.Value.TheVariants as value
use Rattle.mc_eval.specs.Node.{Place}
use Rattle.mc_eval.specs.Outcomes.Outcome.{gives}
use Rattle.mc_eval.specs.SetTexts.{set_text}
use Rattle.mc_eval.specs.Texts.{chars_in, text_in}
use Rattle.mc_eval.specs.Value.{value as value_of}
use Rattle.mc_eval.specs.declared.column_comparisons.ColumnComparison.{ColumnComparison}
use Rattle.mc_eval.specs.declared.column_matches.ColumnMatch.{ColumnMatch}
use Rattle.mc_eval.specs.declared.forms.Form.{Form}
use Rattle.mc_eval.specs.declared.truth.Truth.{Truth}
use Rattle.mc_eval.specs.declared.truth.Truth.TheVariants.{No, Unknown}
use Rattle.mc_eval.specs.declared.forms.Form.TheVariants.{Compared, Matched, Walked}

-- A conjunct: the expression that it stands for, and what is kept beside it.
pub record Conjunct : Type 0 where
  pub expr : TypedExpr
  pub form : Form

-- The expressions that conjuncts stand for.
abbrev pub prepared_exprs : List Conjunct → List TypedExpr
prepared_exprs conjuncts = map (λ c. c.expr) conjuncts

-- Two operands.
abbrev pub pair : {A : Type 0} → A → A → List A
pair one other = one ∷ other ∷ []

-- An operation on a column and a constant, which stands first or second.
abbrev pub on_sides : {A B : Type 0} → Bool → (A → A → B) → A → A → B
on_sides true operation column constant = operation constant column
on_sides false operation column constant = operation column constant

-- The value at a place of a row; NULL where it has no such place.
abbrev pub value_at : List Value → ℕ → Value
value_at row place = option_map_or (λ it. it) (slice_get row place) value.Null

-- In each row the expression has the value of the column at this place.
abbrev pub IsColumn : TypedExpr → ℕ → Type 0
IsColumn e place = (p : Place) → value_of p e ≡ gives (value_at p.row place)

-- In each row the expression has this value.
abbrev pub IsConstant : TypedExpr → Value → Type 0
IsConstant e it = (p : Place) → value_of p e ≡ gives it

-- The order of two texts in the set of a collation.
abbrev pub flat_texts : Meaning → List ℕ → List ℕ → Ordering
flat_texts m one other = list_order m.pad m.space
    (flat_list m (chars m.charset one)) (flat_list m (chars m.charset other))

-- A comparison of a text with what is no text.
abbrev pub without_order : CmpOp → Truth
without_order NullEq = No
without_order op = Unknown

-- The expression compares a column with a text, which is kept in the set of the collation.
pub record IsComparison (meaning : ℕ → Meaning) (e : TypedExpr) (it : ColumnComparison) : Type 0 where
  pub column : TypedExpr
  pub constant : TypedExpr
  pub set : Charset
  pub text : List ℕ
  pub node : out-Node e.node
      ≡ Node-F.Compare it.op (Some it.id) (on_sides it.text_first pair column constant)
  pub place : IsColumn column it.place
  pub literal : IsConstant constant (value.Str set text)
  pub kept : set_text it.text ≡ text_in (meaning it.id.0).charset (value.Str set text)
  pub well_formed : IsWellFormed (meaning it.id.0).charset (set_text it.text)

-- The expression is LIKE of a column and a text, whose items are kept in the set of the collation.
pub record IsMatch (meaning : ℕ → Meaning) (e : TypedExpr) (it : ColumnMatch) : Type 0 where
  pub column : TypedExpr
  pub constant : TypedExpr
  pub escape : Option ℕ
  pub set : Charset
  pub text : List ℕ
  pub node : out-Node e.node
      ≡ Node-F.Like (Some it.id) (pair column constant) escape it.negated
  pub place : IsColumn column it.place
  pub literal : IsConstant constant (value.Str set text)
  pub charset : it.pattern.charset ≡ (meaning it.id.0).charset
  pub items : it.pattern.items
      ≡ items_of escape (chars_in (meaning it.id.0).charset (value.Str set text))

-- What is kept beside an expression is right under these meanings.
abbrev pub IsFormOf : (ℕ → Meaning) → TypedExpr → Form → Type 0
IsFormOf meaning e (Compared it) = IsComparison meaning e it
IsFormOf meaning e (Matched it) = IsMatch meaning e it
IsFormOf meaning e Walked = ⊤

-- What is kept beside the expression of a conjunct is right under these meanings.
abbrev pub IsPrepared : (ℕ → Meaning) → Conjunct → Type 0
IsPrepared meaning conjunct = IsFormOf meaning conjunct.expr conjunct.form

-- What is kept beside each is right.
abbrev pub ArePrepared : (ℕ → Meaning) → List Conjunct → Type 0
ArePrepared meaning conjuncts = All (IsPrepared meaning) conjuncts
