-- Rows that a plan need not read: each is rejected by a conjunct, without a fault.
use Rattle.std.specs.Prelude.{◌≡◌, ℕ, false, List, [], Some, ⊤}
use Rattle.mc_catalog.specs.declared.catalog.Catalog.{Catalog}
use Rattle.mc_charset.specs.Chars.{chars, IsWellFormed}
use Rattle.mc_charset.specs.declared.charset.Charset.{Charset}
use Rattle.mc_charset.specs.declared.collation_id.CollId.{CollId}
use Rattle.mc_eval.specs.Acceptance.{acceptance, firm}
use Rattle.mc_eval.specs.Node.{Place, place}
use Rattle.mc_eval.specs.Truths.{truth}
use Rattle.mc_eval.specs.Value.{value as value_of}
use Rattle.mc_eval.specs.declared.truth.Truth.TheVariants.{No}
use Rattle.mc_order.specs.Meaning.{Meaning}
use Rattle.mc_range.specs.Condition.{Meets}
use Rattle.mc_range.specs.declared.condition.Cond.{Cond}
use Rattle.mc_typing.specs.OfType.{IsRowOf}
use Rattle.mc_typing.specs.SoundStatements.{row_types}
use Rattle.mc_typing.specs.declared.typed.Typed.{Typed}
use Rattle.mc_typing.specs.declared.typed.TypedExpr.{TypedExpr}
use Rattle.mc_values.specs.declared.value.Value.{Value}
use Rattle.mc_values.specs.declared.value.Value.TheVariants as value
use Rattle.mc_plan.specs.Conds.{cond_of}
use Rattle.mc_plan.specs.Entries.{is_entry, value_at}
use Rattle.mc_plan.specs.declared.plan.Plan.{Plan}

-- The value is NULL, or a text of the set.
abbrev pub IsOfSet : Charset → Value → Type 0
IsOfSet set value.Null = ⊤
IsOfSet set (value.Int number) = ⊥
IsOfSet set (value.Str from text) = (from ≡ set) × IsWellFormed set text

-- The value is a text that meets the condition; NULL meets none.
abbrev pub IsMetBy : Meaning → Cond → Value → Type 0
IsMetBy m cond (value.Str set text) = Meets m (chars m.charset text) cond
IsMetBy m cond it = ⊥

-- The expression is false or NULL, and no fault.
abbrev pub IsRejected : Place → TypedExpr → Type 0
IsRejected p e = firm (truth (value_of p e)) ≡ No

-- An expression that is a condition on the column rejects the row where the column's value does
-- not meet the condition.
abbrev pub RejectsOthers : Place → ℕ → CollId → TypedExpr → Cond → Type 0
RejectsOthers p column coll e cond =
    cond_of (p.meaning coll.0).charset column coll e ≡ Some cond
    → IsOfSet (p.meaning coll.0).charset (value_at p.row column)
    → (IsMetBy (p.meaning coll.0) cond (value_at p.row column) → ⊥) → IsRejected p e

-- The conjuncts accept no row of the table that the plan doesn't read, and none of these rows is a
-- fault.
abbrev pub LosesNone : Catalog → (ℕ → Meaning) → Typed → Plan → Type 0
LosesNone c meaning q plan = (row : List Value) → IsRowOf (row_types c q.table) row
    → is_entry c meaning q.table plan row ≡ false
    → acceptance (place row [] meaning) q.conjuncts ≡ No
