-- Aggregates of the rows of a group: MySQL 8.0 manual, 12.19.1.
use Rattle.std.specs.Prelude.{ℕ, ◌+◌, Bool, true, false, List, [], ◌∷◌, Option, Some, None, Result}
use Rattle.std.specs.Prelude.{Ok, Err, codes, if◌then◌else◌}
use Rattle.mc_base.specs.declared.refusal.Refusal.{Refusal}
use Rattle.mc_ast.specs.declared.expr.Expr.{Expr, fold-Expr}
use Rattle.mc_ast.specs.declared.expr.Form.{Form-F}
use Rattle.mc_typing.specs.declared.callee.Callee.{Callee}
use Rattle.mc_typing.specs.declared.callee.Callee.TheVariants.{Aggregate, Charset, Collation}
use Rattle.mc_typing.specs.declared.callee.Callee.TheVariants.{Coercibility}
use Rattle.mc_typing.specs.declared.place.Place.{Place}
use Rattle.mc_typing.specs.declared.place.Place.TheVariants.{Row}
use Rattle.mc_typing.specs.declared.typed.AggName.{AggName}
use Rattle.mc_typing.specs.declared.typed.AggName.TheVariants.{Count, Min, Max, Sum}
use Rattle.mc_typing.specs.declared.typed.Node.TheVariants as node
use Rattle.mc_typing.specs.declared.typed.Ty.{Ty}
use Rattle.mc_typing.specs.declared.typed.Ty.TheVariants.{Int}
use Rattle.mc_typing.specs.declared.typed.TypedExpr.{TypedExpr}
use Rattle.mc_typing.specs.Forms.{parts}
use Rattle.mc_typing.specs.Functions.{callee_of}
use Rattle.mc_typing.specs.Messages.{wrong_argument}
use Rattle.mc_typing.specs.Operands.{is_text}

-- A name calls an aggregate.
abbrev pub is_aggregate : Option Callee → Bool
is_aggregate (Some (Aggregate name)) = true
is_aggregate callee = false

-- The form itself is an aggregate.
abbrev pub is_aggregate_form : {X A : Type 0} → Form-F X A → Bool
is_aggregate_form Form-F.CountAll = true
is_aggregate_form (Form-F.CountDistinct t) = true
is_aggregate_form (Form-F.Call name ts) = is_aggregate (callee_of name)
is_aggregate_form form = false

-- The type of an aggregate of an argument of a type.
abbrev pub aggregate_ty : AggName → Ty → Ty
aggregate_ty Min ty = ty
aggregate_ty Max ty = ty
aggregate_ty name ty = Int

-- The aggregate takes no argument of the type: texts have no sum.
abbrev pub unfit : AggName → Ty → Bool
unfit Sum ty = is_text ty
unfit name ty = false

-- An aggregate where it stands: in a row it is refused.
abbrev pub aggregate_in : Place → List ℕ → Result TypedExpr Refusal
    → Result TypedExpr Refusal
aggregate_in Row name t = Err (wrong_argument name)
aggregate_in place name t = t

-- COUNT(*) of this number among the aggregates of its statement.
abbrev pub count_all : Place → ℕ → Result TypedExpr Refusal
count_all place number = aggregate_in place (codes "count")
    (Ok (record { node = node.Aggregate Count false None number; ty = Int }))

-- An aggregate of its argument.
abbrev pub aggregate_expr : ℕ → AggName → Bool → TypedExpr → TypedExpr
aggregate_expr number name distinct x = record {
  node = node.Aggregate name distinct (Some x) number;
  ty = aggregate_ty name x.ty;
}

-- The same where it stands, by the name that it is called by.
abbrev pub aggregate_of : Place → ℕ → List ℕ → AggName → Bool → TypedExpr
    → Result TypedExpr Refusal
aggregate_of place number op name distinct x = aggregate_in place op
    (if unfit name x.ty then Err (wrong_argument op)
    else Ok (aggregate_expr number name distinct x))

-- A call of it with typed arguments.
abbrev pub aggregate_call : Place → ℕ → List ℕ → AggName → List TypedExpr
    → Result TypedExpr Refusal
aggregate_call place number op name [] = Err (wrong_argument op)
aggregate_call place number op name (x ∷ xs) = aggregate_of place number op name false x

-- Of the value of its argument the function shows the type alone.
abbrev pub shows_type : Option Callee → Bool
shows_type (Some Charset) = true
shows_type (Some Collation) = true
shows_type (Some Coercibility) = true
shows_type callee = false

-- The form is a constant, whatever its operands are.
abbrev pub is_constant : {X A : Type 0} → Form-F X A → Bool
is_constant (Form-F.Call name ts) = shows_type (callee_of name)
is_constant form = false

-- The total of what members count.
abbrev pub total : {A : Type 0} → (A → ℕ) → List A → ℕ
total count [] = 0
total count (x ∷ xs) = count x + total count xs

-- How many aggregates a form has once it is typed, where its operands have so many.
abbrev pub form_count : {X A : Type 0} → Form-F X A → ℕ → ℕ
form_count form below = if is_constant form then 0
    else (if is_aggregate_form form then below + 1 else below)

-- How many aggregates an expression has once it is typed.
unfoldable pub aggregate_count : Expr → ℕ
aggregate_count expr = fold-Expr ℕ ℕ (λ form. form_count form (total (λ n. n) (parts form)))
    (λ e. e.form) expr

-- What comes of members, each from a number on that those before it raise by what they count.
abbrev pub from_number : {A B : Type 0} → (A → ℕ) → (ℕ → A → B) → ℕ → List A → List B
from_number count at n [] = []
from_number count at n (x ∷ xs) = at n x ∷ from_number count at (n + count x) xs
