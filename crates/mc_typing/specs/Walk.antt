-- How the walk over a tree goes: the operands of a node are typed into one list, a number counts
-- their aggregates, and the node takes both.
use Rattle.std.specs.Prelude.{ℕ, ◌+◌, ◌&&◌, List, [], ◌∷◌, ◌++◌, Option, Some, None, Result, Ok}
use Rattle.std.specs.Prelude.{length, nat_eq, if◌then◌else◌}
use Rattle.mc_base.specs.Results.{result_and_then}
use Rattle.mc_base.specs.declared.refusal.Refusal.{Refusal}
use Rattle.mc_ast.specs.declared.expr.Expr.{Expr}
use Rattle.mc_ast.specs.declared.expr.Form.{Form, Form-F}
use Rattle.mc_catalog.specs.declared.catalog.Catalog.{Catalog}
use Rattle.mc_typing.specs.declared.callee.Callee.{Callee}
use Rattle.mc_typing.specs.declared.place.Place.{Place}
use Rattle.mc_typing.specs.declared.scope.Scope.{Scope}
use Rattle.mc_typing.specs.declared.shape.Shape.{Shape}
use Rattle.mc_typing.specs.declared.shape.Shape.TheVariants.{Leaf, Single, Several}
use Rattle.mc_typing.specs.declared.typed.TypedExpr.{TypedExpr}
use Rattle.mc_typing.specs.Aggregates.{aggregate_count, is_aggregate, is_aggregate_form}
use Rattle.mc_typing.specs.Aggregates.{is_constant, total}
use Rattle.mc_typing.specs.Exprs.{Typing, operands, taker_of, turned, typed_node, typing, typings}
use Rattle.mc_typing.specs.Exprs.{usual_id}
use Rattle.mc_typing.specs.Forms.{parts}
use Rattle.mc_typing.specs.Places.{place_below}
use Rattle.mc_typing.specs.Functions.{callee_of, turns_to_text}
use Rattle.mc_typing.specs.Literals.{null_const}
use Rattle.mc_typing.specs.Operators.{converted, converted_by_name}
use Rattle.mc_typing.specs.Scope.{connection_set}

-- CAST to characters of a set, that of the connection where none is named.
abbrev pub cast_char : Catalog → Scope → Option (List ℕ) → TypedExpr → Typing
cast_char c s (Some name) x = converted_by_name c (usual_id c) name x
cast_char c s None x = Ok (converted (connection_set c s) s.connection x)

-- How many operands a call takes: an aggregate takes one by itself.
abbrev pub call_shape : Option Callee → ℕ → Shape
call_shape callee n = if is_aggregate callee && nat_eq n 1 then Single else Several

-- How many operands a form has: none, one, or a list of them.
abbrev pub shape_of : {X A : Type 0} → Form-F X A → Shape
shape_of (Form-F.Not t) = Single
shape_of (Form-F.IsNull t negated) = Single
shape_of (Form-F.Neg t) = Single
shape_of (Form-F.Collate t name) = Single
shape_of (Form-F.Convert t set) = Single
shape_of (Form-F.CastChar t set) = Single
shape_of (Form-F.CastBinary t) = Single
shape_of (Form-F.CountDistinct t) = Single
shape_of (Form-F.WeightString t cut) = Single
shape_of (Form-F.Or ts) = Several
shape_of (Form-F.And ts) = Several
shape_of (Form-F.Xor l r) = Several
shape_of (Form-F.Compare op l r) = Several
shape_of (Form-F.Like l r escape negated) = Several
shape_of (Form-F.In t ts negated) = Several
shape_of (Form-F.Between t low high negated) = Several
shape_of (Form-F.Arith op l r) = Several
shape_of (Form-F.Trim side removed t) = Several
shape_of (Form-F.SubstringFrom t start len) = Several
shape_of (Form-F.Call name ts) = call_shape (callee_of name) (length ts)
shape_of form = Leaf

-- The number behind a form, where its operands have their own from one number to another.
abbrev pub settled : {X A : Type 0} → Form-F X A → ℕ → ℕ → ℕ
settled form first next = if is_constant form then first
    else (if is_aggregate_form form then next + 1 else next)

-- A typed expression, and the number behind its aggregates.
abbrev pub numbered : Catalog → Scope → List Expr → Place → ℕ → Expr
    → Result (TypedExpr × ℕ) Refusal
numbered c s groups place number expr = result_and_then
    (λ x. Ok (x, number + aggregate_count expr)) (typing c s groups place number expr)

-- A form over its operands, at the form's place, and the number behind the operands' aggregates.
abbrev pub form_typing : Catalog → Scope → List Expr → Place → ℕ → Form-F Form Expr → Typing
form_typing c s groups place number form = result_and_then
    (typed_node c s place (number + total aggregate_count (parts form)) form)
    (operands c s (taker_of form)
    (typings c s groups (place_below place form) number (parts form)))

abbrev pub numbered_form : Catalog → Scope → List Expr → Place → ℕ → Form-F Form Expr
    → Result (TypedExpr × ℕ) Refusal
numbered_form c s groups place number form = result_and_then
    (λ x. Ok (x, number + total aggregate_count (parts form)))
    (form_typing c s groups place number form)

-- The first of such, if there is one.
abbrev pub first_numbered : Catalog → Scope → List Expr → Place → ℕ → List Expr
    → Result (TypedExpr × ℕ) Refusal
first_numbered c s groups place number [] = Ok (null_const, number)
first_numbered c s groups place number (expr ∷ exprs) = numbered c s groups place number expr

-- Typed operands with one more behind them, and the number behind all their aggregates.
abbrev pub with_operand : Catalog → Scope → Option Callee → List TypedExpr
    → Result (TypedExpr × ℕ) Refusal → Result (List TypedExpr × ℕ) Refusal
with_operand c s callee xs t = result_and_then (λ x.
    Ok (xs ++ turned c s (turns_to_text callee (length xs)) x.0 ∷ [], x.1)) t

-- Typed operands with others behind them.
abbrev pub with_operands : Catalog → Scope → List Expr → Place → Option Callee → List TypedExpr → ℕ
    → List Expr → Result (List TypedExpr × ℕ) Refusal
with_operands c s groups place callee xs number [] = Ok (xs, number)
with_operands c s groups place callee xs number (e ∷ es) =
    result_and_then (λ left. with_operands c s groups place callee left.0 left.1 es)
    (with_operand c s callee xs (numbered c s groups place number e))
