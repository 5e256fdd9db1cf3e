-- What comes of an expression, of a constant and of the column.
use Rattle.std.proofs.Common.{◌≡◌, ℕ, true, Some, refl, ap, ◌∙◌}
use Rattle.std.proofs.lemmas.Bool.{eqb-true}
use Rattle.mc_typing.specs.declared.typed.Node.{Node, Node-F, out-Node, map-Node, fold-Node}
use Rattle.mc_typing.specs.declared.typed.Node.{fold_out-Node}
use Rattle.mc_typing.specs.declared.typed.Ty.{Ty}
use Rattle.mc_typing.specs.declared.typed.TypedExpr.{TypedExpr, fold_out-TypedExpr}
use Rattle.mc_values.specs.declared.value.Value.{Value}
use Rattle.mc_eval.specs.Node.{Place, Valued, at_place, node_value}
use Rattle.mc_eval.specs.Outcomes.{Outcome}
use Rattle.mc_eval.specs.Outcomes.Outcome.{gives}
use Rattle.mc_eval.specs.Value.{value, valued}
use Rattle.mc_plan.specs.Conds.{is_column, is_place}
use Rattle.mc_plan.specs.Constants.{constant, constant_of, literal}
use Rattle.mc_plan.specs.Entries.{value_at}

abbrev pub value_of_node : Place → Node → Ty → Outcome
value_of_node p n = fold-Node (Ty → Outcome) Valued (node_value p)
    (λ x. record { ty = x.ty; outcome = x.node x.ty }) n

-- A layer, with what comes of its operands in their places.
abbrev pub over : Place → Node-F Node TypedExpr → Node-F (Ty → Outcome) Valued
over p node = map-Node Node TypedExpr (Ty → Outcome) Valued (value_of_node p) (valued p) node

expr_is : (p : Place) (e : TypedExpr)
    → valued p e ≡ record { ty = e.ty; outcome = value_of_node p e.node e.ty }
unfolding valued
expr_is p e = fold_out-TypedExpr (Ty → Outcome) Valued (node_value p)
    (λ x. record { ty = x.ty; outcome = x.node x.ty }) e

node_is : (p : Place) (n : Node) → value_of_node p n ≡ node_value p (over p (out-Node n))
unfolding valued
node_is p n = fold_out-Node (Ty → Outcome) Valued (node_value p)
    (λ x. record { ty = x.ty; outcome = x.node x.ty }) n

-- The value of an expression is that of its node over those of its operands.
pub value_is : (p : Place) (e : TypedExpr) (node : Node-F Node TypedExpr) → out-Node e.node ≡ node
    → value p e ≡ node_value p (over p node) e.ty
value_is p e node h = ap (λ v. v.outcome) (expr_is p e) ∙ ap (λ f. f e.ty) (node_is p e.node)
    ∙ ap (λ l. node_value p (over p l) e.ty) h

literal_is : (p : Place) (e : TypedExpr) (v : Value) (node : Node-F Node TypedExpr)
    → out-Node e.node ≡ node → literal node ≡ Some v → value p e ≡ gives v
literal_is p e v (Node-F.Const it) h q =
    let same : it ≡ v = cc in value_is p e (Node-F.Const it) h ∙ ap gives same
literal_is p e v node h q = absurd (cc)

constant_over : (p : Place) (e : TypedExpr) (v : Value) (node : Node-F Node TypedExpr)
    → out-Node e.node ≡ node → constant_of node ≡ Some v → value p e ≡ gives v
constant_over p e v (Node-F.Collate x) h q =
    value_is p e (Node-F.Collate x) h ∙ literal_is p x v (out-Node x.node) refl q
constant_over p e v (Node-F.Const it) h q = literal_is p e v (Node-F.Const it) h q
constant_over p e v node h q = absurd (cc)

-- A constant has its own value.
pub constant_is : (p : Place) (e : TypedExpr) (v : Value) → constant e ≡ Some v
    → value p e ≡ gives v
constant_is p e v q = constant_over p e v (out-Node e.node) refl q

place_over : (p : Place) (e : TypedExpr) (column : ℕ) (node : Node-F Node TypedExpr)
    → out-Node e.node ≡ node → is_place column node ≡ true
    → value p e ≡ gives (value_at p.row column)
place_over p e column (Node-F.Column place) h q =
    value_is p e (Node-F.Column place) h ∙ ap (at_place p.row) (eqb-true place column q)
place_over p e column node h q = absurd (cc)

-- The column has the row's value at its place.
pub column_is : (p : Place) (e : TypedExpr) (column : ℕ) → is_column column e ≡ true
    → value p e ≡ gives (value_at p.row column)
column_is p e column q = place_over p e column (out-Node e.node) refl q
