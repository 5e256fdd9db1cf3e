-- The definitions at known values: nodes over a column and constants as conditions.
use Rattle.std.proofs.Common.{◌≡◌, ℕ, true, false, List, [], ◌∷◌, Some, None, refl}
use Rattle.std.specs.Prelude.{Option}
use Rattle.mc_ast.specs.declared.operators.CmpOp.{CmpOp}
use Rattle.mc_ast.specs.declared.operators.CmpOp.TheVariants as op
use Rattle.mc_charset.specs.declared.charset.Charset.TheVariants.{Binary}
use Rattle.mc_charset.specs.declared.collation_id.CollId.{CollId}
use Rattle.mc_range.specs.declared.condition.Cell.TheVariants.{Null, Str}
use Rattle.mc_range.specs.declared.condition.Cond.{Cond}
use Rattle.mc_range.specs.declared.condition.Cond.TheVariants.{Eq, AtMost, AtLeast, Between, In}
use Rattle.mc_typing.specs.declared.typed.Node.{Node, Node-F, out-roll-Node, roll-Node}
use Rattle.mc_typing.specs.declared.typed.Ty.TheVariants as ty
use Rattle.mc_typing.specs.declared.typed.TypedExpr.{TypedExpr}
use Rattle.mc_values.specs.declared.value.Value.TheVariants as value
use Rattle.mc_convert.specs.Conversion.{converted_text}
use Rattle.mc_plan.specs.Conds.{node_cond}
use Rattle.mc_plan.specs.Constants.{cells}

abbrev of : Node-F Node TypedExpr → TypedExpr
of node = record { node = roll-Node node; ty = ty.Null }

abbrev name : TypedExpr
name = of (Node-F.Column 0)

abbrev text : List ℕ
text = 0x61 ∷ []

abbrev a : TypedExpr
a = of (Node-F.Const (value.Str Binary text))

abbrev nothing : TypedExpr
nothing = of (Node-F.Const value.Null)

abbrev binary : CollId
binary = record { 0 = 0 }

abbrev cond : Node-F Node TypedExpr → Option Cond
cond node = node_cond Binary 0 binary node

abbrev compared : CmpOp → ℕ → TypedExpr → TypedExpr → Option Cond
compared op coll x y = cond (Node-F.Compare op (Some (record { 0 = coll })) (x ∷ y ∷ []))

same : converted_text Binary Binary text ≡ text
unfolding converted_text
same = refl

-- name < 'a', and 'a' < name
below : compared op.Lt 0 name a ≡ Some (AtMost (Str text))
below = simp (out-roll-Node, same)

above : compared op.Lt 0 a name ≡ Some (AtLeast (Str text))
above = simp (out-roll-Node, same)

-- name <=> 'a', name <> 'a', name = name, and name = 'a' by another collation
null_safe : compared op.NullEq 0 name a ≡ None
null_safe = simp out-roll-Node

unequal : compared op.Ne 0 name a ≡ None
unequal = simp out-roll-Node

with_itself : compared op.Eq 0 name name ≡ None
with_itself = simp out-roll-Node

by_other : compared op.Eq 9 name a ≡ None
by_other = refl

-- name = 'a' under one COLLATE, and under two
collated : compared op.Eq 0 name (of (Node-F.Collate a)) ≡ Some (Eq (Str text))
collated = simp (out-roll-Node, same)

collated_twice : compared op.Eq 0 name (of (Node-F.Collate (of (Node-F.Collate a)))) ≡ None
collated_twice = simp out-roll-Node

-- name IN ('a', NULL), and NOT IN
among : cond (Node-F.In (Some binary) (name ∷ a ∷ nothing ∷ []) false)
    ≡ Some (In (Str text ∷ Null ∷ []))
unfolding cells
among = simp (out-roll-Node, same)

not_among : cond (Node-F.In (Some binary) (name ∷ a ∷ []) true) ≡ None
not_among = refl

-- name BETWEEN 'a' AND NULL
between : cond (Node-F.Between (Some binary) (name ∷ a ∷ nothing ∷ []) false)
    ≡ Some (Between (Str text) Null)
between = simp (out-roll-Node, same)
