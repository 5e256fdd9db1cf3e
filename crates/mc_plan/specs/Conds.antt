-- The condition on a column that an expression is, if it is one that an index serves: MySQL 8.0
-- manual, 8.2.1.2, Range Optimization, and 8.3.9.
use Rattle.std.specs.Prelude.{ℕ, Bool, false, ◌==◌, List, [], ◌∷◌, Option, Some, None}
use Rattle.std.specs.Prelude.{if◌then◌else◌, option_and_then, option_map}
use Rattle.std.specs.Option.{option_map_or}
use Rattle.mc_ast.specs.declared.operators.CmpOp.{CmpOp}
use Rattle.mc_ast.specs.declared.operators.CmpOp.TheVariants as op
use Rattle.mc_charset.specs.declared.charset.Charset.{Charset}
use Rattle.mc_charset.specs.declared.collation_id.CollId.{CollId}
use Rattle.mc_range.specs.declared.condition.Cell.{Cell}
use Rattle.mc_range.specs.declared.condition.Cond.{Cond}
use Rattle.mc_range.specs.declared.condition.Cond.TheVariants.{Eq, AtMost, AtLeast, Between, In}
use Rattle.mc_range.specs.declared.condition.Cond.TheVariants.{Like}
use Rattle.mc_typing.specs.declared.typed.Node.{Node-F, out-Node}
use Rattle.mc_typing.specs.declared.typed.TypedExpr.{TypedExpr}
use Rattle.mc_plan.specs.Constants.{cell, cells}

-- The node is the column at a place.
abbrev pub is_place : {X A : Type 0} → ℕ → Node-F X A → Bool
is_place column (Node-F.Column place) = place == column
is_place column node = false

abbrev pub is_column : ℕ → TypedExpr → Bool
is_column column e = is_place column (out-Node e.node)

-- The comparison is by the collation.
abbrev pub is_by : CollId → Option CollId → Bool
is_by coll used = option_map_or (λ id. id.0 == coll.0) used false

-- The column on the left of a comparison operator and a constant on its right.
abbrev pub op_cond : CmpOp → Cell → Option Cond
op_cond op.Eq it = Some (Eq it)
op_cond op.Lt it = Some (AtMost it)
op_cond op.Le it = Some (AtMost it)
op_cond op.Gt it = Some (AtLeast it)
op_cond op.Ge it = Some (AtLeast it)
op_cond other it = None

-- The operator that says the same where the sides are exchanged.
abbrev pub mirrored : CmpOp → CmpOp
mirrored op.Lt = op.Gt
mirrored op.Le = op.Ge
mirrored op.Gt = op.Lt
mirrored op.Ge = op.Le
mirrored other = other

-- The column on one side and a constant on the other one.
abbrev pub compare_cond : Charset → ℕ → CmpOp → List TypedExpr → Option Cond
compare_cond set column op (x ∷ y ∷ []) =
    if is_column column x then option_and_then (op_cond op) (cell set y)
    else (if is_column column y then option_and_then (op_cond (mirrored op)) (cell set x) else None)
compare_cond set column op xs = None

-- The column in front of its pattern.
abbrev pub like_cond : Charset → ℕ → Option ℕ → List TypedExpr → Option Cond
like_cond set column escape (x ∷ y ∷ []) =
    if is_column column x then option_map (λ pattern. Like pattern escape) (cell set y) else None
like_cond set column escape xs = None

-- The column in front of its two ends.
abbrev pub between_cond : Charset → ℕ → List TypedExpr → Option Cond
between_cond set column (x ∷ y ∷ z ∷ []) =
    if is_column column x then option_and_then
    (λ low. option_map (λ high. Between low high) (cell set z)) (cell set y) else None
between_cond set column xs = None

-- The column in front of its members.
abbrev pub in_cond : Charset → ℕ → List TypedExpr → Option Cond
in_cond set column (x ∷ xs) = if is_column column x then option_map In (cells set xs) else None
in_cond set column [] = None

-- A node whose comparison is by the collation.
abbrev pub node_cond : {X : Type 0} → Charset → ℕ → CollId → Node-F X TypedExpr → Option Cond
node_cond set column coll (Node-F.Compare op used xs) =
    if is_by coll used then compare_cond set column op xs else None
node_cond set column coll (Node-F.Like used xs escape false) =
    if is_by coll used then like_cond set column escape xs else None
node_cond set column coll (Node-F.In used xs false) =
    if is_by coll used then in_cond set column xs else None
node_cond set column coll (Node-F.Between used xs false) =
    if is_by coll used then between_cond set column xs else None
node_cond set column coll node = None

-- The condition on the column at a place that an expression is, by the column's collation, whose
-- set is given: a comparison by that collation of the column with constants.
unfoldable pub cond_of : Charset → ℕ → CollId → TypedExpr → Option Cond
cond_of set column coll e = node_cond set column coll (out-Node e.node)
