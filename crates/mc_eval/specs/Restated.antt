-- Nodes in terms of other ones: MySQL 8.0 manual, 12.4.2.
use Rattle.std.specs.Prelude.{List, map, Option}
use Rattle.mc_ast.specs.declared.operators.CmpOp.{CmpOp}
use Rattle.mc_charset.specs.declared.collation_id.CollId.{CollId}
use Rattle.mc_typing.specs.declared.typed.Node.{Node, Node-F, roll-Node}
use Rattle.mc_typing.specs.declared.typed.Ty.TheVariants as ty
use Rattle.mc_typing.specs.declared.typed.TypedExpr.{TypedExpr}
use Rattle.mc_ast.specs.declared.operators.CmpOp.TheVariants.{Eq}
use Rattle.std.specs.Prelude.{[], ◌∷◌}

-- The expression of a node that gives a number.
abbrev pub number_of : Node-F Node TypedExpr → TypedExpr
number_of node = record { node = roll-Node node; ty = ty.Int }

-- A comparison of two operands.
abbrev pub comparison : CmpOp → Option CollId → TypedExpr → TypedExpr → TypedExpr
comparison op coll x y = number_of (Node-F.Compare op coll (x ∷ y ∷ []))

-- The equalities of an operand with others.
abbrev pub equalities : Option CollId → TypedExpr → List TypedExpr → List TypedExpr
equalities coll x ys = map (comparison Eq coll x) ys
