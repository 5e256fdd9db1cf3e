-- The grouping of operands: MySQL 8.0 manual, 12.4.1.
use Rattle.std.specs.Prelude.{List, [], ◌∷◌}
use Rattle.mc_base.specs.declared.span.Span.{Span}
use Rattle.mc_ast.specs.declared.expr.Form.{Form}
use Rattle.mc_ast.specs.declared.expr.Form.TheVariants.{Xor, Arith, Collate}
use Rattle.mc_ast.specs.Spans.{from_to}
use Rattle.mc_ast.specs.Values.{Operand, Operation, Collation}

-- An operand of this form whose tokens are all its own.
abbrev pub whole : Span → Form → Operand
whole span form = record { expr = record { span = span; form = form }; extent = span }

-- The operators of one level group to the left.
abbrev pub grouped : Operand → List Operation → Operand
grouped x [] = x
grouped x (o ∷ os) =
    grouped (whole (from_to x.extent o.right.extent) (Arith o.op x.expr o.right.expr)) os

-- XOR groups to the left.
abbrev pub grouped_xor : Operand → List Operand → Operand
grouped_xor x [] = x
grouped_xor x (y ∷ ys) =
    grouped_xor (whole (from_to x.extent y.extent) (Xor x.expr y.expr)) ys

-- COLLATE stands behind its operand, which may have one already.
abbrev pub under : Operand → List Collation → Operand
under x [] = x
under x (c ∷ cs) = under (whole (from_to x.extent c.extent) (Collate x.expr c.name)) cs
