-- The constants of conditions on a column: MySQL 8.0 manual, 8.2.1.2 and 9.1.
use Rattle.std.specs.Prelude.{List, [], ◌∷◌, Option, Some, None, All, IfSome, option_and_then}
use Rattle.std.specs.Prelude.{option_map}
use Rattle.mc_charset.specs.declared.charset.Charset.{Charset}
use Rattle.mc_convert.specs.Conversion.{converted_text}
use Rattle.mc_range.specs.declared.condition.Cell.{Cell}
use Rattle.mc_range.specs.declared.condition.Cell.TheVariants.{Null, Str}
use Rattle.mc_typing.specs.Parts.{node_parts}
use Rattle.mc_typing.specs.declared.typed.Node.{Node, Node-F, out-Node}
use Rattle.mc_typing.specs.declared.typed.TypedExpr.{TypedExpr}
use Rattle.mc_values.specs.Values.{IsTextOfSet}
use Rattle.mc_values.specs.declared.value.Value.{Value}
use Rattle.mc_values.specs.declared.value.Value.TheVariants as value

-- The value of a literal.
abbrev pub literal : {X A : Type 0} → Node-F X A → Option Value
literal (Node-F.Const it) = Some it
literal node = None

-- The value of a literal, or of one under a COLLATE.
abbrev pub constant_of : Node-F Node TypedExpr → Option Value
constant_of (Node-F.Collate x) = literal (out-Node x.node)
constant_of node = literal node

abbrev pub constant : TypedExpr → Option Value
constant e = constant_of (out-Node e.node)

-- A string as a text of a set, or NULL; a number is no constant of a condition.
abbrev pub cell_in : Charset → Value → Option Cell
cell_in set value.Null = Some Null
cell_in set (value.Int number) = None
cell_in set (value.Str from text) = Some (Str (converted_text from set text))

-- The constant that an operand is, in a set.
abbrev pub cell : Charset → TypedExpr → Option Cell
cell set e = option_and_then (cell_in set) (constant e)

-- The constants that operands are, if each is one.
unfoldable pub cells : Charset → List TypedExpr → Option (List Cell)
cells set [] = Some []
cells set (x ∷ xs) =
    option_and_then (λ one. option_map (λ others. one ∷ others) (cells set xs)) (cell set x)

-- The string of a constant is a text of its set.
abbrev pub HasText : TypedExpr → Type 0
HasText e = IfSome (constant e) IsTextOfSet

-- So are those of an expression's operands.
abbrev pub HasTexts : TypedExpr → Type 0
HasTexts e = All HasText (node_parts (out-Node e.node))
