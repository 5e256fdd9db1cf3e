-- What the parts of a statement mean, before they are one tree.
use Rattle.std.specs.Prelude.{ℕ, ℤ, pos, List, [], Bool, Option, map}
use Rattle.mc_base.specs.declared.span.Span.{Span}
use Rattle.mc_token.specs.declared.lexeme.Lexeme.{Lexeme}
use Rattle.mc_token.specs.declared.lexeme.Lexeme.TheVariants.{Word, Name, Int, Str, National, Hex}
use Rattle.mc_token.specs.declared.lexeme.Token.{Token}
use Rattle.mc_ast.specs.declared.expr.Expr.{Expr}
use Rattle.mc_ast.specs.declared.operators.ArithOp.{ArithOp}
use Rattle.mc_ast.specs.declared.operators.CmpOp.{CmpOp}
use Rattle.mc_ast.specs.declared.operators.Cut.{Cut}
use Rattle.mc_ast.specs.declared.operators.TrimSide.{TrimSide}
use Rattle.mc_ast.specs.declared.statement.Item.{Item}
use Rattle.mc_ast.specs.declared.statement.OrderItem.{OrderItem}
use Rattle.mc_ast.specs.declared.statement.Statement.{Statement}

-- An expression where it stands: its tree, and the bytes of all its tokens, outer parentheses
-- included.
pub record Operand : Type 0 where
  pub expr : Expr
  pub extent : Span

-- The trees of operands.
abbrev pub exprs : List Operand → List Expr
exprs operands = map (λ x. x.expr) operands

-- An operator and what stands behind it.
pub record Operation : Type 0 where
  pub op : ArithOp
  pub right : Operand

-- The name of a collation and the bytes of its token.
pub record Collation : Type 0 where
  pub name : List ℕ
  pub extent : Span

-- FROM, WHERE and GROUP BY.
pub record Source : Type 0 where
  pub table : List ℕ
  pub filter : Option Expr
  pub groups : List Expr

-- What a token or what a rule reads means. `ill` is the meaning of what no rule reads.
pub data Value : Type 0 where
  ill : Value
  a_token : Token → Value
  operand : Operand → Value
  operands : List Operand → Value
  maybe_operand : Option Operand → Value
  operations : List Operation → Value
  collations : List Collation → Value
  collation : Collation → Value
  text : List ℕ → Value
  maybe_text : Option (List ℕ) → Value
  flag : Bool → Value
  comparison : CmpOp → Value
  trim_side : TrimSide → Value
  cut : Option Cut → Value
  item : Item → Value
  items : List Item → Value
  order_item : OrderItem → Value
  order_items : List OrderItem → Value
  source : Option Source → Value
  the_count : ℕ → Value
  the_offset : ℕ → Value
  no_number : Value
  limit : Option (ℕ × ℕ) → Value
  a_statement : Statement → Value

-- The text of a lexeme; of a number or a mark, none.
abbrev pub lexeme_text : Lexeme → List ℕ
lexeme_text (Word bytes) = bytes
lexeme_text (Name bytes) = bytes
lexeme_text (Str bytes) = bytes
lexeme_text (National bytes) = bytes
lexeme_text (Hex bytes) = bytes
lexeme_text _ = []

-- The number of a lexeme; of any other, 0.
abbrev pub lexeme_number : Lexeme → ℤ
lexeme_number (Int number) = number
lexeme_number _ = pos 0
