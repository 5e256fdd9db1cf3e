-- Trees that differ in spans alone.
use Rattle.std.specs.Prelude.{◌≡◌, map}
use Rattle.std.specs.Option.{option_map}
use Rattle.mc_base.specs.declared.span.Span.{Span}
use Rattle.mc_ast.specs.declared.expr.Expr.{Expr, fold-Expr}
use Rattle.mc_ast.specs.declared.expr.Form.{Form, roll-Form}
use Rattle.mc_ast.specs.declared.statement.Item.{Item}
use Rattle.mc_ast.specs.declared.statement.OrderItem.{OrderItem}
use Rattle.mc_ast.specs.declared.statement.Statement.{Statement}

-- No bytes.
abbrev pub nowhere : Span
nowhere = record { start = 0; end = 0 }

-- The expression with no bytes at any of its nodes.
unfoldable pub spanless : Expr → Expr
spanless expr = fold-Expr Form Expr roll-Form (λ e. record { span = nowhere; form = e.form }) expr

abbrev spanless_item : Item → Item
spanless_item i = record i { expr = spanless i.expr; span = nowhere }

abbrev spanless_order : OrderItem → OrderItem
spanless_order o = record o { expr = spanless o.expr }

-- The statement with no bytes at any of its nodes.
unfoldable pub spanless_statement : Statement → Statement
spanless_statement s = record s {
  items = map spanless_item s.items;
  filter = option_map spanless s.filter;
  groups = map spanless s.groups;
  orders = map spanless_order s.orders;
}

-- The two expressions differ in spans alone.
abbrev pub AreAlike : Expr → Expr → Type 0
AreAlike a b = spanless a ≡ spanless b

-- The two statements differ in spans alone.
abbrev pub AreAlikeStatements : Statement → Statement → Type 0
AreAlikeStatements a b = spanless_statement a ≡ spanless_statement b
