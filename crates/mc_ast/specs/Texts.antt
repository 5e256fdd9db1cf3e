-- The texts of a tree's strings are UTF-8, where those of its tokens are: MySQL 8.0 manual, 9.1.1
-- and 10.3.7.
use Rattle.std.specs.Prelude.{ℕ, zero, suc, IfSome}
use Rattle.std.specs.List.{AllByRecursion}
use Rattle.std.specs.Str.{IsUtf8}
use Rattle.mc_ast.specs.declared.expr.Expr.{Expr}
use Rattle.mc_ast.specs.declared.expr.Form.{Form}
use Rattle.mc_ast.specs.declared.expr.Form.TheOpen.{Form-F, Or, And, Xor, Not, Compare, IsNull}
use Rattle.mc_ast.specs.declared.expr.Form.TheOpen.{Like, In, Between, Arith, Neg, Collate, Str}
use Rattle.mc_ast.specs.declared.expr.Form.TheOpen.{National, Convert, CastChar, CastBinary}
use Rattle.mc_ast.specs.declared.expr.Form.TheOpen.{CountDistinct, Trim, SubstringFrom}
use Rattle.mc_ast.specs.declared.expr.Form.TheOpen.{WeightString, Call}
use Rattle.mc_ast.specs.declared.expr.Form.TheViews.{out-Form}
use Rattle.mc_ast.specs.declared.statement.Statement.{Statement}

-- An expression's form, laid open to its parts.
abbrev pub Layer : Type 0
Layer = Form-F Form Expr

-- Where it is a string with nothing but `N` before it, that is UTF-8; and its parts are so.
abbrev pub HasUtf8Layer : (Form → Type 0) → Layer → Type 0
HasUtf8Layer Part (Str text) = IsUtf8 text
HasUtf8Layer Part (National text) = IsUtf8 text
HasUtf8Layer Part (Or es) = AllByRecursion (λ e. Part e.form) es
HasUtf8Layer Part (And es) = AllByRecursion (λ e. Part e.form) es
HasUtf8Layer Part (Xor a b) = Part a.form × Part b.form
HasUtf8Layer Part (Not a) = Part a.form
HasUtf8Layer Part (Compare op a b) = Part a.form × Part b.form
HasUtf8Layer Part (IsNull a negated) = Part a.form
HasUtf8Layer Part (Like a b escape negated) = Part a.form × Part b.form
HasUtf8Layer Part (In a es negated) = Part a.form × AllByRecursion (λ e. Part e.form) es
HasUtf8Layer Part (Between a b c negated) = Part a.form × Part b.form × Part c.form
HasUtf8Layer Part (Arith op a b) = Part a.form × Part b.form
HasUtf8Layer Part (Neg a) = Part a.form
HasUtf8Layer Part (Collate a name) = Part a.form
HasUtf8Layer Part (Convert a set) = Part a.form
HasUtf8Layer Part (CastChar a set) = Part a.form
HasUtf8Layer Part (CastBinary a) = Part a.form
HasUtf8Layer Part (CountDistinct a) = Part a.form
HasUtf8Layer Part (Trim side removed a) = IfSome removed (λ b. Part b.form) × Part a.form
HasUtf8Layer Part (SubstringFrom a b len) =
    Part a.form × Part b.form × IfSome len (λ c. Part c.form)
HasUtf8Layer Part (WeightString a cut) = Part a.form
HasUtf8Layer Part (Call name es) = AllByRecursion (λ e. Part e.form) es
HasUtf8Layer Part _ = Unit {0}

-- So it is as far as so many levels down.
abbrev pub HasUtf8To : ℕ → Form → Type 0
HasUtf8To zero form = Unit {0}
HasUtf8To (suc depth) form = HasUtf8Layer (HasUtf8To depth) (out-Form form)

-- The strings of the expression are UTF-8, those behind an introducer aside.
abbrev pub HasUtf8 : Expr → Type 0
HasUtf8 expr = (depth : ℕ) → HasUtf8To depth expr.form

-- The strings of the statement are.
pub record HasUtf8Strings (tree : Statement) : Type 0 where
  pub items : AllByRecursion (λ item. HasUtf8 item.expr) tree.items
  pub filter : IfSome tree.filter HasUtf8
  pub groups : AllByRecursion HasUtf8 tree.groups
  pub orders : AllByRecursion (λ order. HasUtf8 order.expr) tree.orders
