-- Tokens and trees for examples: token `n` is byte `n` of the script.
use Rattle.std.specs.Prelude.{ℕ, ◌+◌, pos, length, List, [], ◌∷◌, Bool, false, Option, None, codes}
use Prim.Native.String.{String}
use Rattle.mc_base.specs.declared.span.Span.{Span}
use Rattle.mc_token.specs.declared.lexeme.Lexeme.{Lexeme}
use Rattle.mc_token.specs.declared.lexeme.Lexeme.TheVariants.{Word, Int, Str}
use Rattle.mc_token.specs.declared.lexeme.Token.{Token}
use Rattle.mc_ast.specs.declared.expr.Expr.{Expr}
use Rattle.mc_ast.specs.declared.expr.Form.{Form}
use Rattle.mc_ast.specs.declared.expr.Form.TheVariants.{Name, Int as IntForm}
use Rattle.mc_ast.specs.declared.statement.Item.{Item}
use Rattle.mc_ast.specs.declared.statement.OrderItem.{OrderItem}
use Rattle.mc_ast.specs.declared.statement.Statement.{Statement}
use Rattle.mc_ast.specs.Trees.{IsTreeOf}

-- From one byte up to another.
abbrev pub bytes : ℕ → ℕ → Span
bytes start end = record { start = start; end = end }

-- These lexemes as tokens from a byte on.
abbrev pub tokens_from : ℕ → List Lexeme → List Token
tokens_from n [] = []
tokens_from n (lexeme ∷ lexemes) =
    record { span = bytes n (n + 1); kind = lexeme } ∷ tokens_from (n + 1) lexemes

abbrev pub word : String → Lexeme
word text = Word (codes text)

abbrev pub string : String → Lexeme
string text = Str (codes text)

abbrev pub number : ℕ → Lexeme
number n = Int (pos n)

-- An expression that stands from one byte up to another.
abbrev pub at : ℕ → ℕ → Form → Expr
at start end form = record { span = bytes start end; form = form }

abbrev pub column : ℕ → String → Expr
column n text = at n (n + 1) (Name (codes text))

abbrev pub whole_number : ℕ → ℕ → Expr
whole_number n number = at n (n + 1) (IntForm (pos number))

abbrev pub item_at : ℕ → ℕ → Expr → Option (List ℕ) → Item
item_at start end expr alias = record { expr = expr; alias = alias; span = bytes start end }

abbrev pub by_order : Expr → Bool → OrderItem
by_order expr desc = record { expr = expr; desc = desc }

-- A statement without anything.
abbrev pub plain : Statement
plain = record {
  explain = false;
  distinct = false;
  star = false;
  items = [];
  table = None;
  filter = None;
  groups = [];
  orders = [];
  limit = None;
}

-- The statement is the tree of the lexemes.
abbrev pub Reads : List Lexeme → Statement → Type 0
Reads lexemes tree = IsTreeOf (tokens_from 0 lexemes) tree

-- Behind SELECT the lexemes have this expression for their tree.
abbrev pub ReadsExpr : List Lexeme → Expr → Type 0
ReadsExpr lexemes expr =
    Reads (word "select" ∷ lexemes)
    (record plain { items = item_at 1 (1 + length lexemes) expr None ∷ [] })

-- The lexemes have no tree.
abbrev pub HasNone : List Lexeme → Type 0
HasNone lexemes = (tree : Statement) → IsTreeOf (tokens_from 0 lexemes) tree → ⊥
