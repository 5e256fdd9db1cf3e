-- Operands of a chain that stand in one list.
use Rattle.std.specs.Prelude.{◌≡◌, ℕ, List, [], ◌∷◌, ◌++◌}
use Rattle.mc_base.specs.declared.span.Span.{Span}
use Rattle.mc_token.specs.declared.lexeme.Token.{Token}
use Rattle.mc_grammar.specs.Ahead.{Ahead}
use Rattle.mc_grammar.specs.Places.{Done}
use Rattle.mc_grammar.specs.Room.{Admitted}
use Rattle.mc_sql.specs.Classes.{Class}
use Rattle.mc_sql.specs.Rules.{Rule}
use Rattle.mc_ast.specs.declared.expr.Expr.{Expr}
use Rattle.mc_ast.specs.declared.expr.Form.{Form}
use Rattle.mc_ast.specs.Grouping.{whole}
use Rattle.mc_ast.specs.Spans.{span_from}
use Rattle.mc_ast.specs.Values.{Operand, exprs, operands}
use Rattle.mc_parse.specs.Language.{language, at}

-- One operand, or the first and the others in one list, as an expression that stands there.
abbrev pub joined : (List Expr → Form) → Span → Operand → List Operand → Operand
joined form span x [] = x
joined form span x (y ∷ ys) = whole span (form (exprs (x ∷ y ∷ ys)))

-- The rest of a chain is read, and its operands are appended to a list.
pub record IsListed (after : Ahead (Admitted Class)) (look : ℕ) (more : Rule) (below : ℕ)
    (tokens rest : List Token) (old new : List Expr) (first last : Span) : Type 0 where
  pub links : List Operand
  pub done : Done language after look (at below more) tokens rest (operands links)
  pub listed : new ≡ old ++ exprs links
  pub whole : last ≡ span_from first done.front
  pub some : links ≡ [] → rest ≡ tokens
