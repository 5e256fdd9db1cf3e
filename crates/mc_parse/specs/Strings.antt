-- Strings side by side, which are one text: MySQL 8.0 manual, 9.1.1.
use Rattle.std.specs.Prelude.{◌≡◌, ℕ, List, ◌++◌}
use Rattle.mc_base.specs.declared.span.Span.{Span}
use Rattle.mc_token.specs.declared.lexeme.Token.{Token}
use Rattle.mc_grammar.specs.Places.{Done}
use Rattle.mc_sql.specs.Rules.{more_strs}
use Rattle.mc_ast.specs.Spans.{span_from}
use Rattle.mc_ast.specs.Values.{text}
use Rattle.mc_parse.specs.Language.{language, at, behind}

-- The strings behind a text are read, and joined to it.
pub record IsJoined (below : ℕ) (tokens rest : List Token) (first last : List ℕ)
    (from to : Span) : Type 0 where
  pub more : List ℕ
  pub done : Done language (behind more_strs) 1 (at below more_strs) tokens rest (text more)
  pub joined : last ≡ first ++ more
  pub whole : to ≡ span_from from done.front
