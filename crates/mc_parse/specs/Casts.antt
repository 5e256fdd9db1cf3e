-- What CAST casts to: MySQL 8.0 manual, 12.10.
use Rattle.std.specs.Prelude.{ℕ, List, Option}
use Rattle.mc_token.specs.declared.lexeme.Token.{Token}
use Rattle.mc_grammar.specs.Places.{Done}
use Rattle.mc_sql.specs.Rules.{set_option}
use Rattle.mc_ast.specs.declared.expr.Expr.{Expr}
use Rattle.mc_ast.specs.declared.expr.Form.{Form}
use Rattle.mc_ast.specs.declared.expr.Form.TheVariants.{CastChar, CastBinary}
use Rattle.mc_ast.specs.Values.{maybe_text}
use Rattle.mc_parse.specs.declared.call_cast.Target.{Target}
use Rattle.mc_parse.specs.declared.call_cast.Target.TheVariants.{Char, Binary}
use Rattle.mc_parse.specs.Language.{language, at, behind}

-- The form of an operand that is cast.
abbrev pub cast_form : Target → Expr → Form
cast_form (Char set) x = CastChar x set
cast_form Binary x = CastBinary x

-- The name of a set is read, where there is one.
abbrev pub HasSet : ℕ → List Token → List Token → Option (List ℕ) → Type 0
HasSet below tokens rest set =
    Done language (behind set_option) 1 (at below set_option) tokens rest (maybe_text set)
