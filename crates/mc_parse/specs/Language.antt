-- The language that the parser reads: the grammar of the statements, with room for what stands
-- deeper, and what its alternatives mean.
use Rattle.std.specs.Prelude.{ℕ, suc, Bool, true, false, List, [], ◌∷◌, Option, Some, codes}
use Rattle.mc_token.specs.declared.lexeme.Token.{Token}
use Rattle.mc_grammar.specs.Ahead.{Ahead}
use Rattle.mc_grammar.specs.Language.{Language}
use Rattle.mc_grammar.specs.Nest.{Marked}
use Rattle.mc_grammar.specs.Room.{Roomed, Admitted, admitted, room_language}
use Rattle.mc_sql.specs.Classes.{Class, word, name, is_lexeme_of}
use Rattle.mc_sql.specs.Rules.{Rule, Alternative}
use Rattle.mc_sql.specs.Statements.{statements}
use Rattle.mc_sql.specs.Nest.{deeper}
use Rattle.mc_sql.specs.Follows.{follows}
use Rattle.mc_sql.specs.Tables.{tables}
use Rattle.mc_ast.specs.Meaning.{meaning}
use Rattle.mc_ast.specs.Spans.{span_of}
use Rattle.mc_ast.specs.Values.{Value, a_token}

-- The language.
abbrev pub language : Language (Admitted Class) (Roomed Rule) (Roomed Alternative) Token
    (Marked Token) Value
language =
    room_language statements tables deeper (λ token. a_token token)
    (λ a tokens values. meaning a (span_of tokens) values)

-- A rule below whose tokens there are so many levels.
abbrev pub at : ℕ → Rule → Roomed Rule
at below r = record { what = r; room = suc below }

-- What may stand behind a rule.
unfoldable pub behind : Rule → Ahead (Admitted Class)
behind r = admitted (follows r)

-- The same without a name.
abbrev pub without_name : Ahead Class → Ahead Class
without_name [] = []
without_name (Some name ∷ ks) = without_name ks
without_name (k ∷ ks) = k ∷ without_name ks

-- What may stand behind a rule of an expression, where an alias may follow or not.
unfoldable pub behind_at : Bool → Rule → Ahead (Admitted Class)
behind_at true r = admitted (follows r)
behind_at false r = admitted (without_name (follows r))

-- How many tokens are looked at behind an expression: behind one with an alias ESCAPE is told from
-- a name by the token behind it.
abbrev pub look_at : Bool → List Token → ℕ
look_at true (token ∷ tokens) =
    elim (is_lexeme_of (word (codes "escape")) token.kind) [ true ↦ 2 | false ↦ 1 ]
look_at _ tokens = 1
