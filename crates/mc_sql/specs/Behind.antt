-- What may stand behind a word of the grammar, where the word alone decides it.
use Rattle.std.specs.Prelude.{Bool, true, false, ℕ, List, [], ◌∷◌, codes, Option, Some, None}
use Rattle.std.specs.List.{list_any}
use Rattle.std.specs.Str.{bytes_eq}
use Rattle.mc_token.specs.declared.lexeme.Symbol.TheVariants.{LeftParen, RightParen, Comma, Dot}
use Rattle.mc_token.specs.declared.lexeme.Symbol.TheVariants.{Star, Plus, Minus, Percent, Eq, Ne}
use Rattle.mc_token.specs.declared.lexeme.Symbol.TheVariants.{NeBang, Lt, Le, Gt, Ge, NullEq}
use Rattle.mc_grammar.specs.Ahead.{Ahead}
use Rattle.mc_sql.specs.Classes.{Class, word, name, called, called_otherwise, intro, str, hex}
use Rattle.mc_sql.specs.Begins.{a_word, a_mark}

-- What stands behind a name.
abbrev pub behind_name : Ahead Class
behind_name =
    a_word "where" ∷ a_word "group" ∷ a_word "order" ∷ a_word "limit" ∷ None ∷ a_mark Comma ∷
    a_word "from" ∷ a_word "collate" ∷ a_mark Star ∷ a_word "div" ∷ a_mark Percent ∷ a_word "mod" ∷
    a_mark Plus ∷ a_mark Minus ∷ a_word "and" ∷ a_word "xor" ∷ a_word "or" ∷ a_word "as" ∷
    Some name ∷ a_word "asc" ∷ a_word "desc" ∷ a_mark Eq ∷ a_mark NullEq ∷ a_mark Ne ∷
    a_mark NeBang ∷ a_mark Lt ∷ a_mark Le ∷ a_mark Gt ∷ a_mark Ge ∷ a_word "is" ∷
    a_word "not" ∷ a_word "like" ∷ a_word "escape" ∷ a_word "in" ∷ a_word "between" ∷
    a_mark Dot ∷ a_mark RightParen ∷ a_word "using" ∷ a_word "for" ∷ []

-- What stands behind a name in a call, an introducer, and the words of the grammar: the words that
-- begin a call with arguments of their own, and ESCAPE.
abbrev is_call_word : List ℕ → Bool
is_call_word text =
    list_any (λ word. bytes_eq text word) (
    codes "convert" ∷ codes "cast" ∷ codes "count" ∷ codes "trim" ∷ codes "substring" ∷
    codes "weight_string" ∷ [])

abbrev pub behind_call : List ℕ → Option (Ahead Class)
behind_call text = elim (is_call_word text) [ true ↦ Some (a_mark LeftParen ∷ []) | false ↦ None ]

abbrev pub behind : Class → Option (Ahead Class)
behind name = Some behind_name
behind (word text) =
    elim (bytes_eq text (codes "escape")) [
      | true ↦ Some (Some str ∷ [])
      | false ↦ behind_call text
    ]
behind called = Some (a_mark LeftParen ∷ [])
behind called_otherwise = Some (a_mark LeftParen ∷ [])
behind intro = Some (Some str ∷ Some hex ∷ [])
behind _ = None
