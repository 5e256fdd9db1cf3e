-- What each rule of the grammar may begin with: the computed sets, named for what they are of.
use Rattle.std.specs.Prelude.{[], ◌∷◌, codes, Option, Some}
use Prim.Native.String.{String}
use Rattle.mc_token.specs.declared.lexeme.Symbol.{Symbol as Mark}
use Rattle.mc_token.specs.declared.lexeme.Symbol.TheVariants.{LeftParen, Comma, Star, Plus, Minus}
use Rattle.mc_token.specs.declared.lexeme.Symbol.TheVariants.{Percent, Eq, Ne, NeBang, Lt, Le, Gt}
use Rattle.mc_token.specs.declared.lexeme.Symbol.TheVariants.{Ge, NullEq}
use Rattle.mc_grammar.specs.Ahead.{Ahead}
use Rattle.mc_sql.specs.Classes.{Class, word, mark, name, called, called_otherwise, intro, int, str}
use Rattle.mc_sql.specs.Classes.{national, hex}
use Rattle.mc_sql.specs.Rules.{Rule, statement, explain_option, distinct_option, more_items}
use Rattle.mc_sql.specs.Rules.{source_option, source, where_option, group_option, more_ors}
use Rattle.mc_sql.specs.Rules.{order_option, more_orders, limit_option, offset_option, item}
use Rattle.mc_sql.specs.Rules.{alias_option, order, direction_option, or, more_xors, xor, more_ands}
use Rattle.mc_sql.specs.Rules.{and, more_nots, not, pred, not_option, escape_option, cmp, sum}
use Rattle.mc_sql.specs.Rules.{more_prods, prod, more_negs, neg, coll, more_collates}
use Rattle.mc_sql.specs.Rules.{name_or_binary, prim, string, more_strs, call, set_option, side}
use Rattle.mc_sql.specs.Rules.{or_option, length_option, cut_option}

-- A word.
abbrev pub a_word : String → Option Class
a_word text = Some (word (codes text))

-- A mark.
abbrev pub a_mark : Mark → Option Class
a_mark symbol = Some (mark symbol)

abbrev begins_item : Ahead Class
begins_item =
    a_word "not" ∷ a_mark Minus ∷ Some int ∷ a_word "true" ∷ a_word "false" ∷ a_word "null" ∷
    Some name ∷ a_mark LeftParen ∷ Some str ∷ Some national ∷ Some hex ∷ Some intro ∷
    a_word "convert" ∷ a_word "cast" ∷ a_word "count" ∷ a_word "trim" ∷ a_word "substring" ∷
    a_word "weight_string" ∷ Some called ∷ Some called_otherwise ∷ []

abbrev begins_pred : Ahead Class
begins_pred =
    a_mark Minus ∷ Some int ∷ a_word "true" ∷ a_word "false" ∷ a_word "null" ∷ Some name ∷
    a_mark LeftParen ∷ Some str ∷ Some national ∷ Some hex ∷ Some intro ∷ a_word "convert" ∷
    a_word "cast" ∷ a_word "count" ∷ a_word "trim" ∷ a_word "substring" ∷
    a_word "weight_string" ∷ Some called ∷ Some called_otherwise ∷ []

abbrev begins_cmp : Ahead Class
begins_cmp =
    a_mark Eq ∷ a_mark NullEq ∷ a_mark Ne ∷ a_mark NeBang ∷ a_mark Lt ∷ a_mark Le ∷
    a_mark Gt ∷ a_mark Ge ∷ []

abbrev begins_coll : Ahead Class
begins_coll =
    Some int ∷ a_word "true" ∷ a_word "false" ∷ a_word "null" ∷ Some name ∷ a_mark LeftParen ∷
    Some str ∷ Some national ∷ Some hex ∷ Some intro ∷ a_word "convert" ∷ a_word "cast" ∷
    a_word "count" ∷ a_word "trim" ∷ a_word "substring" ∷ a_word "weight_string" ∷
    Some called ∷ Some called_otherwise ∷ []

abbrev begins_call : Ahead Class
begins_call =
    a_word "convert" ∷ a_word "cast" ∷ a_word "count" ∷ a_word "trim" ∷ a_word "substring" ∷
    a_word "weight_string" ∷ Some called ∷ Some called_otherwise ∷ []

-- What a rule may begin with.
abbrev pub begins : Rule → Ahead Class
begins statement = a_word "select" ∷ a_word "explain" ∷ []
begins explain_option = a_word "explain" ∷ []
begins distinct_option = a_word "distinct" ∷ []
begins more_items = a_mark Comma ∷ []
begins source_option = a_word "from" ∷ []
begins source = a_word "from" ∷ []
begins where_option = a_word "where" ∷ []
begins group_option = a_word "group" ∷ []
begins more_ors = a_mark Comma ∷ []
begins order_option = a_word "order" ∷ []
begins more_orders = a_mark Comma ∷ []
begins limit_option = a_word "limit" ∷ []
begins offset_option = a_mark Comma ∷ a_word "offset" ∷ []
begins item = begins_item
begins alias_option = a_word "as" ∷ Some name ∷ []
begins order = begins_item
begins direction_option = a_word "asc" ∷ a_word "desc" ∷ []
begins or = begins_item
begins more_xors = a_word "or" ∷ []
begins xor = begins_item
begins more_ands = a_word "xor" ∷ []
begins and = begins_item
begins more_nots = a_word "and" ∷ []
begins not = begins_item
begins pred = begins_pred
begins not_option = a_word "not" ∷ []
begins escape_option = a_word "escape" ∷ []
begins cmp = begins_cmp
begins sum = begins_pred
begins more_prods = a_mark Plus ∷ a_mark Minus ∷ []
begins prod = begins_pred
begins more_negs = a_mark Star ∷ a_word "div" ∷ a_mark Percent ∷ a_word "mod" ∷ []
begins neg = begins_pred
begins coll = begins_coll
begins more_collates = a_word "collate" ∷ []
begins name_or_binary = Some name ∷ a_word "binary" ∷ []
begins prim = begins_coll
begins string = Some str ∷ Some national ∷ Some hex ∷ Some intro ∷ []
begins more_strs = Some str ∷ []
begins call = begins_call
begins set_option = a_word "character" ∷ []
begins side = a_word "both" ∷ a_word "leading" ∷ a_word "trailing" ∷ []
begins or_option = begins_item
begins length_option = a_word "for" ∷ []
begins cut_option = a_word "as" ∷ []
