-- What may stand behind each rule of the grammar: the computed sets, named for what they follow.
use Rattle.std.specs.Prelude.{[], ◌∷◌, Some, None}
use Rattle.mc_token.specs.declared.lexeme.Symbol.TheVariants.{LeftParen, RightParen, Comma, Star}
use Rattle.mc_token.specs.declared.lexeme.Symbol.TheVariants.{Plus, Minus, Percent, Eq, Ne, NeBang}
use Rattle.mc_token.specs.declared.lexeme.Symbol.TheVariants.{Lt, Le, Gt, Ge, NullEq}
use Rattle.mc_grammar.specs.Ahead.{Ahead}
use Rattle.mc_sql.specs.Classes.{Class, name, called, called_otherwise, intro, int, str, national}
use Rattle.mc_sql.specs.Classes.{hex}
use Rattle.mc_sql.specs.Begins.{a_word, a_mark}
use Rattle.mc_sql.specs.Rules.{Rule, statement, explain_option, distinct_option, more_items}
use Rattle.mc_sql.specs.Rules.{source_option, source, where_option, group_option, more_ors}
use Rattle.mc_sql.specs.Rules.{order_option, more_orders, limit_option, offset_option, item}
use Rattle.mc_sql.specs.Rules.{alias_option, order, direction_option, or, more_xors, xor, more_ands}
use Rattle.mc_sql.specs.Rules.{and, more_nots, not, pred, not_option, escape_option, cmp, sum}
use Rattle.mc_sql.specs.Rules.{more_prods, prod, more_negs, neg, coll, more_collates}
use Rattle.mc_sql.specs.Rules.{name_or_binary, prim, string, more_strs, call, set_option, side}
use Rattle.mc_sql.specs.Rules.{or_option, length_option, cut_option}

abbrev follows_distinct_option : Ahead Class
follows_distinct_option =
    a_mark Star ∷ a_word "not" ∷ a_mark Minus ∷ Some int ∷ a_word "true" ∷ a_word "false" ∷
    a_word "null" ∷ Some name ∷ a_mark LeftParen ∷ Some str ∷ Some national ∷ Some hex ∷
    Some intro ∷ a_word "convert" ∷ a_word "cast" ∷ a_word "count" ∷ a_word "trim" ∷
    a_word "substring" ∷ a_word "weight_string" ∷ Some called ∷ Some called_otherwise ∷ []

abbrev follows_item : Ahead Class
follows_item = a_mark Comma ∷ a_word "from" ∷ a_word "order" ∷ a_word "limit" ∷ None ∷ []

abbrev follows_or : Ahead Class
follows_or =
    a_word "group" ∷ a_word "order" ∷ a_word "limit" ∷ None ∷ a_mark Comma ∷ a_word "as" ∷
    Some name ∷ a_word "from" ∷ a_word "asc" ∷ a_word "desc" ∷ a_mark RightParen ∷ a_word "using" ∷
    a_word "for" ∷ []

abbrev follows_xor : Ahead Class
follows_xor =
    a_word "or" ∷ a_word "group" ∷ a_word "order" ∷ a_word "limit" ∷ None ∷ a_mark Comma ∷
    a_word "as" ∷ Some name ∷ a_word "from" ∷ a_word "asc" ∷ a_word "desc" ∷ a_mark RightParen ∷
    a_word "using" ∷ a_word "for" ∷ []

abbrev follows_and : Ahead Class
follows_and =
    a_word "xor" ∷ a_word "or" ∷ a_word "group" ∷ a_word "order" ∷ a_word "limit" ∷ None ∷
    a_mark Comma ∷ a_word "as" ∷ Some name ∷ a_word "from" ∷ a_word "asc" ∷ a_word "desc" ∷
    a_mark RightParen ∷ a_word "using" ∷ a_word "for" ∷ []

abbrev follows_not : Ahead Class
follows_not =
    a_word "and" ∷ a_word "xor" ∷ a_word "or" ∷ a_word "group" ∷ a_word "order" ∷
    a_word "limit" ∷ None ∷ a_mark Comma ∷ a_word "as" ∷ Some name ∷ a_word "from" ∷
    a_word "asc" ∷ a_word "desc" ∷ a_mark RightParen ∷ a_word "using" ∷ a_word "for" ∷ []

abbrev follows_cmp : Ahead Class
follows_cmp =
    a_mark Minus ∷ Some int ∷ a_word "true" ∷ a_word "false" ∷ a_word "null" ∷ Some name ∷
    a_mark LeftParen ∷ Some str ∷ Some national ∷ Some hex ∷ Some intro ∷ a_word "convert" ∷
    a_word "cast" ∷ a_word "count" ∷ a_word "trim" ∷ a_word "substring" ∷
    a_word "weight_string" ∷ Some called ∷ Some called_otherwise ∷ []

abbrev follows_sum : Ahead Class
follows_sum =
    a_word "and" ∷ a_word "xor" ∷ a_word "or" ∷ a_word "group" ∷ a_word "order" ∷
    a_word "limit" ∷ None ∷ a_mark Comma ∷ a_word "as" ∷ Some name ∷ a_word "from" ∷
    a_word "asc" ∷ a_word "desc" ∷ a_mark Eq ∷ a_mark NullEq ∷ a_mark Ne ∷ a_mark NeBang ∷
    a_mark Lt ∷ a_mark Le ∷ a_mark Gt ∷ a_mark Ge ∷ a_word "is" ∷ a_word "not" ∷
    a_word "like" ∷ a_word "escape" ∷ a_word "in" ∷ a_word "between" ∷ a_mark RightParen ∷
    a_word "using" ∷ a_word "for" ∷ []

abbrev follows_prod : Ahead Class
follows_prod =
    a_mark Plus ∷ a_mark Minus ∷ a_word "and" ∷ a_word "xor" ∷ a_word "or" ∷ a_word "group" ∷
    a_word "order" ∷ a_word "limit" ∷ None ∷ a_mark Comma ∷ a_word "as" ∷ Some name ∷
    a_word "from" ∷ a_word "asc" ∷ a_word "desc" ∷ a_mark Eq ∷ a_mark NullEq ∷ a_mark Ne ∷
    a_mark NeBang ∷ a_mark Lt ∷ a_mark Le ∷ a_mark Gt ∷ a_mark Ge ∷ a_word "is" ∷
    a_word "not" ∷ a_word "like" ∷ a_word "escape" ∷ a_word "in" ∷ a_word "between" ∷
    a_mark RightParen ∷ a_word "using" ∷ a_word "for" ∷ []

abbrev follows_neg : Ahead Class
follows_neg =
    a_mark Star ∷ a_word "div" ∷ a_mark Percent ∷ a_word "mod" ∷ a_mark Plus ∷ a_mark Minus ∷
    a_word "and" ∷ a_word "xor" ∷ a_word "or" ∷ a_word "group" ∷ a_word "order" ∷
    a_word "limit" ∷ None ∷ a_mark Comma ∷ a_word "as" ∷ Some name ∷ a_word "from" ∷
    a_word "asc" ∷ a_word "desc" ∷ a_mark Eq ∷ a_mark NullEq ∷ a_mark Ne ∷ a_mark NeBang ∷
    a_mark Lt ∷ a_mark Le ∷ a_mark Gt ∷ a_mark Ge ∷ a_word "is" ∷ a_word "not" ∷
    a_word "like" ∷ a_word "escape" ∷ a_word "in" ∷ a_word "between" ∷ a_mark RightParen ∷
    a_word "using" ∷ a_word "for" ∷ []

abbrev follows_name_or_binary : Ahead Class
follows_name_or_binary =
    a_word "collate" ∷ a_mark Star ∷ a_word "div" ∷ a_mark Percent ∷ a_word "mod" ∷ a_mark Plus ∷
    a_mark Minus ∷ a_word "and" ∷ a_word "xor" ∷ a_word "or" ∷ a_word "group" ∷ a_word "order" ∷
    a_word "limit" ∷ None ∷ a_mark Comma ∷ a_word "as" ∷ Some name ∷ a_word "from" ∷
    a_word "asc" ∷ a_word "desc" ∷ a_mark Eq ∷ a_mark NullEq ∷ a_mark Ne ∷ a_mark NeBang ∷
    a_mark Lt ∷ a_mark Le ∷ a_mark Gt ∷ a_mark Ge ∷ a_word "is" ∷ a_word "not" ∷
    a_word "like" ∷ a_word "escape" ∷ a_word "in" ∷ a_word "between" ∷ a_mark RightParen ∷
    a_word "using" ∷ a_word "for" ∷ []

abbrev follows_side : Ahead Class
follows_side =
    a_word "not" ∷ a_mark Minus ∷ Some int ∷ a_word "true" ∷ a_word "false" ∷ a_word "null" ∷
    Some name ∷ a_mark LeftParen ∷ Some str ∷ Some national ∷ Some hex ∷ Some intro ∷
    a_word "convert" ∷ a_word "cast" ∷ a_word "count" ∷ a_word "trim" ∷ a_word "substring" ∷
    a_word "weight_string" ∷ Some called ∷ Some called_otherwise ∷ a_word "from" ∷ []

-- What may follow a rule.
abbrev pub follows : Rule → Ahead Class
follows statement = None ∷ []
follows explain_option = a_word "select" ∷ []
follows distinct_option = follows_distinct_option
follows more_items = a_word "from" ∷ a_word "order" ∷ a_word "limit" ∷ None ∷ []
follows source_option = a_word "order" ∷ a_word "limit" ∷ None ∷ []
follows source = a_word "order" ∷ a_word "limit" ∷ None ∷ []
follows where_option = a_word "group" ∷ a_word "order" ∷ a_word "limit" ∷ None ∷ []
follows group_option = a_word "order" ∷ a_word "limit" ∷ None ∷ []
follows more_ors = a_word "order" ∷ a_word "limit" ∷ None ∷ a_mark RightParen ∷ []
follows order_option = a_word "limit" ∷ None ∷ []
follows more_orders = a_word "limit" ∷ None ∷ []
follows limit_option = None ∷ []
follows offset_option = None ∷ []
follows item = follows_item
follows alias_option = follows_item
follows order = a_mark Comma ∷ a_word "limit" ∷ None ∷ []
follows direction_option = a_mark Comma ∷ a_word "limit" ∷ None ∷ []
follows or = follows_or
follows more_xors = follows_or
follows xor = follows_xor
follows more_ands = follows_xor
follows and = follows_and
follows more_nots = follows_and
follows not = follows_not
follows pred = follows_not
follows not_option = a_word "null" ∷ a_word "like" ∷ a_word "in" ∷ a_word "between" ∷ []
follows escape_option = follows_not
follows cmp = follows_cmp
follows sum = follows_sum
follows more_prods = follows_sum
follows prod = follows_prod
follows more_negs = follows_prod
follows neg = follows_neg
follows coll = follows_neg
follows more_collates = follows_neg
follows name_or_binary = follows_name_or_binary
follows prim = follows_name_or_binary
follows string = follows_name_or_binary
follows more_strs = follows_name_or_binary
follows call = follows_name_or_binary
follows set_option = a_mark RightParen ∷ []
follows side = follows_side
follows or_option = a_word "from" ∷ []
follows length_option = a_mark RightParen ∷ []
follows cut_option = a_mark RightParen ∷ []
