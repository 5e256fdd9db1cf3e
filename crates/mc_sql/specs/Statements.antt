-- The grammar of the statements, after MySQL 8.0 manual, 13.2.10, 12.4 and 9.3.
use Rattle.std.specs.Prelude.{List, [], ◌∷◌, codes}
use Prim.Native.String.{String}
use Rattle.mc_grammar.specs.Grammar.{Grammar, Symbol, one, rule}
use Rattle.mc_token.specs.declared.lexeme.Token.{Token}
use Rattle.mc_token.specs.declared.lexeme.Symbol.{Symbol as Mark}
use Rattle.mc_token.specs.declared.lexeme.Symbol.TheVariants.{LeftParen, RightParen, Comma, Dot}
use Rattle.mc_token.specs.declared.lexeme.Symbol.TheVariants.{Star, Plus, Minus, Percent}
use Rattle.mc_token.specs.declared.lexeme.Symbol.TheVariants.{Eq, Ne, NeBang, Lt}
use Rattle.mc_token.specs.declared.lexeme.Symbol.TheVariants.{Le, Gt, Ge, NullEq}
use Rattle.mc_sql.specs.Classes.{Class, word, mark, name, called, called_otherwise, intro, int, str}
use Rattle.mc_sql.specs.Classes.{national, hex, is_lexeme_of}
use Rattle.mc_sql.specs.Rules.{Rule, Alternative, alternatives, explain_option, distinct_option}
use Rattle.mc_sql.specs.Rules.{more_items, source_option, source, where_option, group_option}
use Rattle.mc_sql.specs.Rules.{more_ors, order_option, more_orders, limit_option, offset_option}
use Rattle.mc_sql.specs.Rules.{item, alias_option, order, direction_option, or, more_xors, xor}
use Rattle.mc_sql.specs.Rules.{more_ands, and, more_nots, not, pred, not_option, escape_option, cmp}
use Rattle.mc_sql.specs.Rules.{sum, more_prods, prod, more_negs, neg, coll, more_collates}
use Rattle.mc_sql.specs.Rules.{name_or_binary, prim, string, more_strs, call, set_option, side}
use Rattle.mc_sql.specs.Rules.{or_option, length_option, cut_option, star_statement}
use Rattle.mc_sql.specs.Rules.{items_statement, no_explain, explained, no_distinct, distinct_rows}
use Rattle.mc_sql.specs.Rules.{no_more_items, one_more_item, no_source, given_source, from_table}
use Rattle.mc_sql.specs.Rules.{no_where, where_holds, no_group, group_by, no_more_ors, one_more_or}
use Rattle.mc_sql.specs.Rules.{no_order, order_by, no_more_orders, one_more_order, no_limit}
use Rattle.mc_sql.specs.Rules.{limit_rows, no_offset, offset_before, offset_behind, one_item}
use Rattle.mc_sql.specs.Rules.{no_alias, as_alias, bare_alias, one_order, no_direction, ascending}
use Rattle.mc_sql.specs.Rules.{descending, xors, no_more_xors, one_more_xor, ands, no_more_ands}
use Rattle.mc_sql.specs.Rules.{one_more_and, nots, no_more_nots, one_more_not, negated, just_pred}
use Rattle.mc_sql.specs.Rules.{just_sum, compared, tested_null, matched, listed, ranged, no_not}
use Rattle.mc_sql.specs.Rules.{with_not, no_escape, with_escape, equal, null_equal, unequal}
use Rattle.mc_sql.specs.Rules.{unequal_bang, less, less_equal, greater, greater_equal, prods}
use Rattle.mc_sql.specs.Rules.{no_more_prods, plus_prod, minus_prod, negs, no_more_negs, times_neg}
use Rattle.mc_sql.specs.Rules.{div_neg, percent_neg, mod_neg, minus, just_coll, collated}
use Rattle.mc_sql.specs.Rules.{no_more_collates, one_more_collate, by_name, by_binary, number}
use Rattle.mc_sql.specs.Rules.{true_word, false_word, null_word, just_string, column, table_column}
use Rattle.mc_sql.specs.Rules.{just_call, in_parens, plain_string, national_string, hex_string}
use Rattle.mc_sql.specs.Rules.{intro_string, intro_hex, no_more_strs, one_more_str, convert_call}
use Rattle.mc_sql.specs.Rules.{cast_char_call, cast_binary_call, count_all_call}
use Rattle.mc_sql.specs.Rules.{count_distinct_call, trim_side_call, trim_call, substring_call}
use Rattle.mc_sql.specs.Rules.{weight_string_call, empty_call, single_call, many_call, no_set}
use Rattle.mc_sql.specs.Rules.{with_set, both_sides, leading_side, trailing_side, no_or, given_or}
use Rattle.mc_sql.specs.Rules.{no_length, with_length, no_cut, char_cut, binary_cut}

-- A word of the grammar.
abbrev keyword : String → Symbol Class Rule
keyword text = one (word (codes text))

-- A mark of the grammar.
abbrev sign : Mark → Symbol Class Rule
sign symbol = one (mark symbol)

-- What each alternative reads. Above the alternatives of a rule stands the rule.
abbrev pub symbols : Alternative → List (Symbol Class Rule)
-- statement := [EXPLAIN] SELECT [DISTINCT] items [FROM NAME [WHERE or] [GROUP BY or {, or}]]
--              [ORDER BY order {, order}] [LIMIT Int [(, | OFFSET) Int]]
-- items  := * {, item} | item {, item}            (with * a FROM must follow)
symbols star_statement =
    rule explain_option ∷ keyword "select" ∷ rule distinct_option ∷ sign Star ∷
    rule more_items ∷ rule source ∷ rule order_option ∷ rule limit_option ∷ []
symbols items_statement =
    rule explain_option ∷ keyword "select" ∷ rule distinct_option ∷ rule item ∷
    rule more_items ∷ rule source_option ∷ rule order_option ∷ rule limit_option ∷ []
-- [EXPLAIN]
symbols no_explain = []
symbols explained = keyword "explain" ∷ []
-- [DISTINCT]
symbols no_distinct = []
symbols distinct_rows = keyword "distinct" ∷ []
-- {, item}
symbols no_more_items = []
symbols one_more_item = sign Comma ∷ rule item ∷ rule more_items ∷ []
-- [FROM NAME [WHERE or] [GROUP BY or {, or}]]
symbols no_source = []
symbols given_source = rule source ∷ []
-- FROM NAME [WHERE or] [GROUP BY or {, or}]
symbols from_table = keyword "from" ∷ one name ∷ rule where_option ∷ rule group_option ∷ []
-- [WHERE or]
symbols no_where = []
symbols where_holds = keyword "where" ∷ rule or ∷ []
-- [GROUP BY or {, or}]
symbols no_group = []
symbols group_by = keyword "group" ∷ keyword "by" ∷ rule or ∷ rule more_ors ∷ []
-- {, or}
symbols no_more_ors = []
symbols one_more_or = sign Comma ∷ rule or ∷ rule more_ors ∷ []
-- [ORDER BY order {, order}]
symbols no_order = []
symbols order_by = keyword "order" ∷ keyword "by" ∷ rule order ∷ rule more_orders ∷ []
-- {, order}
symbols no_more_orders = []
symbols one_more_order = sign Comma ∷ rule order ∷ rule more_orders ∷ []
-- [LIMIT Int [(, | OFFSET) Int]]
symbols no_limit = []
symbols limit_rows = keyword "limit" ∷ one int ∷ rule offset_option ∷ []
-- [(, | OFFSET) Int]
symbols no_offset = []
symbols offset_before = sign Comma ∷ one int ∷ []
symbols offset_behind = keyword "offset" ∷ one int ∷ []
-- item   := or [[AS] NAME]
symbols one_item = rule or ∷ rule alias_option ∷ []
-- [[AS] NAME]
symbols no_alias = []
symbols as_alias = keyword "as" ∷ one name ∷ []
symbols bare_alias = one name ∷ []
-- order  := or [ASC | DESC]
symbols one_order = rule or ∷ rule direction_option ∷ []
-- [ASC | DESC]
symbols no_direction = []
symbols ascending = keyword "asc" ∷ []
symbols descending = keyword "desc" ∷ []
-- or     := xor {OR xor}
symbols xors = rule xor ∷ rule more_xors ∷ []
-- {OR xor}
symbols no_more_xors = []
symbols one_more_xor = keyword "or" ∷ rule xor ∷ rule more_xors ∷ []
-- xor    := and {XOR and}
symbols ands = rule and ∷ rule more_ands ∷ []
-- {XOR and}
symbols no_more_ands = []
symbols one_more_and = keyword "xor" ∷ rule and ∷ rule more_ands ∷ []
-- and    := not {AND not}
symbols nots = rule not ∷ rule more_nots ∷ []
-- {AND not}
symbols no_more_nots = []
symbols one_more_not = keyword "and" ∷ rule not ∷ rule more_nots ∷ []
-- not    := NOT not | pred
symbols negated = keyword "not" ∷ rule not ∷ []
symbols just_pred = rule pred ∷ []
-- pred   := sum | sum cmp sum | sum IS [NOT] NULL | sum [NOT] LIKE sum [ESCAPE Str]
--         | sum [NOT] IN ( or {, or} ) | sum [NOT] BETWEEN sum AND sum
symbols just_sum = rule sum ∷ []
symbols compared = rule sum ∷ rule cmp ∷ rule sum ∷ []
symbols tested_null = rule sum ∷ keyword "is" ∷ rule not_option ∷ keyword "null" ∷ []
symbols matched =
    rule sum ∷ rule not_option ∷ keyword "like" ∷ rule sum ∷ rule escape_option ∷ []
symbols listed =
    rule sum ∷ rule not_option ∷ keyword "in" ∷ sign LeftParen ∷ rule or ∷
    rule more_ors ∷ sign RightParen ∷ []
symbols ranged =
    rule sum ∷ rule not_option ∷ keyword "between" ∷ rule sum ∷ keyword "and" ∷
    rule sum ∷ []
-- [NOT]
symbols no_not = []
symbols with_not = keyword "not" ∷ []
-- [ESCAPE Str]
symbols no_escape = []
symbols with_escape = keyword "escape" ∷ one str ∷ []
-- cmp    := = | <=> | <> | != | < | <= | > | >=
symbols equal = sign Eq ∷ []
symbols null_equal = sign NullEq ∷ []
symbols unequal = sign Ne ∷ []
symbols unequal_bang = sign NeBang ∷ []
symbols less = sign Lt ∷ []
symbols less_equal = sign Le ∷ []
symbols greater = sign Gt ∷ []
symbols greater_equal = sign Ge ∷ []
-- sum    := prod {(+ | -) prod}
symbols prods = rule prod ∷ rule more_prods ∷ []
-- {(+ | -) prod}
symbols no_more_prods = []
symbols plus_prod = sign Plus ∷ rule prod ∷ rule more_prods ∷ []
symbols minus_prod = sign Minus ∷ rule prod ∷ rule more_prods ∷ []
-- prod   := neg {(* | DIV | % | MOD) neg}
symbols negs = rule neg ∷ rule more_negs ∷ []
-- {(* | DIV | % | MOD) neg}
symbols no_more_negs = []
symbols times_neg = sign Star ∷ rule neg ∷ rule more_negs ∷ []
symbols div_neg = keyword "div" ∷ rule neg ∷ rule more_negs ∷ []
symbols percent_neg = sign Percent ∷ rule neg ∷ rule more_negs ∷ []
symbols mod_neg = keyword "mod" ∷ rule neg ∷ rule more_negs ∷ []
-- neg    := - neg | coll
symbols minus = sign Minus ∷ rule neg ∷ []
symbols just_coll = rule coll ∷ []
-- coll   := prim {COLLATE (NAME | BINARY)}
symbols collated = rule prim ∷ rule more_collates ∷ []
-- {COLLATE (NAME | BINARY)}
symbols no_more_collates = []
symbols one_more_collate = keyword "collate" ∷ rule name_or_binary ∷ rule more_collates ∷ []
-- (NAME | BINARY)
symbols by_name = one name ∷ []
symbols by_binary = keyword "binary" ∷ []
-- prim   := Int | TRUE | FALSE | NULL | string | NAME | NAME . NAME | call | ( or )
symbols number = one int ∷ []
symbols true_word = keyword "true" ∷ []
symbols false_word = keyword "false" ∷ []
symbols null_word = keyword "null" ∷ []
symbols just_string = rule string ∷ []
symbols column = one name ∷ []
symbols table_column = one name ∷ sign Dot ∷ one name ∷ []
symbols just_call = rule call ∷ []
symbols in_parens = sign LeftParen ∷ rule or ∷ sign RightParen ∷ []
-- string := Str {Str} | National {Str} | Hex | INTRO Str {Str} | INTRO Hex
symbols plain_string = one str ∷ rule more_strs ∷ []
symbols national_string = one national ∷ rule more_strs ∷ []
symbols hex_string = one hex ∷ []
symbols intro_string = one intro ∷ one str ∷ rule more_strs ∷ []
symbols intro_hex = one intro ∷ one hex ∷ []
-- {Str}
symbols no_more_strs = []
symbols one_more_str = one str ∷ rule more_strs ∷ []
-- call   := CONVERT ( or USING (NAME | BINARY) )
--         | CAST ( or AS CHAR [CHARACTER SET (NAME | BINARY)] ) | CAST ( or AS BINARY )
--         | count ( * ) | count ( DISTINCT or )
--         | trim ( [BOTH | LEADING | TRAILING] [or] FROM or )   (at least one part before FROM)
--         | substring ( or FROM or [FOR or] )
--         | weight_string ( or [AS (CHAR | BINARY) ( Int )] )
--         | NAME ( [or {, or}] )
-- Both of the last two read `weight_string ( or )`: the former gives the tree, so the latter, where
-- it has one argument, leaves that word out.
symbols convert_call =
    keyword "convert" ∷ sign LeftParen ∷ rule or ∷ keyword "using" ∷ rule name_or_binary ∷
    sign RightParen ∷ []
symbols cast_char_call =
    keyword "cast" ∷ sign LeftParen ∷ rule or ∷ keyword "as" ∷ keyword "char" ∷
    rule set_option ∷ sign RightParen ∷ []
symbols cast_binary_call =
    keyword "cast" ∷ sign LeftParen ∷ rule or ∷ keyword "as" ∷ keyword "binary" ∷
    sign RightParen ∷ []
symbols count_all_call = keyword "count" ∷ sign LeftParen ∷ sign Star ∷ sign RightParen ∷ []
symbols count_distinct_call =
    keyword "count" ∷ sign LeftParen ∷ keyword "distinct" ∷ rule or ∷ sign RightParen ∷ []
symbols trim_side_call =
    keyword "trim" ∷ sign LeftParen ∷ rule side ∷ rule or_option ∷ keyword "from" ∷
    rule or ∷ sign RightParen ∷ []
symbols trim_call =
    keyword "trim" ∷ sign LeftParen ∷ rule or ∷ keyword "from" ∷ rule or ∷
    sign RightParen ∷ []
symbols substring_call =
    keyword "substring" ∷ sign LeftParen ∷ rule or ∷ keyword "from" ∷ rule or ∷
    rule length_option ∷ sign RightParen ∷ []
symbols weight_string_call =
    keyword "weight_string" ∷ sign LeftParen ∷ rule or ∷ rule cut_option ∷
    sign RightParen ∷ []
symbols empty_call = one called ∷ sign LeftParen ∷ sign RightParen ∷ []
symbols single_call = one called_otherwise ∷ sign LeftParen ∷ rule or ∷ sign RightParen ∷ []
symbols many_call =
    one called ∷ sign LeftParen ∷ rule or ∷ sign Comma ∷ rule or ∷ rule more_ors ∷
    sign RightParen ∷ []
-- [CHARACTER SET (NAME | BINARY)]
symbols no_set = []
symbols with_set = keyword "character" ∷ keyword "set" ∷ rule name_or_binary ∷ []
-- BOTH | LEADING | TRAILING
symbols both_sides = keyword "both" ∷ []
symbols leading_side = keyword "leading" ∷ []
symbols trailing_side = keyword "trailing" ∷ []
-- [or]
symbols no_or = []
symbols given_or = rule or ∷ []
-- [FOR or]
symbols no_length = []
symbols with_length = keyword "for" ∷ rule or ∷ []
-- [AS (CHAR | BINARY) ( Int )]
symbols no_cut = []
symbols char_cut =
    keyword "as" ∷ keyword "char" ∷ sign LeftParen ∷ one int ∷ sign RightParen ∷ []
symbols binary_cut =
    keyword "as" ∷ keyword "binary" ∷ sign LeftParen ∷ one int ∷ sign RightParen ∷ []

-- The grammar of the statements.
abbrev pub statements : Grammar Class Rule Alternative Token
statements = record {
  alternatives = alternatives;
  symbols = symbols;
  is_of = λ class token. is_lexeme_of class token.kind;
}
