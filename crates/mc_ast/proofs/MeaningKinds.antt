-- The kinds of meanings that the rules have.
use Rattle.std.specs.Prelude.{Bool, true, false, ◌&&◌, List, [], ◌∷◌}
use Rattle.mc_grammar.specs.Grammar.{Symbol, one, rule}
use Rattle.mc_sql.specs.Classes.{Class, word, mark, name, called, called_otherwise, intro, int, str, national, hex}
use Rattle.mc_sql.specs.Rules.{Rule, Alternative, statement, explain_option, distinct_option, more_items, source_option, source, where_option, group_option, more_ors, order_option, more_orders, limit_option, offset_option, item, alias_option, order, direction_option, or, more_xors, xor, more_ands, and, more_nots, not, pred, not_option, escape_option, cmp, sum, more_prods, prod, more_negs, neg, coll, more_collates, name_or_binary, prim, string, more_strs, call, set_option, side, or_option, length_option, cut_option, star_statement, items_statement, no_explain, explained, no_distinct, distinct_rows, no_more_items, one_more_item, no_source, given_source, from_table, no_where, where_holds, no_group, group_by, no_more_ors, one_more_or, no_order, order_by, no_more_orders, one_more_order, no_limit, limit_rows, no_offset, offset_before, offset_behind, one_item, no_alias, as_alias, bare_alias, one_order, no_direction, ascending, descending, xors, no_more_xors, one_more_xor, ands, no_more_ands, one_more_and, nots, no_more_nots, one_more_not, negated, just_pred, just_sum, compared, tested_null, matched, listed, ranged, no_not, with_not, no_escape, with_escape, equal, null_equal, unequal, unequal_bang, less, less_equal, greater, greater_equal, prods, no_more_prods, plus_prod, minus_prod, negs, no_more_negs, times_neg, div_neg, percent_neg, mod_neg, minus, just_coll, collated, no_more_collates, one_more_collate, by_name, by_binary, number, true_word, false_word, null_word, just_string, column, table_column, just_call, in_parens, plain_string, national_string, hex_string, intro_string, intro_hex, no_more_strs, one_more_str, convert_call, cast_char_call, cast_binary_call, count_all_call, count_distinct_call, trim_side_call, trim_call, substring_call, weight_string_call, empty_call, single_call, many_call, no_set, with_set, both_sides, leading_side, trailing_side, no_or, given_or, no_length, with_length, no_cut, char_cut, binary_cut}
use Rattle.mc_ast.specs.Values as V
use Rattle.mc_ast.specs.Values.{Value}

-- The meaning is of this kind.
abbrev pub is_statement : Value → Bool
is_statement (V.a_statement x) = true
is_statement _ = false

-- The meaning is of this kind.
abbrev pub is_flag : Value → Bool
is_flag (V.flag x) = true
is_flag _ = false

-- The meaning is of this kind.
abbrev pub is_items : Value → Bool
is_items (V.items x) = true
is_items _ = false

-- The meaning is of this kind.
abbrev pub is_source : Value → Bool
is_source (V.source x) = true
is_source _ = false

-- The meaning is of this kind.
abbrev pub is_maybe_operand : Value → Bool
is_maybe_operand (V.maybe_operand x) = true
is_maybe_operand _ = false

-- The meaning is of this kind.
abbrev pub is_operands : Value → Bool
is_operands (V.operands x) = true
is_operands _ = false

-- The meaning is of this kind.
abbrev pub is_order_items : Value → Bool
is_order_items (V.order_items x) = true
is_order_items _ = false

-- The meaning is of this kind.
abbrev pub is_limit : Value → Bool
is_limit (V.limit x) = true
is_limit _ = false

-- The meaning is of this kind.
abbrev pub is_offset : Value → Bool
is_offset (V.the_count x) = true
is_offset (V.the_offset x) = true
is_offset V.no_number = true
is_offset _ = false

-- The meaning is of this kind.
abbrev pub is_item : Value → Bool
is_item (V.item x) = true
is_item _ = false

-- The meaning is of this kind.
abbrev pub is_maybe_text : Value → Bool
is_maybe_text (V.maybe_text x) = true
is_maybe_text _ = false

-- The meaning is of this kind.
abbrev pub is_order_item : Value → Bool
is_order_item (V.order_item x) = true
is_order_item _ = false

-- The meaning is of this kind.
abbrev pub is_operand : Value → Bool
is_operand (V.operand x) = true
is_operand _ = false

-- The meaning is of this kind.
abbrev pub is_comparison : Value → Bool
is_comparison (V.comparison x) = true
is_comparison _ = false

-- The meaning is of this kind.
abbrev pub is_operations : Value → Bool
is_operations (V.operations x) = true
is_operations _ = false

-- The meaning is of this kind.
abbrev pub is_collations : Value → Bool
is_collations (V.collations x) = true
is_collations _ = false

-- The meaning is of this kind.
abbrev pub is_collation : Value → Bool
is_collation (V.collation x) = true
is_collation _ = false

-- The meaning is of this kind.
abbrev pub is_text : Value → Bool
is_text (V.text x) = true
is_text _ = false

-- The meaning is of this kind.
abbrev pub is_trim_side : Value → Bool
is_trim_side (V.trim_side x) = true
is_trim_side _ = false

-- The meaning is of this kind.
abbrev pub is_cut : Value → Bool
is_cut (V.cut x) = true
is_cut _ = false

-- The meaning is a token.
abbrev pub is_token : Value → Bool
is_token (V.a_token x) = true
is_token _ = false

-- The kind of meaning that a rule has.
abbrev pub is_kind : Rule → Value → Bool
is_kind statement v = is_statement v
is_kind explain_option v = is_flag v
is_kind distinct_option v = is_flag v
is_kind more_items v = is_items v
is_kind source_option v = is_source v
is_kind source v = is_source v
is_kind where_option v = is_maybe_operand v
is_kind group_option v = is_operands v
is_kind more_ors v = is_operands v
is_kind order_option v = is_order_items v
is_kind more_orders v = is_order_items v
is_kind limit_option v = is_limit v
is_kind offset_option v = is_offset v
is_kind item v = is_item v
is_kind alias_option v = is_maybe_text v
is_kind order v = is_order_item v
is_kind direction_option v = is_flag v
is_kind or v = is_operand v
is_kind more_xors v = is_operands v
is_kind xor v = is_operand v
is_kind more_ands v = is_operands v
is_kind and v = is_operand v
is_kind more_nots v = is_operands v
is_kind not v = is_operand v
is_kind pred v = is_operand v
is_kind not_option v = is_flag v
is_kind escape_option v = is_maybe_text v
is_kind cmp v = is_comparison v
is_kind sum v = is_operand v
is_kind more_prods v = is_operations v
is_kind prod v = is_operand v
is_kind more_negs v = is_operations v
is_kind neg v = is_operand v
is_kind coll v = is_operand v
is_kind more_collates v = is_collations v
is_kind name_or_binary v = is_collation v
is_kind prim v = is_operand v
is_kind string v = is_operand v
is_kind more_strs v = is_text v
is_kind call v = is_operand v
is_kind set_option v = is_maybe_text v
is_kind side v = is_trim_side v
is_kind or_option v = is_maybe_operand v
is_kind length_option v = is_maybe_operand v
is_kind cut_option v = is_cut v

-- The meanings are of the kinds that the symbols ask for; a word or a mark asks for none.
abbrev pub suit : List (Symbol Class Rule) → List Value → Bool
suit [] [] = true
suit [] (v ∷ vs) = false
suit (s ∷ ss) [] = false
suit (one (word w) ∷ ss) (v ∷ vs) = suit ss vs
suit (one (mark m) ∷ ss) (v ∷ vs) = suit ss vs
suit (one name ∷ ss) (v ∷ vs) = is_token v && suit ss vs
suit (one called ∷ ss) (v ∷ vs) = is_token v && suit ss vs
suit (one called_otherwise ∷ ss) (v ∷ vs) = is_token v && suit ss vs
suit (one intro ∷ ss) (v ∷ vs) = is_token v && suit ss vs
suit (one int ∷ ss) (v ∷ vs) = is_token v && suit ss vs
suit (one str ∷ ss) (v ∷ vs) = is_token v && suit ss vs
suit (one national ∷ ss) (v ∷ vs) = is_token v && suit ss vs
suit (one hex ∷ ss) (v ∷ vs) = is_token v && suit ss vs
suit (rule r ∷ ss) (v ∷ vs) = is_kind r v && suit ss vs

-- The rule of an alternative.
abbrev pub rule_of : Alternative → Rule
rule_of star_statement = statement
rule_of items_statement = statement
rule_of no_explain = explain_option
rule_of explained = explain_option
rule_of no_distinct = distinct_option
rule_of distinct_rows = distinct_option
rule_of no_more_items = more_items
rule_of one_more_item = more_items
rule_of no_source = source_option
rule_of given_source = source_option
rule_of from_table = source
rule_of no_where = where_option
rule_of where_holds = where_option
rule_of no_group = group_option
rule_of group_by = group_option
rule_of no_more_ors = more_ors
rule_of one_more_or = more_ors
rule_of no_order = order_option
rule_of order_by = order_option
rule_of no_more_orders = more_orders
rule_of one_more_order = more_orders
rule_of no_limit = limit_option
rule_of limit_rows = limit_option
rule_of no_offset = offset_option
rule_of offset_before = offset_option
rule_of offset_behind = offset_option
rule_of one_item = item
rule_of no_alias = alias_option
rule_of as_alias = alias_option
rule_of bare_alias = alias_option
rule_of one_order = order
rule_of no_direction = direction_option
rule_of ascending = direction_option
rule_of descending = direction_option
rule_of xors = or
rule_of no_more_xors = more_xors
rule_of one_more_xor = more_xors
rule_of ands = xor
rule_of no_more_ands = more_ands
rule_of one_more_and = more_ands
rule_of nots = and
rule_of no_more_nots = more_nots
rule_of one_more_not = more_nots
rule_of negated = not
rule_of just_pred = not
rule_of just_sum = pred
rule_of compared = pred
rule_of tested_null = pred
rule_of matched = pred
rule_of listed = pred
rule_of ranged = pred
rule_of no_not = not_option
rule_of with_not = not_option
rule_of no_escape = escape_option
rule_of with_escape = escape_option
rule_of equal = cmp
rule_of null_equal = cmp
rule_of unequal = cmp
rule_of unequal_bang = cmp
rule_of less = cmp
rule_of less_equal = cmp
rule_of greater = cmp
rule_of greater_equal = cmp
rule_of prods = sum
rule_of no_more_prods = more_prods
rule_of plus_prod = more_prods
rule_of minus_prod = more_prods
rule_of negs = prod
rule_of no_more_negs = more_negs
rule_of times_neg = more_negs
rule_of div_neg = more_negs
rule_of percent_neg = more_negs
rule_of mod_neg = more_negs
rule_of minus = neg
rule_of just_coll = neg
rule_of collated = coll
rule_of no_more_collates = more_collates
rule_of one_more_collate = more_collates
rule_of by_name = name_or_binary
rule_of by_binary = name_or_binary
rule_of number = prim
rule_of true_word = prim
rule_of false_word = prim
rule_of null_word = prim
rule_of just_string = prim
rule_of column = prim
rule_of table_column = prim
rule_of just_call = prim
rule_of in_parens = prim
rule_of plain_string = string
rule_of national_string = string
rule_of hex_string = string
rule_of intro_string = string
rule_of intro_hex = string
rule_of no_more_strs = more_strs
rule_of one_more_str = more_strs
rule_of convert_call = call
rule_of cast_char_call = call
rule_of cast_binary_call = call
rule_of count_all_call = call
rule_of count_distinct_call = call
rule_of trim_side_call = call
rule_of trim_call = call
rule_of substring_call = call
rule_of weight_string_call = call
rule_of empty_call = call
rule_of single_call = call
rule_of many_call = call
rule_of no_set = set_option
rule_of with_set = set_option
rule_of both_sides = side
rule_of leading_side = side
rule_of trailing_side = side
rule_of no_or = or_option
rule_of given_or = or_option
rule_of no_length = length_option
rule_of with_length = length_option
rule_of no_cut = cut_option
rule_of char_cut = cut_option
rule_of binary_cut = cut_option
