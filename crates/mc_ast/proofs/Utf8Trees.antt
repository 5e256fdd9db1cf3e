-- The strings of a tree are UTF-8 where those of its tokens are.
use Rattle.std.proofs.Common.{◌≡◌, List, [], ◌∷◌, ◌++◌, subst, sym}
use Rattle.std.specs.List.{AllByRecursion}
use Rattle.mc_base.specs.declared.span.Span.{Span}
use Rattle.mc_grammar.specs.Grammar.{Symbol, one, rule}
use Rattle.mc_grammar.specs.Reading.{Forest, bare, leaf, node, tokens_of, Fits}
use Rattle.mc_token.specs.TokenLaws.{HaveUtf8Texts, HasUtf8Text}
use Rattle.mc_token.specs.declared.lexeme.Token.{Token}
use Rattle.mc_sql.specs.Classes.{Class}
use Rattle.mc_sql.specs.Rules.{Rule, Alternative, statement, star_statement, items_statement}
use Rattle.mc_sql.specs.Rules.{no_explain, explained, no_distinct, distinct_rows, no_more_items}
use Rattle.mc_sql.specs.Rules.{one_more_item, no_source, given_source, from_table, no_where}
use Rattle.mc_sql.specs.Rules.{where_holds, no_group, group_by, no_more_ors, one_more_or, no_order}
use Rattle.mc_sql.specs.Rules.{order_by, no_more_orders, one_more_order, no_limit, limit_rows}
use Rattle.mc_sql.specs.Rules.{no_offset, offset_before, offset_behind, one_item, no_alias}
use Rattle.mc_sql.specs.Rules.{as_alias, bare_alias, one_order, no_direction, ascending, descending}
use Rattle.mc_sql.specs.Rules.{xors, no_more_xors, one_more_xor, ands, no_more_ands, one_more_and}
use Rattle.mc_sql.specs.Rules.{nots, no_more_nots, one_more_not, negated, just_pred, just_sum}
use Rattle.mc_sql.specs.Rules.{compared, tested_null, matched, listed, ranged, no_not, with_not}
use Rattle.mc_sql.specs.Rules.{no_escape, with_escape, equal, null_equal, unequal, unequal_bang}
use Rattle.mc_sql.specs.Rules.{less, less_equal, greater, greater_equal, prods, no_more_prods}
use Rattle.mc_sql.specs.Rules.{plus_prod, minus_prod, negs, no_more_negs, times_neg, div_neg}
use Rattle.mc_sql.specs.Rules.{percent_neg, mod_neg, minus, just_coll, collated, no_more_collates}
use Rattle.mc_sql.specs.Rules.{one_more_collate, by_name, by_binary, number, true_word, false_word}
use Rattle.mc_sql.specs.Rules.{null_word, just_string, column, table_column, just_call, in_parens}
use Rattle.mc_sql.specs.Rules.{plain_string, national_string, hex_string, intro_string, intro_hex}
use Rattle.mc_sql.specs.Rules.{no_more_strs, one_more_str, convert_call, cast_char_call}
use Rattle.mc_sql.specs.Rules.{cast_binary_call, count_all_call, count_distinct_call}
use Rattle.mc_sql.specs.Rules.{trim_side_call, trim_call, substring_call, weight_string_call}
use Rattle.mc_sql.specs.Rules.{empty_call, single_call, many_call, no_set, with_set, both_sides}
use Rattle.mc_sql.specs.Rules.{leading_side, trailing_side, no_or, given_or, no_length, with_length}
use Rattle.mc_sql.specs.Rules.{no_cut, char_cut, binary_cut}
use Rattle.mc_sql.specs.Statements.{statements, symbols}
use Rattle.mc_ast.specs.declared.statement.Statement.{Statement}
use Rattle.mc_ast.specs.Meaning.{meaning}
use Rattle.mc_ast.specs.Spans.{span_of}
use Rattle.mc_ast.specs.Texts.{HasUtf8Strings}
use Rattle.mc_ast.specs.Trees.{meanings, IsTreeOf}
use Rattle.mc_ast.specs.Values.{Value, a_statement}
use Rattle.mc_ast.proofs.Utf8Meanings.{AllGood, IsGood, IsGoodly, good-star_statement}
use Rattle.mc_ast.proofs.Utf8Meanings.{good-items_statement, good-no_explain, good-explained}
use Rattle.mc_ast.proofs.Utf8Meanings.{good-no_distinct, good-distinct_rows, good-no_more_items}
use Rattle.mc_ast.proofs.Utf8Meanings.{good-one_more_item, good-no_source, good-given_source}
use Rattle.mc_ast.proofs.Utf8Meanings.{good-from_table, good-no_where, good-where_holds}
use Rattle.mc_ast.proofs.Utf8Meanings.{good-no_group, good-group_by, good-no_more_ors}
use Rattle.mc_ast.proofs.Utf8Meanings.{good-one_more_or, good-no_order, good-order_by}
use Rattle.mc_ast.proofs.Utf8Meanings.{good-no_more_orders, good-one_more_order, good-no_limit}
use Rattle.mc_ast.proofs.Utf8Meanings.{good-limit_rows, good-no_offset, good-offset_before}
use Rattle.mc_ast.proofs.Utf8Meanings.{good-offset_behind, good-one_item, good-no_alias}
use Rattle.mc_ast.proofs.Utf8Meanings.{good-as_alias, good-bare_alias, good-one_order}
use Rattle.mc_ast.proofs.Utf8Meanings.{good-no_direction, good-ascending, good-descending}
use Rattle.mc_ast.proofs.Utf8Meanings.{good-xors, good-no_more_xors, good-one_more_xor, good-ands}
use Rattle.mc_ast.proofs.Utf8Meanings.{good-no_more_ands, good-one_more_and, good-nots}
use Rattle.mc_ast.proofs.Utf8Meanings.{good-no_more_nots, good-one_more_not, good-negated}
use Rattle.mc_ast.proofs.Utf8Meanings.{good-just_pred, good-just_sum, good-compared}
use Rattle.mc_ast.proofs.Utf8Meanings.{good-tested_null, good-matched, good-listed, good-ranged}
use Rattle.mc_ast.proofs.Utf8Meanings.{good-no_not, good-with_not, good-no_escape, good-with_escape}
use Rattle.mc_ast.proofs.Utf8Meanings.{good-equal, good-null_equal, good-unequal, good-unequal_bang}
use Rattle.mc_ast.proofs.Utf8Meanings.{good-less, good-less_equal, good-greater, good-greater_equal}
use Rattle.mc_ast.proofs.Utf8Meanings.{good-prods, good-no_more_prods, good-plus_prod}
use Rattle.mc_ast.proofs.Utf8Meanings.{good-minus_prod, good-negs, good-no_more_negs}
use Rattle.mc_ast.proofs.Utf8Meanings.{good-times_neg, good-div_neg, good-percent_neg, good-mod_neg}
use Rattle.mc_ast.proofs.Utf8Meanings.{good-minus, good-just_coll, good-collated}
use Rattle.mc_ast.proofs.Utf8Meanings.{good-no_more_collates, good-one_more_collate, good-by_name}
use Rattle.mc_ast.proofs.Utf8Meanings.{good-by_binary, good-number, good-true_word, good-false_word}
use Rattle.mc_ast.proofs.Utf8Meanings.{good-null_word, good-just_string, good-column}
use Rattle.mc_ast.proofs.Utf8Meanings.{good-table_column, good-just_call, good-in_parens}
use Rattle.mc_ast.proofs.Utf8Meanings.{good-plain_string, good-national_string, good-hex_string}
use Rattle.mc_ast.proofs.Utf8Meanings.{good-intro_string, good-intro_hex, good-no_more_strs}
use Rattle.mc_ast.proofs.Utf8Meanings.{good-one_more_str, good-convert_call, good-cast_char_call}
use Rattle.mc_ast.proofs.Utf8Meanings.{good-cast_binary_call, good-count_all_call}
use Rattle.mc_ast.proofs.Utf8Meanings.{good-count_distinct_call, good-trim_side_call}
use Rattle.mc_ast.proofs.Utf8Meanings.{good-trim_call, good-substring_call, good-weight_string_call}
use Rattle.mc_ast.proofs.Utf8Meanings.{good-empty_call, good-single_call, good-many_call}
use Rattle.mc_ast.proofs.Utf8Meanings.{good-no_set, good-with_set, good-both_sides}
use Rattle.mc_ast.proofs.Utf8Meanings.{good-leading_side, good-trailing_side, good-no_or}
use Rattle.mc_ast.proofs.Utf8Meanings.{good-given_or, good-no_length, good-with_length, good-no_cut}
use Rattle.mc_ast.proofs.Utf8Meanings.{good-char_cut, good-binary_cut}

good_of : (a : Alternative) → IsGoodly a
good_of star_statement = good-star_statement
good_of items_statement = good-items_statement
good_of no_explain = good-no_explain
good_of explained = good-explained
good_of no_distinct = good-no_distinct
good_of distinct_rows = good-distinct_rows
good_of no_more_items = good-no_more_items
good_of one_more_item = good-one_more_item
good_of no_source = good-no_source
good_of given_source = good-given_source
good_of from_table = good-from_table
good_of no_where = good-no_where
good_of where_holds = good-where_holds
good_of no_group = good-no_group
good_of group_by = good-group_by
good_of no_more_ors = good-no_more_ors
good_of one_more_or = good-one_more_or
good_of no_order = good-no_order
good_of order_by = good-order_by
good_of no_more_orders = good-no_more_orders
good_of one_more_order = good-one_more_order
good_of no_limit = good-no_limit
good_of limit_rows = good-limit_rows
good_of no_offset = good-no_offset
good_of offset_before = good-offset_before
good_of offset_behind = good-offset_behind
good_of one_item = good-one_item
good_of no_alias = good-no_alias
good_of as_alias = good-as_alias
good_of bare_alias = good-bare_alias
good_of one_order = good-one_order
good_of no_direction = good-no_direction
good_of ascending = good-ascending
good_of descending = good-descending
good_of xors = good-xors
good_of no_more_xors = good-no_more_xors
good_of one_more_xor = good-one_more_xor
good_of ands = good-ands
good_of no_more_ands = good-no_more_ands
good_of one_more_and = good-one_more_and
good_of nots = good-nots
good_of no_more_nots = good-no_more_nots
good_of one_more_not = good-one_more_not
good_of negated = good-negated
good_of just_pred = good-just_pred
good_of just_sum = good-just_sum
good_of compared = good-compared
good_of tested_null = good-tested_null
good_of matched = good-matched
good_of listed = good-listed
good_of ranged = good-ranged
good_of no_not = good-no_not
good_of with_not = good-with_not
good_of no_escape = good-no_escape
good_of with_escape = good-with_escape
good_of equal = good-equal
good_of null_equal = good-null_equal
good_of unequal = good-unequal
good_of unequal_bang = good-unequal_bang
good_of less = good-less
good_of less_equal = good-less_equal
good_of greater = good-greater
good_of greater_equal = good-greater_equal
good_of prods = good-prods
good_of no_more_prods = good-no_more_prods
good_of plus_prod = good-plus_prod
good_of minus_prod = good-minus_prod
good_of negs = good-negs
good_of no_more_negs = good-no_more_negs
good_of times_neg = good-times_neg
good_of div_neg = good-div_neg
good_of percent_neg = good-percent_neg
good_of mod_neg = good-mod_neg
good_of minus = good-minus
good_of just_coll = good-just_coll
good_of collated = good-collated
good_of no_more_collates = good-no_more_collates
good_of one_more_collate = good-one_more_collate
good_of by_name = good-by_name
good_of by_binary = good-by_binary
good_of number = good-number
good_of true_word = good-true_word
good_of false_word = good-false_word
good_of null_word = good-null_word
good_of just_string = good-just_string
good_of column = good-column
good_of table_column = good-table_column
good_of just_call = good-just_call
good_of in_parens = good-in_parens
good_of plain_string = good-plain_string
good_of national_string = good-national_string
good_of hex_string = good-hex_string
good_of intro_string = good-intro_string
good_of intro_hex = good-intro_hex
good_of no_more_strs = good-no_more_strs
good_of one_more_str = good-one_more_str
good_of convert_call = good-convert_call
good_of cast_char_call = good-cast_char_call
good_of cast_binary_call = good-cast_binary_call
good_of count_all_call = good-count_all_call
good_of count_distinct_call = good-count_distinct_call
good_of trim_side_call = good-trim_side_call
good_of trim_call = good-trim_call
good_of substring_call = good-substring_call
good_of weight_string_call = good-weight_string_call
good_of empty_call = good-empty_call
good_of single_call = good-single_call
good_of many_call = good-many_call
good_of no_set = good-no_set
good_of with_set = good-with_set
good_of both_sides = good-both_sides
good_of leading_side = good-leading_side
good_of trailing_side = good-trailing_side
good_of no_or = good-no_or
good_of given_or = good-given_or
good_of no_length = good-no_length
good_of with_length = good-with_length
good_of no_cut = good-no_cut
good_of char_cut = good-char_cut
good_of binary_cut = good-binary_cut

front_texts : (u w : List Token) → HaveUtf8Texts (u ++ w) → HaveUtf8Texts u
front_texts [] w h = tt
front_texts (t ∷ u) w h = (h.0, front_texts u w h.1)

rest_texts : (u w : List Token) → HaveUtf8Texts (u ++ w) → HaveUtf8Texts w
rest_texts [] w h = h
rest_texts (t ∷ u) w h = rest_texts u w h.1

-- Each forest means what is good.
good_forest : (ss : List (Symbol Class Rule)) (f : Forest Alternative Token) → Fits statements ss f
    → HaveUtf8Texts (tokens_of f) → AllGood ss (meanings f)
good_forest [] bare p h = tt
good_forest [] (leaf t f) p h = absurd p
good_forest [] (node a x f) p h = absurd p
good_forest (one k ∷ ss) (leaf t f) p h = ((p.0, h.0), good_forest ss f p.1 h.1)
good_forest (one k ∷ ss) bare p h = absurd p
good_forest (one k ∷ ss) (node a x f) p h = absurd p
good_forest (rule r ∷ ss) (node a x f) p h = (
  good_of a (span_of (tokens_of x)) (meanings x) (good_forest (symbols a) x p.1 (front_texts (tokens_of x) (tokens_of f) h)),
  good_forest ss f p.2 (rest_texts (tokens_of x) (tokens_of f) h),
)
good_forest (rule r ∷ ss) bare p h = absurd p
good_forest (rule r ∷ ss) (leaf t f) p h = absurd p

good_tree : (vs : List Value) (tree : Statement) → vs ≡ a_statement tree ∷ [] → AllGood (rule statement ∷ []) vs → HasUtf8Strings tree
good_tree vs tree e h = (subst (λ (z : List Value). AllGood (rule statement ∷ []) z) e h).0

pub tree_texts : (tokens : List Token) (tree : Statement) → IsTreeOf tokens tree → HaveUtf8Texts tokens → HasUtf8Strings tree
tree_texts tokens tree p h =
    good_tree (meanings p.reading) tree p.means
    (good_forest (rule statement ∷ []) p.reading p.reads.fits
    (subst (λ (z : List Token). HaveUtf8Texts z) (sym p.reads.same_tokens) h))
