-- What each alternative means of parts that are UTF-8 is UTF-8.
use Rattle.std.proofs.Common.{List, [], ◌∷◌, ◌++◌, Option, Some, None, drop, IsTrue}
use Rattle.std.specs.Prelude.{IfSome}
use Rattle.std.specs.List.{AllByRecursion}
use Rattle.std.specs.Str.{IsUtf8}
use Rattle.std.proofs.lemmas.Str.{IsUtf8-append, IsUtf8-nil}
use Rattle.mc_base.specs.declared.span.Span.{Span}
use Rattle.mc_grammar.specs.Grammar.{Symbol, one, rule}
use Rattle.mc_token.specs.TokenLaws.{HasUtf8Text}
use Rattle.mc_sql.specs.Classes.{Class, is_lexeme_of}
use Rattle.mc_sql.specs.Rules.{Rule, Alternative, star_statement, items_statement, no_explain}
use Rattle.mc_sql.specs.Rules.{explained, no_distinct, distinct_rows, no_more_items, one_more_item}
use Rattle.mc_sql.specs.Rules.{no_source, given_source, from_table, no_where, where_holds, no_group}
use Rattle.mc_sql.specs.Rules.{group_by, no_more_ors, one_more_or, no_order, order_by}
use Rattle.mc_sql.specs.Rules.{no_more_orders, one_more_order, no_limit, limit_rows, no_offset}
use Rattle.mc_sql.specs.Rules.{offset_before, offset_behind, one_item, no_alias, as_alias}
use Rattle.mc_sql.specs.Rules.{bare_alias, one_order, no_direction, ascending, descending, xors}
use Rattle.mc_sql.specs.Rules.{no_more_xors, one_more_xor, ands, no_more_ands, one_more_and, nots}
use Rattle.mc_sql.specs.Rules.{no_more_nots, one_more_not, negated, just_pred, just_sum, compared}
use Rattle.mc_sql.specs.Rules.{tested_null, matched, listed, ranged, no_not, with_not, no_escape}
use Rattle.mc_sql.specs.Rules.{with_escape, equal, null_equal, unequal, unequal_bang, less}
use Rattle.mc_sql.specs.Rules.{less_equal, greater, greater_equal, prods, no_more_prods, plus_prod}
use Rattle.mc_sql.specs.Rules.{minus_prod, negs, no_more_negs, times_neg, div_neg, percent_neg}
use Rattle.mc_sql.specs.Rules.{mod_neg, minus, just_coll, collated, no_more_collates}
use Rattle.mc_sql.specs.Rules.{one_more_collate, by_name, by_binary, number, true_word, false_word}
use Rattle.mc_sql.specs.Rules.{null_word, just_string, column, table_column, just_call, in_parens}
use Rattle.mc_sql.specs.Rules.{plain_string, national_string, hex_string, intro_string, intro_hex}
use Rattle.mc_sql.specs.Rules.{no_more_strs, one_more_str, convert_call, cast_char_call}
use Rattle.mc_sql.specs.Rules.{cast_binary_call, count_all_call, count_distinct_call}
use Rattle.mc_sql.specs.Rules.{trim_side_call, trim_call, substring_call, weight_string_call}
use Rattle.mc_sql.specs.Rules.{empty_call, single_call, many_call, no_set, with_set, both_sides}
use Rattle.mc_sql.specs.Rules.{leading_side, trailing_side, no_or, given_or, no_length, with_length}
use Rattle.mc_sql.specs.Rules.{no_cut, char_cut, binary_cut}
use Rattle.mc_sql.specs.Statements.{symbols}
use Rattle.mc_ast.specs.declared.operators.TrimSide.TheVariants.{Both}
use Rattle.mc_ast.specs.Meaning.{meaning}
use Rattle.mc_ast.specs.Texts.{HasUtf8, HasUtf8Strings}
use Rattle.mc_ast.specs.Values as V
use Rattle.mc_ast.specs.Values.{Value}
use Rattle.mc_ast.proofs.Utf8Nodes.{AreUtf8, AreUtf8Operations, all_exprs, and_utf8, arith_utf8}
use Rattle.mc_ast.proofs.Utf8Nodes.{between_utf8, call_utf8, cast_binary_utf8, cast_char_utf8}
use Rattle.mc_ast.proofs.Utf8Nodes.{collate_utf8, compare_utf8, convert_utf8, count_all_utf8}
use Rattle.mc_ast.proofs.Utf8Nodes.{count_distinct_utf8, false_utf8, grouped_utf8, grouped_xor_utf8}
use Rattle.mc_ast.proofs.Utf8Nodes.{hex_utf8, in_utf8, int_utf8, intro_hex_utf8, intro_str_utf8}
use Rattle.mc_ast.proofs.Utf8Nodes.{like_utf8, name_utf8, national_text, national_utf8, neg_utf8}
use Rattle.mc_ast.proofs.Utf8Nodes.{not_utf8, null_utf8, null_word_utf8, or_utf8, qualified_utf8}
use Rattle.mc_ast.proofs.Utf8Nodes.{str_text, str_utf8, substring_rest_utf8, substring_utf8}
use Rattle.mc_ast.proofs.Utf8Nodes.{trim_alone_utf8, trim_utf8, true_utf8, under_utf8}
use Rattle.mc_ast.proofs.Utf8Nodes.{weight_string_utf8, xor_utf8}

-- The strings of the meaning are UTF-8.
abbrev pub IsGood : Value → Type 0
IsGood (V.operand x) = HasUtf8 x.expr
IsGood (V.operands xs) = AreUtf8 xs
IsGood (V.maybe_operand x) = IfSome x (λ y. HasUtf8 y.expr)
IsGood (V.operations os) = AreUtf8Operations os
IsGood (V.text bytes) = IsUtf8 bytes
IsGood (V.item i) = HasUtf8 i.expr
IsGood (V.items is) = AllByRecursion (λ i. HasUtf8 i.expr) is
IsGood (V.order_item o) = HasUtf8 o.expr
IsGood (V.order_items os) = AllByRecursion (λ o. HasUtf8 o.expr) os
IsGood (V.source s) = IfSome s (λ t. IfSome t.filter HasUtf8 × AllByRecursion HasUtf8 t.groups)
IsGood (V.a_statement tree) = HasUtf8Strings tree
IsGood _ = Unit {0}

-- So is that of a symbol: a token is of its class.
abbrev pub IsGoodFor : Symbol Class Rule → Value → Type 0
IsGoodFor (one k) (V.a_token t) = IsTrue (is_lexeme_of k t.kind) × HasUtf8Text t.kind
IsGoodFor (one k) _ = ⊥
IsGoodFor (rule r) v = IsGood v

abbrev pub AllGood : List (Symbol Class Rule) → List Value → Type 0
AllGood [] [] = Unit {0}
AllGood (s ∷ ss) (v ∷ vs) = IsGoodFor s v × AllGood ss vs
AllGood _ _ = ⊥

-- What the alternative means is good, where its parts are.
abbrev pub IsGoodly : Alternative → Type 0
IsGoodly a = (span : Span) (vs : List Value) → AllGood (symbols a) vs → IsGood (meaning a span vs)

pub good-star_statement : IsGoodly star_statement
good-star_statement span (V.flag e ∷ _ ∷ V.flag d ∷ _ ∷ V.items is ∷ V.source None ∷ V.order_items os ∷ V.limit l ∷ []) h = record { items = h.1.1.1.1.0; filter = tt; groups = tt; orders = h.1.1.1.1.1.1.0 }
good-star_statement span (V.flag e ∷ _ ∷ V.flag d ∷ _ ∷ V.items is ∷ V.source (Some s) ∷ V.order_items os ∷ V.limit l ∷ []) h = record { items = h.1.1.1.1.0; filter = h.1.1.1.1.1.0.0; groups = h.1.1.1.1.1.0.1; orders = h.1.1.1.1.1.1.0 }
good-star_statement span _ h = tt

pub good-items_statement : IsGoodly items_statement
good-items_statement span (V.flag e ∷ _ ∷ V.flag d ∷ V.item i ∷ V.items is ∷ V.source None ∷ V.order_items os ∷ V.limit l ∷ []) h = record { items = (h.1.1.1.0, h.1.1.1.1.0); filter = tt; groups = tt; orders = h.1.1.1.1.1.1.0 }
good-items_statement span (V.flag e ∷ _ ∷ V.flag d ∷ V.item i ∷ V.items is ∷ V.source (Some s) ∷ V.order_items os ∷ V.limit l ∷ []) h = record { items = (h.1.1.1.0, h.1.1.1.1.0); filter = h.1.1.1.1.1.0.0; groups = h.1.1.1.1.1.0.1; orders = h.1.1.1.1.1.1.0 }
good-items_statement span _ h = tt

pub good-no_explain : IsGoodly no_explain
good-no_explain span [] h = tt
good-no_explain span _ h = tt

pub good-explained : IsGoodly explained
good-explained span (_ ∷ []) h = tt
good-explained span _ h = tt

pub good-no_distinct : IsGoodly no_distinct
good-no_distinct span [] h = tt
good-no_distinct span _ h = tt

pub good-distinct_rows : IsGoodly distinct_rows
good-distinct_rows span (_ ∷ []) h = tt
good-distinct_rows span _ h = tt

pub good-no_more_items : IsGoodly no_more_items
good-no_more_items span [] h = tt
good-no_more_items span _ h = tt

pub good-one_more_item : IsGoodly one_more_item
good-one_more_item span (_ ∷ V.item i ∷ V.items is ∷ []) h = (h.1.0, h.1.1.0)
good-one_more_item span _ h = tt

pub good-no_source : IsGoodly no_source
good-no_source span [] h = tt
good-no_source span _ h = tt

pub good-given_source : IsGoodly given_source
good-given_source span (V.source s ∷ []) h = h.0
good-given_source span _ h = tt

pub good-from_table : IsGoodly from_table
good-from_table span (_ ∷ V.a_token t ∷ V.maybe_operand None ∷ V.operands gs ∷ []) h = (tt, all_exprs gs h.1.1.1.0)
good-from_table span (_ ∷ V.a_token t ∷ V.maybe_operand (Some x) ∷ V.operands gs ∷ []) h = (h.1.1.0, all_exprs gs h.1.1.1.0)
good-from_table span _ h = tt

pub good-no_where : IsGoodly no_where
good-no_where span [] h = tt
good-no_where span _ h = tt

pub good-where_holds : IsGoodly where_holds
good-where_holds span (_ ∷ V.operand x ∷ []) h = h.1.0
good-where_holds span _ h = tt

pub good-no_group : IsGoodly no_group
good-no_group span [] h = tt
good-no_group span _ h = tt

pub good-group_by : IsGoodly group_by
good-group_by span (_ ∷ _ ∷ V.operand x ∷ V.operands xs ∷ []) h = (h.1.1.0, h.1.1.1.0)
good-group_by span _ h = tt

pub good-no_more_ors : IsGoodly no_more_ors
good-no_more_ors span [] h = tt
good-no_more_ors span _ h = tt

pub good-one_more_or : IsGoodly one_more_or
good-one_more_or span (_ ∷ V.operand x ∷ V.operands xs ∷ []) h = (h.1.0, h.1.1.0)
good-one_more_or span _ h = tt

pub good-no_order : IsGoodly no_order
good-no_order span [] h = tt
good-no_order span _ h = tt

pub good-order_by : IsGoodly order_by
good-order_by span (_ ∷ _ ∷ V.order_item o ∷ V.order_items os ∷ []) h = (h.1.1.0, h.1.1.1.0)
good-order_by span _ h = tt

pub good-no_more_orders : IsGoodly no_more_orders
good-no_more_orders span [] h = tt
good-no_more_orders span _ h = tt

pub good-one_more_order : IsGoodly one_more_order
good-one_more_order span (_ ∷ V.order_item o ∷ V.order_items os ∷ []) h = (h.1.0, h.1.1.0)
good-one_more_order span _ h = tt

pub good-no_limit : IsGoodly no_limit
good-no_limit span [] h = tt
good-no_limit span _ h = tt

pub good-limit_rows : IsGoodly limit_rows
good-limit_rows span (_ ∷ V.a_token t ∷ V.no_number ∷ []) h = tt
good-limit_rows span (_ ∷ V.a_token t ∷ V.the_count n ∷ []) h = tt
good-limit_rows span (_ ∷ V.a_token t ∷ V.the_offset n ∷ []) h = tt
good-limit_rows span _ h = tt

pub good-no_offset : IsGoodly no_offset
good-no_offset span [] h = tt
good-no_offset span _ h = tt

pub good-offset_before : IsGoodly offset_before
good-offset_before span (_ ∷ V.a_token t ∷ []) h = tt
good-offset_before span _ h = tt

pub good-offset_behind : IsGoodly offset_behind
good-offset_behind span (_ ∷ V.a_token t ∷ []) h = tt
good-offset_behind span _ h = tt

pub good-one_item : IsGoodly one_item
good-one_item span (V.operand x ∷ V.maybe_text a ∷ []) h = h.0
good-one_item span _ h = tt

pub good-no_alias : IsGoodly no_alias
good-no_alias span [] h = tt
good-no_alias span _ h = tt

pub good-as_alias : IsGoodly as_alias
good-as_alias span (_ ∷ V.a_token t ∷ []) h = tt
good-as_alias span _ h = tt

pub good-bare_alias : IsGoodly bare_alias
good-bare_alias span (V.a_token t ∷ []) h = tt
good-bare_alias span _ h = tt

pub good-one_order : IsGoodly one_order
good-one_order span (V.operand x ∷ V.flag d ∷ []) h = h.0
good-one_order span _ h = tt

pub good-no_direction : IsGoodly no_direction
good-no_direction span [] h = tt
good-no_direction span _ h = tt

pub good-ascending : IsGoodly ascending
good-ascending span (_ ∷ []) h = tt
good-ascending span _ h = tt

pub good-descending : IsGoodly descending
good-descending span (_ ∷ []) h = tt
good-descending span _ h = tt

pub good-xors : IsGoodly xors
good-xors span (V.operand x ∷ V.operands [] ∷ []) h = h.0
good-xors span (V.operand x ∷ V.operands (y ∷ ys) ∷ []) h = or_utf8 (x ∷ y ∷ ys) (h.0, h.1.0)
good-xors span _ h = tt

pub good-no_more_xors : IsGoodly no_more_xors
good-no_more_xors span [] h = tt
good-no_more_xors span _ h = tt

pub good-one_more_xor : IsGoodly one_more_xor
good-one_more_xor span (_ ∷ V.operand x ∷ V.operands xs ∷ []) h = (h.1.0, h.1.1.0)
good-one_more_xor span _ h = tt

pub good-ands : IsGoodly ands
good-ands span (V.operand x ∷ V.operands xs ∷ []) h = grouped_xor_utf8 x xs h.0 h.1.0
good-ands span _ h = tt

pub good-no_more_ands : IsGoodly no_more_ands
good-no_more_ands span [] h = tt
good-no_more_ands span _ h = tt

pub good-one_more_and : IsGoodly one_more_and
good-one_more_and span (_ ∷ V.operand x ∷ V.operands xs ∷ []) h = (h.1.0, h.1.1.0)
good-one_more_and span _ h = tt

pub good-nots : IsGoodly nots
good-nots span (V.operand x ∷ V.operands [] ∷ []) h = h.0
good-nots span (V.operand x ∷ V.operands (y ∷ ys) ∷ []) h = and_utf8 (x ∷ y ∷ ys) (h.0, h.1.0)
good-nots span _ h = tt

pub good-no_more_nots : IsGoodly no_more_nots
good-no_more_nots span [] h = tt
good-no_more_nots span _ h = tt

pub good-one_more_not : IsGoodly one_more_not
good-one_more_not span (_ ∷ V.operand x ∷ V.operands xs ∷ []) h = (h.1.0, h.1.1.0)
good-one_more_not span _ h = tt

pub good-negated : IsGoodly negated
good-negated span (_ ∷ V.operand x ∷ []) h = not_utf8 x.expr h.1.0
good-negated span _ h = tt

pub good-just_pred : IsGoodly just_pred
good-just_pred span (V.operand x ∷ []) h = h.0
good-just_pred span _ h = tt

pub good-just_sum : IsGoodly just_sum
good-just_sum span (V.operand x ∷ []) h = h.0
good-just_sum span _ h = tt

pub good-compared : IsGoodly compared
good-compared span (V.operand x ∷ V.comparison op ∷ V.operand y ∷ []) h = compare_utf8 op x.expr y.expr h.0 h.1.1.0
good-compared span _ h = tt

pub good-tested_null : IsGoodly tested_null
good-tested_null span (V.operand x ∷ _ ∷ V.flag n ∷ _ ∷ []) h = null_utf8 x.expr n h.0
good-tested_null span _ h = tt

pub good-matched : IsGoodly matched
good-matched span (V.operand x ∷ V.flag n ∷ _ ∷ V.operand y ∷ V.maybe_text e ∷ []) h = like_utf8 x.expr y.expr e n h.0 h.1.1.1.0
good-matched span _ h = tt

pub good-listed : IsGoodly listed
good-listed span (V.operand x ∷ V.flag n ∷ _ ∷ _ ∷ V.operand y ∷ V.operands ys ∷ _ ∷ []) h = in_utf8 x.expr (y ∷ ys) n h.0 (h.1.1.1.1.0, h.1.1.1.1.1.0)
good-listed span _ h = tt

pub good-ranged : IsGoodly ranged
good-ranged span (V.operand x ∷ V.flag n ∷ _ ∷ V.operand y ∷ _ ∷ V.operand z ∷ []) h = between_utf8 x.expr y.expr z.expr n h.0 h.1.1.1.0 h.1.1.1.1.1.0
good-ranged span _ h = tt

pub good-no_not : IsGoodly no_not
good-no_not span [] h = tt
good-no_not span _ h = tt

pub good-with_not : IsGoodly with_not
good-with_not span (_ ∷ []) h = tt
good-with_not span _ h = tt

pub good-no_escape : IsGoodly no_escape
good-no_escape span [] h = tt
good-no_escape span _ h = tt

pub good-with_escape : IsGoodly with_escape
good-with_escape span (_ ∷ V.a_token t ∷ []) h = tt
good-with_escape span _ h = tt

pub good-equal : IsGoodly equal
good-equal span (_ ∷ []) h = tt
good-equal span _ h = tt

pub good-null_equal : IsGoodly null_equal
good-null_equal span (_ ∷ []) h = tt
good-null_equal span _ h = tt

pub good-unequal : IsGoodly unequal
good-unequal span (_ ∷ []) h = tt
good-unequal span _ h = tt

pub good-unequal_bang : IsGoodly unequal_bang
good-unequal_bang span (_ ∷ []) h = tt
good-unequal_bang span _ h = tt

pub good-less : IsGoodly less
good-less span (_ ∷ []) h = tt
good-less span _ h = tt

pub good-less_equal : IsGoodly less_equal
good-less_equal span (_ ∷ []) h = tt
good-less_equal span _ h = tt

pub good-greater : IsGoodly greater
good-greater span (_ ∷ []) h = tt
good-greater span _ h = tt

pub good-greater_equal : IsGoodly greater_equal
good-greater_equal span (_ ∷ []) h = tt
good-greater_equal span _ h = tt

pub good-prods : IsGoodly prods
good-prods span (V.operand x ∷ V.operations os ∷ []) h = grouped_utf8 x os h.0 h.1.0
good-prods span _ h = tt

pub good-no_more_prods : IsGoodly no_more_prods
good-no_more_prods span [] h = tt
good-no_more_prods span _ h = tt

pub good-plus_prod : IsGoodly plus_prod
good-plus_prod span (_ ∷ V.operand x ∷ V.operations os ∷ []) h = (h.1.0, h.1.1.0)
good-plus_prod span _ h = tt

pub good-minus_prod : IsGoodly minus_prod
good-minus_prod span (_ ∷ V.operand x ∷ V.operations os ∷ []) h = (h.1.0, h.1.1.0)
good-minus_prod span _ h = tt

pub good-negs : IsGoodly negs
good-negs span (V.operand x ∷ V.operations os ∷ []) h = grouped_utf8 x os h.0 h.1.0
good-negs span _ h = tt

pub good-no_more_negs : IsGoodly no_more_negs
good-no_more_negs span [] h = tt
good-no_more_negs span _ h = tt

pub good-times_neg : IsGoodly times_neg
good-times_neg span (_ ∷ V.operand x ∷ V.operations os ∷ []) h = (h.1.0, h.1.1.0)
good-times_neg span _ h = tt

pub good-div_neg : IsGoodly div_neg
good-div_neg span (_ ∷ V.operand x ∷ V.operations os ∷ []) h = (h.1.0, h.1.1.0)
good-div_neg span _ h = tt

pub good-percent_neg : IsGoodly percent_neg
good-percent_neg span (_ ∷ V.operand x ∷ V.operations os ∷ []) h = (h.1.0, h.1.1.0)
good-percent_neg span _ h = tt

pub good-mod_neg : IsGoodly mod_neg
good-mod_neg span (_ ∷ V.operand x ∷ V.operations os ∷ []) h = (h.1.0, h.1.1.0)
good-mod_neg span _ h = tt

pub good-minus : IsGoodly minus
good-minus span (_ ∷ V.operand x ∷ []) h = neg_utf8 x.expr h.1.0
good-minus span _ h = tt

pub good-just_coll : IsGoodly just_coll
good-just_coll span (V.operand x ∷ []) h = h.0
good-just_coll span _ h = tt

pub good-collated : IsGoodly collated
good-collated span (V.operand x ∷ V.collations cs ∷ []) h = under_utf8 x cs h.0
good-collated span _ h = tt

pub good-no_more_collates : IsGoodly no_more_collates
good-no_more_collates span [] h = tt
good-no_more_collates span _ h = tt

pub good-one_more_collate : IsGoodly one_more_collate
good-one_more_collate span (_ ∷ V.collation c ∷ V.collations cs ∷ []) h = tt
good-one_more_collate span _ h = tt

pub good-by_name : IsGoodly by_name
good-by_name span (V.a_token t ∷ []) h = tt
good-by_name span _ h = tt

pub good-by_binary : IsGoodly by_binary
good-by_binary span (_ ∷ []) h = tt
good-by_binary span _ h = tt

pub good-number : IsGoodly number
good-number span (V.a_token t ∷ []) h = int_utf8 (V.lexeme_number t.kind)
good-number span _ h = tt

pub good-true_word : IsGoodly true_word
good-true_word span (_ ∷ []) h = true_utf8
good-true_word span _ h = tt

pub good-false_word : IsGoodly false_word
good-false_word span (_ ∷ []) h = false_utf8
good-false_word span _ h = tt

pub good-null_word : IsGoodly null_word
good-null_word span (_ ∷ []) h = null_word_utf8
good-null_word span _ h = tt

pub good-just_string : IsGoodly just_string
good-just_string span (V.operand x ∷ []) h = h.0
good-just_string span _ h = tt

pub good-column : IsGoodly column
good-column span (V.a_token t ∷ []) h = name_utf8 (V.lexeme_text t.kind)
good-column span _ h = tt

pub good-table_column : IsGoodly table_column
good-table_column span (V.a_token t ∷ _ ∷ V.a_token u ∷ []) h = qualified_utf8 (V.lexeme_text t.kind) (V.lexeme_text u.kind)
good-table_column span _ h = tt

pub good-just_call : IsGoodly just_call
good-just_call span (V.operand x ∷ []) h = h.0
good-just_call span _ h = tt

pub good-in_parens : IsGoodly in_parens
good-in_parens span (_ ∷ V.operand x ∷ _ ∷ []) h = h.1.0
good-in_parens span _ h = tt

pub good-plain_string : IsGoodly plain_string
good-plain_string span (V.a_token t ∷ V.text more ∷ []) h = str_utf8 (V.lexeme_text t.kind ++ more) (IsUtf8-append (V.lexeme_text t.kind) more (str_text t.kind h.0.0 h.0.1) h.1.0)
good-plain_string span _ h = tt

pub good-national_string : IsGoodly national_string
good-national_string span (V.a_token t ∷ V.text more ∷ []) h = national_utf8 (V.lexeme_text t.kind ++ more) (IsUtf8-append (V.lexeme_text t.kind) more (national_text t.kind h.0.0 h.0.1) h.1.0)
good-national_string span _ h = tt

pub good-hex_string : IsGoodly hex_string
good-hex_string span (V.a_token t ∷ []) h = hex_utf8 (V.lexeme_text t.kind)
good-hex_string span _ h = tt

pub good-intro_string : IsGoodly intro_string
good-intro_string span (V.a_token i ∷ V.a_token t ∷ V.text more ∷ []) h = intro_str_utf8 (drop 1 (V.lexeme_text i.kind)) (V.lexeme_text t.kind ++ more)
good-intro_string span _ h = tt

pub good-intro_hex : IsGoodly intro_hex
good-intro_hex span (V.a_token i ∷ V.a_token t ∷ []) h = intro_hex_utf8 (drop 1 (V.lexeme_text i.kind)) (V.lexeme_text t.kind)
good-intro_hex span _ h = tt

pub good-no_more_strs : IsGoodly no_more_strs
good-no_more_strs span [] h = IsUtf8-nil
good-no_more_strs span _ h = tt

pub good-one_more_str : IsGoodly one_more_str
good-one_more_str span (V.a_token t ∷ V.text more ∷ []) h = IsUtf8-append (V.lexeme_text t.kind) more (str_text t.kind h.0.0 h.0.1) h.1.0
good-one_more_str span _ h = tt

pub good-convert_call : IsGoodly convert_call
good-convert_call span (_ ∷ _ ∷ V.operand x ∷ _ ∷ V.collation c ∷ _ ∷ []) h = convert_utf8 x.expr c.name h.1.1.0
good-convert_call span _ h = tt

pub good-cast_char_call : IsGoodly cast_char_call
good-cast_char_call span (_ ∷ _ ∷ V.operand x ∷ _ ∷ _ ∷ V.maybe_text s ∷ _ ∷ []) h = cast_char_utf8 x.expr s h.1.1.0
good-cast_char_call span _ h = tt

pub good-cast_binary_call : IsGoodly cast_binary_call
good-cast_binary_call span (_ ∷ _ ∷ V.operand x ∷ _ ∷ _ ∷ _ ∷ []) h = cast_binary_utf8 x.expr h.1.1.0
good-cast_binary_call span _ h = tt

pub good-count_all_call : IsGoodly count_all_call
good-count_all_call span (_ ∷ _ ∷ _ ∷ _ ∷ []) h = count_all_utf8
good-count_all_call span _ h = tt

pub good-count_distinct_call : IsGoodly count_distinct_call
good-count_distinct_call span (_ ∷ _ ∷ _ ∷ V.operand x ∷ _ ∷ []) h = count_distinct_utf8 x.expr h.1.1.1.0
good-count_distinct_call span _ h = tt

pub good-trim_side_call : IsGoodly trim_side_call
good-trim_side_call span (_ ∷ _ ∷ V.trim_side s ∷ V.maybe_operand None ∷ _ ∷ V.operand x ∷ _ ∷ []) h = trim_alone_utf8 s x.expr h.1.1.1.1.1.0
good-trim_side_call span (_ ∷ _ ∷ V.trim_side s ∷ V.maybe_operand (Some r) ∷ _ ∷ V.operand x ∷ _ ∷ []) h = trim_utf8 s r.expr x.expr h.1.1.1.0 h.1.1.1.1.1.0
good-trim_side_call span _ h = tt

pub good-trim_call : IsGoodly trim_call
good-trim_call span (_ ∷ _ ∷ V.operand r ∷ _ ∷ V.operand x ∷ _ ∷ []) h = trim_utf8 Both r.expr x.expr h.1.1.0 h.1.1.1.1.0
good-trim_call span _ h = tt

pub good-substring_call : IsGoodly substring_call
good-substring_call span (_ ∷ _ ∷ V.operand x ∷ _ ∷ V.operand y ∷ V.maybe_operand None ∷ _ ∷ []) h = substring_rest_utf8 x.expr y.expr h.1.1.0 h.1.1.1.1.0
good-substring_call span (_ ∷ _ ∷ V.operand x ∷ _ ∷ V.operand y ∷ V.maybe_operand (Some z) ∷ _ ∷ []) h = substring_utf8 x.expr y.expr z.expr h.1.1.0 h.1.1.1.1.0 h.1.1.1.1.1.0
good-substring_call span _ h = tt

pub good-weight_string_call : IsGoodly weight_string_call
good-weight_string_call span (_ ∷ _ ∷ V.operand x ∷ V.cut c ∷ _ ∷ []) h = weight_string_utf8 x.expr c h.1.1.0
good-weight_string_call span _ h = tt

pub good-empty_call : IsGoodly empty_call
good-empty_call span (V.a_token t ∷ _ ∷ _ ∷ []) h = call_utf8 (V.lexeme_text t.kind) [] tt
good-empty_call span _ h = tt

pub good-single_call : IsGoodly single_call
good-single_call span (V.a_token t ∷ _ ∷ V.operand x ∷ _ ∷ []) h = call_utf8 (V.lexeme_text t.kind) (x ∷ []) (h.1.1.0, tt)
good-single_call span _ h = tt

pub good-many_call : IsGoodly many_call
good-many_call span (V.a_token t ∷ _ ∷ V.operand x ∷ _ ∷ V.operand y ∷ V.operands ys ∷ _ ∷ []) h = call_utf8 (V.lexeme_text t.kind) (x ∷ y ∷ ys) (h.1.1.0, (h.1.1.1.1.0, h.1.1.1.1.1.0))
good-many_call span _ h = tt

pub good-no_set : IsGoodly no_set
good-no_set span [] h = tt
good-no_set span _ h = tt

pub good-with_set : IsGoodly with_set
good-with_set span (_ ∷ _ ∷ V.collation c ∷ []) h = tt
good-with_set span _ h = tt

pub good-both_sides : IsGoodly both_sides
good-both_sides span (_ ∷ []) h = tt
good-both_sides span _ h = tt

pub good-leading_side : IsGoodly leading_side
good-leading_side span (_ ∷ []) h = tt
good-leading_side span _ h = tt

pub good-trailing_side : IsGoodly trailing_side
good-trailing_side span (_ ∷ []) h = tt
good-trailing_side span _ h = tt

pub good-no_or : IsGoodly no_or
good-no_or span [] h = tt
good-no_or span _ h = tt

pub good-given_or : IsGoodly given_or
good-given_or span (V.operand x ∷ []) h = h.0
good-given_or span _ h = tt

pub good-no_length : IsGoodly no_length
good-no_length span [] h = tt
good-no_length span _ h = tt

pub good-with_length : IsGoodly with_length
good-with_length span (_ ∷ V.operand x ∷ []) h = h.1.0
good-with_length span _ h = tt

pub good-no_cut : IsGoodly no_cut
good-no_cut span [] h = tt
good-no_cut span _ h = tt

pub good-char_cut : IsGoodly char_cut
good-char_cut span (_ ∷ _ ∷ _ ∷ V.a_token t ∷ _ ∷ []) h = tt
good-char_cut span _ h = tt

pub good-binary_cut : IsGoodly binary_cut
good-binary_cut span (_ ∷ _ ∷ _ ∷ V.a_token t ∷ _ ∷ []) h = tt
good-binary_cut span _ h = tt
