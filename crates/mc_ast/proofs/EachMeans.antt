-- Each reading means a statement.
use Rattle.std.proofs.Common.{◌≡◌, inl, inr, refl, ap, ◌∙◌, subst, Bool, true, false, ◌&&◌, List, [], ◌∷◌, IsTrue}
use Rattle.mc_base.specs.declared.span.Span.{Span}
use Rattle.mc_token.specs.declared.lexeme.Token.{Token}
use Rattle.mc_grammar.specs.Grammar.{Symbol, one, rule}
use Rattle.mc_grammar.specs.Reading.{Forest, bare, leaf, node, tokens_of, IsOneOf, Fits, IsReading}
use Rattle.mc_sql.specs.Classes.{Class, word, mark, name, called, called_otherwise, intro, int, str, national, hex}
use Rattle.mc_sql.specs.Rules.{Rule, Alternative, alternatives, statement, explain_option, distinct_option, more_items, source_option, source, where_option, group_option, more_ors, order_option, more_orders, limit_option, offset_option, item, alias_option, order, direction_option, or, more_xors, xor, more_ands, and, more_nots, not, pred, not_option, escape_option, cmp, sum, more_prods, prod, more_negs, neg, coll, more_collates, name_or_binary, prim, string, more_strs, call, set_option, side, or_option, length_option, cut_option, star_statement, items_statement, no_explain, explained, no_distinct, distinct_rows, no_more_items, one_more_item, no_source, given_source, from_table, no_where, where_holds, no_group, group_by, no_more_ors, one_more_or, no_order, order_by, no_more_orders, one_more_order, no_limit, limit_rows, no_offset, offset_before, offset_behind, one_item, no_alias, as_alias, bare_alias, one_order, no_direction, ascending, descending, xors, no_more_xors, one_more_xor, ands, no_more_ands, one_more_and, nots, no_more_nots, one_more_not, negated, just_pred, just_sum, compared, tested_null, matched, listed, ranged, no_not, with_not, no_escape, with_escape, equal, null_equal, unequal, unequal_bang, less, less_equal, greater, greater_equal, prods, no_more_prods, plus_prod, minus_prod, negs, no_more_negs, times_neg, div_neg, percent_neg, mod_neg, minus, just_coll, collated, no_more_collates, one_more_collate, by_name, by_binary, number, true_word, false_word, null_word, just_string, column, table_column, just_call, in_parens, plain_string, national_string, hex_string, intro_string, intro_hex, no_more_strs, one_more_str, convert_call, cast_char_call, cast_binary_call, count_all_call, count_distinct_call, trim_side_call, trim_call, substring_call, weight_string_call, empty_call, single_call, many_call, no_set, with_set, both_sides, leading_side, trailing_side, no_or, given_or, no_length, with_length, no_cut, char_cut, binary_cut}
use Rattle.mc_sql.specs.Statements.{statements, symbols}
use Rattle.mc_ast.specs.declared.statement.Statement.{Statement}
use Rattle.mc_ast.specs.Values as V
use Rattle.mc_ast.specs.Values.{Value}
use Rattle.mc_ast.specs.Spans.{span_of}
use Rattle.mc_ast.specs.Meaning.{meaning}
use Rattle.mc_ast.specs.Trees.{meanings, IsTreeOf}
use Rattle.mc_ast.proofs.MeaningKinds.{is_kind, suit, rule_of}
use Rattle.mc_ast.proofs.ClauseKinds.{kind-star_statement, kind-items_statement, kind-no_explain, kind-explained, kind-no_distinct, kind-distinct_rows, kind-no_more_items, kind-one_more_item, kind-no_source, kind-given_source, kind-from_table, kind-no_where, kind-where_holds, kind-no_group, kind-group_by, kind-no_more_ors, kind-one_more_or, kind-no_order, kind-order_by, kind-no_more_orders, kind-one_more_order, kind-no_limit, kind-limit_rows, kind-no_offset, kind-offset_before, kind-offset_behind, kind-one_item, kind-no_alias, kind-as_alias, kind-bare_alias, kind-one_order, kind-no_direction, kind-ascending, kind-descending}
use Rattle.mc_ast.proofs.OperatorKinds.{kind-xors, kind-no_more_xors, kind-one_more_xor, kind-ands, kind-no_more_ands, kind-one_more_and, kind-nots, kind-no_more_nots, kind-one_more_not, kind-negated, kind-just_pred, kind-just_sum, kind-compared, kind-tested_null, kind-matched, kind-listed, kind-ranged, kind-no_not, kind-with_not, kind-no_escape, kind-with_escape, kind-equal, kind-null_equal, kind-unequal, kind-unequal_bang, kind-less, kind-less_equal, kind-greater, kind-greater_equal, kind-prods, kind-no_more_prods, kind-plus_prod, kind-minus_prod, kind-negs, kind-no_more_negs, kind-times_neg, kind-div_neg, kind-percent_neg, kind-mod_neg, kind-minus, kind-just_coll, kind-collated, kind-no_more_collates, kind-one_more_collate, kind-by_name, kind-by_binary, kind-number, kind-true_word, kind-false_word, kind-null_word, kind-just_string, kind-column, kind-table_column, kind-just_call, kind-in_parens}
use Rattle.mc_ast.proofs.CallKinds.{kind-plain_string, kind-national_string, kind-hex_string, kind-intro_string, kind-intro_hex, kind-no_more_strs, kind-one_more_str, kind-convert_call, kind-cast_char_call, kind-cast_binary_call, kind-count_all_call, kind-count_distinct_call, kind-trim_side_call, kind-trim_call, kind-substring_call, kind-weight_string_call, kind-empty_call, kind-single_call, kind-many_call, kind-no_set, kind-with_set, kind-both_sides, kind-leading_side, kind-trailing_side, kind-no_or, kind-given_or, kind-no_length, kind-with_length, kind-no_cut, kind-char_cut, kind-binary_cut}

kind_of : (a : Alternative) (span : Span) (vs : List Value) → IsTrue (suit (symbols a) vs) → IsTrue (is_kind (rule_of a) (meaning a span vs))
kind_of star_statement span vs h = kind-star_statement span vs h
kind_of items_statement span vs h = kind-items_statement span vs h
kind_of no_explain span vs h = kind-no_explain span vs h
kind_of explained span vs h = kind-explained span vs h
kind_of no_distinct span vs h = kind-no_distinct span vs h
kind_of distinct_rows span vs h = kind-distinct_rows span vs h
kind_of no_more_items span vs h = kind-no_more_items span vs h
kind_of one_more_item span vs h = kind-one_more_item span vs h
kind_of no_source span vs h = kind-no_source span vs h
kind_of given_source span vs h = kind-given_source span vs h
kind_of from_table span vs h = kind-from_table span vs h
kind_of no_where span vs h = kind-no_where span vs h
kind_of where_holds span vs h = kind-where_holds span vs h
kind_of no_group span vs h = kind-no_group span vs h
kind_of group_by span vs h = kind-group_by span vs h
kind_of no_more_ors span vs h = kind-no_more_ors span vs h
kind_of one_more_or span vs h = kind-one_more_or span vs h
kind_of no_order span vs h = kind-no_order span vs h
kind_of order_by span vs h = kind-order_by span vs h
kind_of no_more_orders span vs h = kind-no_more_orders span vs h
kind_of one_more_order span vs h = kind-one_more_order span vs h
kind_of no_limit span vs h = kind-no_limit span vs h
kind_of limit_rows span vs h = kind-limit_rows span vs h
kind_of no_offset span vs h = kind-no_offset span vs h
kind_of offset_before span vs h = kind-offset_before span vs h
kind_of offset_behind span vs h = kind-offset_behind span vs h
kind_of one_item span vs h = kind-one_item span vs h
kind_of no_alias span vs h = kind-no_alias span vs h
kind_of as_alias span vs h = kind-as_alias span vs h
kind_of bare_alias span vs h = kind-bare_alias span vs h
kind_of one_order span vs h = kind-one_order span vs h
kind_of no_direction span vs h = kind-no_direction span vs h
kind_of ascending span vs h = kind-ascending span vs h
kind_of descending span vs h = kind-descending span vs h
kind_of xors span vs h = kind-xors span vs h
kind_of no_more_xors span vs h = kind-no_more_xors span vs h
kind_of one_more_xor span vs h = kind-one_more_xor span vs h
kind_of ands span vs h = kind-ands span vs h
kind_of no_more_ands span vs h = kind-no_more_ands span vs h
kind_of one_more_and span vs h = kind-one_more_and span vs h
kind_of nots span vs h = kind-nots span vs h
kind_of no_more_nots span vs h = kind-no_more_nots span vs h
kind_of one_more_not span vs h = kind-one_more_not span vs h
kind_of negated span vs h = kind-negated span vs h
kind_of just_pred span vs h = kind-just_pred span vs h
kind_of just_sum span vs h = kind-just_sum span vs h
kind_of compared span vs h = kind-compared span vs h
kind_of tested_null span vs h = kind-tested_null span vs h
kind_of matched span vs h = kind-matched span vs h
kind_of listed span vs h = kind-listed span vs h
kind_of ranged span vs h = kind-ranged span vs h
kind_of no_not span vs h = kind-no_not span vs h
kind_of with_not span vs h = kind-with_not span vs h
kind_of no_escape span vs h = kind-no_escape span vs h
kind_of with_escape span vs h = kind-with_escape span vs h
kind_of equal span vs h = kind-equal span vs h
kind_of null_equal span vs h = kind-null_equal span vs h
kind_of unequal span vs h = kind-unequal span vs h
kind_of unequal_bang span vs h = kind-unequal_bang span vs h
kind_of less span vs h = kind-less span vs h
kind_of less_equal span vs h = kind-less_equal span vs h
kind_of greater span vs h = kind-greater span vs h
kind_of greater_equal span vs h = kind-greater_equal span vs h
kind_of prods span vs h = kind-prods span vs h
kind_of no_more_prods span vs h = kind-no_more_prods span vs h
kind_of plus_prod span vs h = kind-plus_prod span vs h
kind_of minus_prod span vs h = kind-minus_prod span vs h
kind_of negs span vs h = kind-negs span vs h
kind_of no_more_negs span vs h = kind-no_more_negs span vs h
kind_of times_neg span vs h = kind-times_neg span vs h
kind_of div_neg span vs h = kind-div_neg span vs h
kind_of percent_neg span vs h = kind-percent_neg span vs h
kind_of mod_neg span vs h = kind-mod_neg span vs h
kind_of minus span vs h = kind-minus span vs h
kind_of just_coll span vs h = kind-just_coll span vs h
kind_of collated span vs h = kind-collated span vs h
kind_of no_more_collates span vs h = kind-no_more_collates span vs h
kind_of one_more_collate span vs h = kind-one_more_collate span vs h
kind_of by_name span vs h = kind-by_name span vs h
kind_of by_binary span vs h = kind-by_binary span vs h
kind_of number span vs h = kind-number span vs h
kind_of true_word span vs h = kind-true_word span vs h
kind_of false_word span vs h = kind-false_word span vs h
kind_of null_word span vs h = kind-null_word span vs h
kind_of just_string span vs h = kind-just_string span vs h
kind_of column span vs h = kind-column span vs h
kind_of table_column span vs h = kind-table_column span vs h
kind_of just_call span vs h = kind-just_call span vs h
kind_of in_parens span vs h = kind-in_parens span vs h
kind_of plain_string span vs h = kind-plain_string span vs h
kind_of national_string span vs h = kind-national_string span vs h
kind_of hex_string span vs h = kind-hex_string span vs h
kind_of intro_string span vs h = kind-intro_string span vs h
kind_of intro_hex span vs h = kind-intro_hex span vs h
kind_of no_more_strs span vs h = kind-no_more_strs span vs h
kind_of one_more_str span vs h = kind-one_more_str span vs h
kind_of convert_call span vs h = kind-convert_call span vs h
kind_of cast_char_call span vs h = kind-cast_char_call span vs h
kind_of cast_binary_call span vs h = kind-cast_binary_call span vs h
kind_of count_all_call span vs h = kind-count_all_call span vs h
kind_of count_distinct_call span vs h = kind-count_distinct_call span vs h
kind_of trim_side_call span vs h = kind-trim_side_call span vs h
kind_of trim_call span vs h = kind-trim_call span vs h
kind_of substring_call span vs h = kind-substring_call span vs h
kind_of weight_string_call span vs h = kind-weight_string_call span vs h
kind_of empty_call span vs h = kind-empty_call span vs h
kind_of single_call span vs h = kind-single_call span vs h
kind_of many_call span vs h = kind-many_call span vs h
kind_of no_set span vs h = kind-no_set span vs h
kind_of with_set span vs h = kind-with_set span vs h
kind_of both_sides span vs h = kind-both_sides span vs h
kind_of leading_side span vs h = kind-leading_side span vs h
kind_of trailing_side span vs h = kind-trailing_side span vs h
kind_of no_or span vs h = kind-no_or span vs h
kind_of given_or span vs h = kind-given_or span vs h
kind_of no_length span vs h = kind-no_length span vs h
kind_of with_length span vs h = kind-with_length span vs h
kind_of no_cut span vs h = kind-no_cut span vs h
kind_of char_cut span vs h = kind-char_cut span vs h
kind_of binary_cut span vs h = kind-binary_cut span vs h

-- The alternatives of the list are of the rule.
abbrev Owned : Rule → List Alternative → Type 0
Owned r [] = Unit
Owned r (a ∷ as') = (rule_of a ≡ r) × Owned r as'

owned : (r : Rule) → Owned r (alternatives r)
owned statement = (refl, (refl, tt))
owned explain_option = (refl, (refl, tt))
owned distinct_option = (refl, (refl, tt))
owned more_items = (refl, (refl, tt))
owned source_option = (refl, (refl, tt))
owned source = (refl, tt)
owned where_option = (refl, (refl, tt))
owned group_option = (refl, (refl, tt))
owned more_ors = (refl, (refl, tt))
owned order_option = (refl, (refl, tt))
owned more_orders = (refl, (refl, tt))
owned limit_option = (refl, (refl, tt))
owned offset_option = (refl, (refl, (refl, tt)))
owned item = (refl, tt)
owned alias_option = (refl, (refl, (refl, tt)))
owned order = (refl, tt)
owned direction_option = (refl, (refl, (refl, tt)))
owned or = (refl, tt)
owned more_xors = (refl, (refl, tt))
owned xor = (refl, tt)
owned more_ands = (refl, (refl, tt))
owned and = (refl, tt)
owned more_nots = (refl, (refl, tt))
owned not = (refl, (refl, tt))
owned pred = (refl, (refl, (refl, (refl, (refl, (refl, tt))))))
owned not_option = (refl, (refl, tt))
owned escape_option = (refl, (refl, tt))
owned cmp = (refl, (refl, (refl, (refl, (refl, (refl, (refl, (refl, tt))))))))
owned sum = (refl, tt)
owned more_prods = (refl, (refl, (refl, tt)))
owned prod = (refl, tt)
owned more_negs = (refl, (refl, (refl, (refl, (refl, tt)))))
owned neg = (refl, (refl, tt))
owned coll = (refl, tt)
owned more_collates = (refl, (refl, tt))
owned name_or_binary = (refl, (refl, tt))
owned prim = (refl, (refl, (refl, (refl, (refl, (refl, (refl, (refl, (refl, tt)))))))))
owned string = (refl, (refl, (refl, (refl, (refl, tt)))))
owned more_strs = (refl, (refl, tt))
owned call = (refl, (refl, (refl, (refl, (refl, (refl, (refl, (refl, (refl, (refl, (refl, (refl, tt))))))))))))
owned set_option = (refl, (refl, tt))
owned side = (refl, (refl, (refl, tt)))
owned or_option = (refl, (refl, tt))
owned length_option = (refl, (refl, tt))
owned cut_option = (refl, (refl, (refl, tt)))

-- An alternative of a rule is its own.
own_rule : (r : Rule) (a : Alternative) (as' : List Alternative) → Owned r as' → IsOneOf a as' → rule_of a ≡ r
own_rule r a [] o i = absurd i
own_rule r a (b ∷ bs) o (inl e) = ap (λ x. rule_of x) e ∙ o.0
own_rule r a (b ∷ bs) o (inr j) = own_rule r a bs o.1 j

both_so : (a b : Bool) → IsTrue a → IsTrue b → IsTrue (a && b)
both_so true b h k = k
both_so false b h k = cc

-- What a forest means suits its symbols.
suits : (ss : List (Symbol Class Rule)) (f : Forest Alternative Token) → Fits statements ss f → IsTrue (suit ss (meanings f))
suits [] bare p = refl
suits [] (leaf token f) p = absurd p
suits [] (node a x f) p = absurd p
suits (one k ∷ ss) bare p = absurd p
suits (one (word w) ∷ ss) (leaf token f) p = suits ss f p.1
suits (one (mark m) ∷ ss) (leaf token f) p = suits ss f p.1
suits (one name ∷ ss) (leaf token f) p = suits ss f p.1
suits (one called ∷ ss) (leaf token f) p = suits ss f p.1
suits (one called_otherwise ∷ ss) (leaf token f) p = suits ss f p.1
suits (one intro ∷ ss) (leaf token f) p = suits ss f p.1
suits (one int ∷ ss) (leaf token f) p = suits ss f p.1
suits (one str ∷ ss) (leaf token f) p = suits ss f p.1
suits (one national ∷ ss) (leaf token f) p = suits ss f p.1
suits (one hex ∷ ss) (leaf token f) p = suits ss f p.1
suits (one k ∷ ss) (node a x f) p = absurd p
suits (rule r ∷ ss) bare p = absurd p
suits (rule r ∷ ss) (leaf token f) p = absurd p
suits (rule r ∷ ss) (node a x f) p =
    let v : Value = meaning a (span_of (tokens_of x)) (meanings x) in
    let k : IsTrue (is_kind (rule_of a) (meaning a (span_of (tokens_of x)) (meanings x))) =
    kind_of a (span_of (tokens_of x)) (meanings x) (suits (symbols a) x p.1) in
    both_so (is_kind r (meaning a (span_of (tokens_of x)) (meanings x))) (suit ss (meanings f))
    (subst (λ (q : Rule). IsTrue (is_kind q (meaning a (span_of (tokens_of x)) (meanings x)))) (own_rule r a (alternatives r) (owned r) p.0) k)
    (suits ss f p.2)

-- Meanings that suit a statement are a statement.
statement_of : (vs : List Value) → IsTrue (suit (rule statement ∷ []) vs) → (tree : Statement) × (vs ≡ V.a_statement tree ∷ [])
statement_of (V.a_statement tree ∷ []) h = (tree, refl)
statement_of _ h = absurd (different h)
  where
    different : IsTrue false → ⊥
    different e = cc

pub has_tree : (tokens : List Token) (f : Forest Alternative Token) → IsReading statements statement tokens f → (tree : Statement) × IsTreeOf tokens tree
has_tree tokens f p =
    let found : (tree : Statement) × (meanings f ≡ V.a_statement tree ∷ []) = statement_of (meanings f) (suits (rule statement ∷ []) f p.fits) in
    (found.0, record { reading = f; reads = p; means = found.1 })
