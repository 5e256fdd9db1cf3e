-- What each alternative of operators means is of the kind of its rule.
use Rattle.std.proofs.Common.{refl, [], ◌∷◌}
use Rattle.mc_sql.specs.Rules.{xors, no_more_xors, one_more_xor, ands, no_more_ands, one_more_and, nots, no_more_nots, one_more_not, negated, just_pred, just_sum, compared, tested_null, matched, listed, ranged, no_not, with_not, no_escape, with_escape, equal, null_equal, unequal, unequal_bang, less, less_equal, greater, greater_equal, prods, no_more_prods, plus_prod, minus_prod, negs, no_more_negs, times_neg, div_neg, percent_neg, mod_neg, minus, just_coll, collated, no_more_collates, one_more_collate, by_name, by_binary, number, true_word, false_word, null_word, just_string, column, table_column, just_call, in_parens}
use Rattle.mc_ast.specs.Values as V
use Rattle.mc_ast.proofs.ClauseKinds.{IsKindly}

pub kind-xors : IsKindly xors
kind-xors span (V.operand x ∷ V.operands [] ∷ []) h = refl
kind-xors span (V.operand x ∷ V.operands (y ∷ ys) ∷ []) h = refl
kind-xors span _ h = cc

pub kind-no_more_xors : IsKindly no_more_xors
kind-no_more_xors span [] h = refl
kind-no_more_xors span _ h = cc

pub kind-one_more_xor : IsKindly one_more_xor
kind-one_more_xor span (_ ∷ V.operand x ∷ V.operands xs ∷ []) h = refl
kind-one_more_xor span _ h = cc

pub kind-ands : IsKindly ands
kind-ands span (V.operand x ∷ V.operands xs ∷ []) h = refl
kind-ands span _ h = cc

pub kind-no_more_ands : IsKindly no_more_ands
kind-no_more_ands span [] h = refl
kind-no_more_ands span _ h = cc

pub kind-one_more_and : IsKindly one_more_and
kind-one_more_and span (_ ∷ V.operand x ∷ V.operands xs ∷ []) h = refl
kind-one_more_and span _ h = cc

pub kind-nots : IsKindly nots
kind-nots span (V.operand x ∷ V.operands [] ∷ []) h = refl
kind-nots span (V.operand x ∷ V.operands (y ∷ ys) ∷ []) h = refl
kind-nots span _ h = cc

pub kind-no_more_nots : IsKindly no_more_nots
kind-no_more_nots span [] h = refl
kind-no_more_nots span _ h = cc

pub kind-one_more_not : IsKindly one_more_not
kind-one_more_not span (_ ∷ V.operand x ∷ V.operands xs ∷ []) h = refl
kind-one_more_not span _ h = cc

pub kind-negated : IsKindly negated
kind-negated span (_ ∷ V.operand x ∷ []) h = refl
kind-negated span _ h = cc

pub kind-just_pred : IsKindly just_pred
kind-just_pred span (V.operand x ∷ []) h = refl
kind-just_pred span _ h = cc

pub kind-just_sum : IsKindly just_sum
kind-just_sum span (V.operand x ∷ []) h = refl
kind-just_sum span _ h = cc

pub kind-compared : IsKindly compared
kind-compared span (V.operand x ∷ V.comparison op ∷ V.operand y ∷ []) h = refl
kind-compared span _ h = cc

pub kind-tested_null : IsKindly tested_null
kind-tested_null span (V.operand x ∷ _ ∷ V.flag n ∷ _ ∷ []) h = refl
kind-tested_null span _ h = cc

pub kind-matched : IsKindly matched
kind-matched span (V.operand x ∷ V.flag n ∷ _ ∷ V.operand y ∷ V.maybe_text e ∷ []) h = refl
kind-matched span _ h = cc

pub kind-listed : IsKindly listed
kind-listed span (V.operand x ∷ V.flag n ∷ _ ∷ _ ∷ V.operand y ∷ V.operands ys ∷ _ ∷ []) h = refl
kind-listed span _ h = cc

pub kind-ranged : IsKindly ranged
kind-ranged span (V.operand x ∷ V.flag n ∷ _ ∷ V.operand y ∷ _ ∷ V.operand z ∷ []) h = refl
kind-ranged span _ h = cc

pub kind-no_not : IsKindly no_not
kind-no_not span [] h = refl
kind-no_not span _ h = cc

pub kind-with_not : IsKindly with_not
kind-with_not span (_ ∷ []) h = refl
kind-with_not span _ h = cc

pub kind-no_escape : IsKindly no_escape
kind-no_escape span [] h = refl
kind-no_escape span _ h = cc

pub kind-with_escape : IsKindly with_escape
kind-with_escape span (_ ∷ V.a_token t ∷ []) h = refl
kind-with_escape span _ h = cc

pub kind-equal : IsKindly equal
kind-equal span (_ ∷ []) h = refl
kind-equal span _ h = cc

pub kind-null_equal : IsKindly null_equal
kind-null_equal span (_ ∷ []) h = refl
kind-null_equal span _ h = cc

pub kind-unequal : IsKindly unequal
kind-unequal span (_ ∷ []) h = refl
kind-unequal span _ h = cc

pub kind-unequal_bang : IsKindly unequal_bang
kind-unequal_bang span (_ ∷ []) h = refl
kind-unequal_bang span _ h = cc

pub kind-less : IsKindly less
kind-less span (_ ∷ []) h = refl
kind-less span _ h = cc

pub kind-less_equal : IsKindly less_equal
kind-less_equal span (_ ∷ []) h = refl
kind-less_equal span _ h = cc

pub kind-greater : IsKindly greater
kind-greater span (_ ∷ []) h = refl
kind-greater span _ h = cc

pub kind-greater_equal : IsKindly greater_equal
kind-greater_equal span (_ ∷ []) h = refl
kind-greater_equal span _ h = cc

pub kind-prods : IsKindly prods
kind-prods span (V.operand x ∷ V.operations os ∷ []) h = refl
kind-prods span _ h = cc

pub kind-no_more_prods : IsKindly no_more_prods
kind-no_more_prods span [] h = refl
kind-no_more_prods span _ h = cc

pub kind-plus_prod : IsKindly plus_prod
kind-plus_prod span (_ ∷ V.operand x ∷ V.operations os ∷ []) h = refl
kind-plus_prod span _ h = cc

pub kind-minus_prod : IsKindly minus_prod
kind-minus_prod span (_ ∷ V.operand x ∷ V.operations os ∷ []) h = refl
kind-minus_prod span _ h = cc

pub kind-negs : IsKindly negs
kind-negs span (V.operand x ∷ V.operations os ∷ []) h = refl
kind-negs span _ h = cc

pub kind-no_more_negs : IsKindly no_more_negs
kind-no_more_negs span [] h = refl
kind-no_more_negs span _ h = cc

pub kind-times_neg : IsKindly times_neg
kind-times_neg span (_ ∷ V.operand x ∷ V.operations os ∷ []) h = refl
kind-times_neg span _ h = cc

pub kind-div_neg : IsKindly div_neg
kind-div_neg span (_ ∷ V.operand x ∷ V.operations os ∷ []) h = refl
kind-div_neg span _ h = cc

pub kind-percent_neg : IsKindly percent_neg
kind-percent_neg span (_ ∷ V.operand x ∷ V.operations os ∷ []) h = refl
kind-percent_neg span _ h = cc

pub kind-mod_neg : IsKindly mod_neg
kind-mod_neg span (_ ∷ V.operand x ∷ V.operations os ∷ []) h = refl
kind-mod_neg span _ h = cc

pub kind-minus : IsKindly minus
kind-minus span (_ ∷ V.operand x ∷ []) h = refl
kind-minus span _ h = cc

pub kind-just_coll : IsKindly just_coll
kind-just_coll span (V.operand x ∷ []) h = refl
kind-just_coll span _ h = cc

pub kind-collated : IsKindly collated
kind-collated span (V.operand x ∷ V.collations cs ∷ []) h = refl
kind-collated span _ h = cc

pub kind-no_more_collates : IsKindly no_more_collates
kind-no_more_collates span [] h = refl
kind-no_more_collates span _ h = cc

pub kind-one_more_collate : IsKindly one_more_collate
kind-one_more_collate span (_ ∷ V.collation c ∷ V.collations cs ∷ []) h = refl
kind-one_more_collate span _ h = cc

pub kind-by_name : IsKindly by_name
kind-by_name span (V.a_token t ∷ []) h = refl
kind-by_name span _ h = cc

pub kind-by_binary : IsKindly by_binary
kind-by_binary span (_ ∷ []) h = refl
kind-by_binary span _ h = cc

pub kind-number : IsKindly number
kind-number span (V.a_token t ∷ []) h = refl
kind-number span _ h = cc

pub kind-true_word : IsKindly true_word
kind-true_word span (_ ∷ []) h = refl
kind-true_word span _ h = cc

pub kind-false_word : IsKindly false_word
kind-false_word span (_ ∷ []) h = refl
kind-false_word span _ h = cc

pub kind-null_word : IsKindly null_word
kind-null_word span (_ ∷ []) h = refl
kind-null_word span _ h = cc

pub kind-just_string : IsKindly just_string
kind-just_string span (V.operand x ∷ []) h = refl
kind-just_string span _ h = cc

pub kind-column : IsKindly column
kind-column span (V.a_token t ∷ []) h = refl
kind-column span _ h = cc

pub kind-table_column : IsKindly table_column
kind-table_column span (V.a_token t ∷ _ ∷ V.a_token u ∷ []) h = refl
kind-table_column span _ h = cc

pub kind-just_call : IsKindly just_call
kind-just_call span (V.operand x ∷ []) h = refl
kind-just_call span _ h = cc

pub kind-in_parens : IsKindly in_parens
kind-in_parens span (_ ∷ V.operand x ∷ _ ∷ []) h = refl
kind-in_parens span _ h = cc
