-- What each alternative of clauses means is of the kind of its rule.
use Rattle.std.proofs.Common.{refl, List, [], ◌∷◌, IsTrue}
use Rattle.mc_base.specs.declared.span.Span.{Span}
use Rattle.mc_sql.specs.Rules.{Alternative, star_statement, items_statement, no_explain, explained, no_distinct, distinct_rows, no_more_items, one_more_item, no_source, given_source, from_table, no_where, where_holds, no_group, group_by, no_more_ors, one_more_or, no_order, order_by, no_more_orders, one_more_order, no_limit, limit_rows, no_offset, offset_before, offset_behind, one_item, no_alias, as_alias, bare_alias, one_order, no_direction, ascending, descending}
use Rattle.mc_sql.specs.Statements.{symbols}
use Rattle.mc_ast.specs.Values as V
use Rattle.mc_ast.specs.Values.{Value}
use Rattle.mc_ast.specs.Meaning.{meaning}
use Rattle.mc_ast.proofs.MeaningKinds.{is_kind, suit, rule_of}

-- The meaning of the alternative is of the kind of its rule.
abbrev pub IsKindly : Alternative → Type 0
IsKindly a = (span : Span) (vs : List Value) → IsTrue (suit (symbols a) vs) → IsTrue (is_kind (rule_of a) (meaning a span vs))

pub kind-star_statement : IsKindly star_statement
kind-star_statement span (V.flag e ∷ _ ∷ V.flag d ∷ _ ∷ V.items is ∷ V.source s ∷ V.order_items os ∷ V.limit l ∷ []) h = refl
kind-star_statement span _ h = cc

pub kind-items_statement : IsKindly items_statement
kind-items_statement span (V.flag e ∷ _ ∷ V.flag d ∷ V.item i ∷ V.items is ∷ V.source s ∷ V.order_items os ∷ V.limit l ∷ []) h = refl
kind-items_statement span _ h = cc

pub kind-no_explain : IsKindly no_explain
kind-no_explain span [] h = refl
kind-no_explain span _ h = cc

pub kind-explained : IsKindly explained
kind-explained span (_ ∷ []) h = refl
kind-explained span _ h = cc

pub kind-no_distinct : IsKindly no_distinct
kind-no_distinct span [] h = refl
kind-no_distinct span _ h = cc

pub kind-distinct_rows : IsKindly distinct_rows
kind-distinct_rows span (_ ∷ []) h = refl
kind-distinct_rows span _ h = cc

pub kind-no_more_items : IsKindly no_more_items
kind-no_more_items span [] h = refl
kind-no_more_items span _ h = cc

pub kind-one_more_item : IsKindly one_more_item
kind-one_more_item span (_ ∷ V.item i ∷ V.items is ∷ []) h = refl
kind-one_more_item span _ h = cc

pub kind-no_source : IsKindly no_source
kind-no_source span [] h = refl
kind-no_source span _ h = cc

pub kind-given_source : IsKindly given_source
kind-given_source span (V.source s ∷ []) h = refl
kind-given_source span _ h = cc

pub kind-from_table : IsKindly from_table
kind-from_table span (_ ∷ V.a_token t ∷ V.maybe_operand w ∷ V.operands gs ∷ []) h = refl
kind-from_table span _ h = cc

pub kind-no_where : IsKindly no_where
kind-no_where span [] h = refl
kind-no_where span _ h = cc

pub kind-where_holds : IsKindly where_holds
kind-where_holds span (_ ∷ V.operand x ∷ []) h = refl
kind-where_holds span _ h = cc

pub kind-no_group : IsKindly no_group
kind-no_group span [] h = refl
kind-no_group span _ h = cc

pub kind-group_by : IsKindly group_by
kind-group_by span (_ ∷ _ ∷ V.operand x ∷ V.operands xs ∷ []) h = refl
kind-group_by span _ h = cc

pub kind-no_more_ors : IsKindly no_more_ors
kind-no_more_ors span [] h = refl
kind-no_more_ors span _ h = cc

pub kind-one_more_or : IsKindly one_more_or
kind-one_more_or span (_ ∷ V.operand x ∷ V.operands xs ∷ []) h = refl
kind-one_more_or span _ h = cc

pub kind-no_order : IsKindly no_order
kind-no_order span [] h = refl
kind-no_order span _ h = cc

pub kind-order_by : IsKindly order_by
kind-order_by span (_ ∷ _ ∷ V.order_item o ∷ V.order_items os ∷ []) h = refl
kind-order_by span _ h = cc

pub kind-no_more_orders : IsKindly no_more_orders
kind-no_more_orders span [] h = refl
kind-no_more_orders span _ h = cc

pub kind-one_more_order : IsKindly one_more_order
kind-one_more_order span (_ ∷ V.order_item o ∷ V.order_items os ∷ []) h = refl
kind-one_more_order span _ h = cc

pub kind-no_limit : IsKindly no_limit
kind-no_limit span [] h = refl
kind-no_limit span _ h = cc

pub kind-limit_rows : IsKindly limit_rows
kind-limit_rows span (_ ∷ V.a_token t ∷ V.no_number ∷ []) h = refl
kind-limit_rows span (_ ∷ V.a_token t ∷ V.the_count n ∷ []) h = refl
kind-limit_rows span (_ ∷ V.a_token t ∷ V.the_offset n ∷ []) h = refl
kind-limit_rows span _ h = cc

pub kind-no_offset : IsKindly no_offset
kind-no_offset span [] h = refl
kind-no_offset span _ h = cc

pub kind-offset_before : IsKindly offset_before
kind-offset_before span (_ ∷ V.a_token t ∷ []) h = refl
kind-offset_before span _ h = cc

pub kind-offset_behind : IsKindly offset_behind
kind-offset_behind span (_ ∷ V.a_token t ∷ []) h = refl
kind-offset_behind span _ h = cc

pub kind-one_item : IsKindly one_item
kind-one_item span (V.operand x ∷ V.maybe_text a ∷ []) h = refl
kind-one_item span _ h = cc

pub kind-no_alias : IsKindly no_alias
kind-no_alias span [] h = refl
kind-no_alias span _ h = cc

pub kind-as_alias : IsKindly as_alias
kind-as_alias span (_ ∷ V.a_token t ∷ []) h = refl
kind-as_alias span _ h = cc

pub kind-bare_alias : IsKindly bare_alias
kind-bare_alias span (V.a_token t ∷ []) h = refl
kind-bare_alias span _ h = cc

pub kind-one_order : IsKindly one_order
kind-one_order span (V.operand x ∷ V.flag d ∷ []) h = refl
kind-one_order span _ h = cc

pub kind-no_direction : IsKindly no_direction
kind-no_direction span [] h = refl
kind-no_direction span _ h = cc

pub kind-ascending : IsKindly ascending
kind-ascending span (_ ∷ []) h = refl
kind-ascending span _ h = cc

pub kind-descending : IsKindly descending
kind-descending span (_ ∷ []) h = refl
kind-descending span _ h = cc
