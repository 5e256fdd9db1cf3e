-- The rules of the grammar and their alternatives, in the order in which they are written.
use Rattle.std.specs.Prelude.{List, [], ◌∷◌}

-- The rules. One for `{..}` or `[..]` inside a rule is named for what it repeats or leaves open.
pub data Rule : Type 0 where
  statement explain_option distinct_option more_items source_option source where_option : Rule
  group_option more_ors order_option more_orders limit_option offset_option item alias_option : Rule
  order direction_option or more_xors xor more_ands and more_nots not pred not_option : Rule
  escape_option cmp sum more_prods prod more_negs neg coll more_collates name_or_binary prim : Rule
  string more_strs call set_option side or_option length_option cut_option : Rule

-- The alternatives, one line for each rule.
pub data Alternative : Type 0 where
  star_statement items_statement : Alternative
  no_explain explained : Alternative
  no_distinct distinct_rows : Alternative
  no_more_items one_more_item : Alternative
  no_source given_source : Alternative
  from_table : Alternative
  no_where where_holds : Alternative
  no_group group_by : Alternative
  no_more_ors one_more_or : Alternative
  no_order order_by : Alternative
  no_more_orders one_more_order : Alternative
  no_limit limit_rows : Alternative
  no_offset offset_before offset_behind : Alternative
  one_item : Alternative
  no_alias as_alias bare_alias : Alternative
  one_order : Alternative
  no_direction ascending descending : Alternative
  xors : Alternative
  no_more_xors one_more_xor : Alternative
  ands : Alternative
  no_more_ands one_more_and : Alternative
  nots : Alternative
  no_more_nots one_more_not : Alternative
  negated just_pred : Alternative
  just_sum compared tested_null matched listed ranged : Alternative
  no_not with_not : Alternative
  no_escape with_escape : Alternative
  equal null_equal unequal unequal_bang less less_equal greater greater_equal : Alternative
  prods : Alternative
  no_more_prods plus_prod minus_prod : Alternative
  negs : Alternative
  no_more_negs times_neg div_neg percent_neg mod_neg : Alternative
  minus just_coll : Alternative
  collated : Alternative
  no_more_collates one_more_collate : Alternative
  by_name by_binary : Alternative
  number true_word false_word null_word just_string column table_column just_call : Alternative
  in_parens : Alternative
  plain_string national_string hex_string intro_string intro_hex : Alternative
  no_more_strs one_more_str : Alternative
  convert_call cast_char_call cast_binary_call count_all_call count_distinct_call : Alternative
  trim_side_call trim_call substring_call weight_string_call empty_call single_call : Alternative
  many_call : Alternative
  no_set with_set : Alternative
  both_sides leading_side trailing_side : Alternative
  no_or given_or : Alternative
  no_length with_length : Alternative
  no_cut char_cut binary_cut : Alternative

-- The alternatives of each rule.
abbrev pub alternatives : Rule → List Alternative
alternatives statement = star_statement ∷ items_statement ∷ []
alternatives explain_option = no_explain ∷ explained ∷ []
alternatives distinct_option = no_distinct ∷ distinct_rows ∷ []
alternatives more_items = no_more_items ∷ one_more_item ∷ []
alternatives source_option = no_source ∷ given_source ∷ []
alternatives source = from_table ∷ []
alternatives where_option = no_where ∷ where_holds ∷ []
alternatives group_option = no_group ∷ group_by ∷ []
alternatives more_ors = no_more_ors ∷ one_more_or ∷ []
alternatives order_option = no_order ∷ order_by ∷ []
alternatives more_orders = no_more_orders ∷ one_more_order ∷ []
alternatives limit_option = no_limit ∷ limit_rows ∷ []
alternatives offset_option = no_offset ∷ offset_before ∷ offset_behind ∷ []
alternatives item = one_item ∷ []
alternatives alias_option = no_alias ∷ as_alias ∷ bare_alias ∷ []
alternatives order = one_order ∷ []
alternatives direction_option = no_direction ∷ ascending ∷ descending ∷ []
alternatives or = xors ∷ []
alternatives more_xors = no_more_xors ∷ one_more_xor ∷ []
alternatives xor = ands ∷ []
alternatives more_ands = no_more_ands ∷ one_more_and ∷ []
alternatives and = nots ∷ []
alternatives more_nots = no_more_nots ∷ one_more_not ∷ []
alternatives not = negated ∷ just_pred ∷ []
alternatives pred = just_sum ∷ compared ∷ tested_null ∷ matched ∷ listed ∷ ranged ∷ []
alternatives not_option = no_not ∷ with_not ∷ []
alternatives escape_option = no_escape ∷ with_escape ∷ []
alternatives cmp =
    equal ∷ null_equal ∷ unequal ∷ unequal_bang ∷ less ∷ less_equal ∷ greater ∷
    greater_equal ∷ []
alternatives sum = prods ∷ []
alternatives more_prods = no_more_prods ∷ plus_prod ∷ minus_prod ∷ []
alternatives prod = negs ∷ []
alternatives more_negs = no_more_negs ∷ times_neg ∷ div_neg ∷ percent_neg ∷ mod_neg ∷ []
alternatives neg = minus ∷ just_coll ∷ []
alternatives coll = collated ∷ []
alternatives more_collates = no_more_collates ∷ one_more_collate ∷ []
alternatives name_or_binary = by_name ∷ by_binary ∷ []
alternatives prim =
    number ∷ true_word ∷ false_word ∷ null_word ∷ just_string ∷ column ∷
    table_column ∷ just_call ∷ in_parens ∷ []
alternatives string =
    plain_string ∷ national_string ∷ hex_string ∷ intro_string ∷ intro_hex ∷ []
alternatives more_strs = no_more_strs ∷ one_more_str ∷ []
alternatives call =
    convert_call ∷ cast_char_call ∷ cast_binary_call ∷ count_all_call ∷
    count_distinct_call ∷ trim_side_call ∷ trim_call ∷ substring_call ∷
    weight_string_call ∷ empty_call ∷ single_call ∷ many_call ∷ []
alternatives set_option = no_set ∷ with_set ∷ []
alternatives side = both_sides ∷ leading_side ∷ trailing_side ∷ []
alternatives or_option = no_or ∷ given_or ∷ []
alternatives length_option = no_length ∷ with_length ∷ []
alternatives cut_option = no_cut ∷ char_cut ∷ binary_cut ∷ []
