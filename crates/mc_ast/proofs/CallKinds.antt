-- What each alternative of strings and calls means is of the kind of its rule.
use Rattle.std.proofs.Common.{refl, [], ◌∷◌}
use Rattle.mc_sql.specs.Rules.{plain_string, national_string, hex_string, intro_string, intro_hex, no_more_strs, one_more_str, convert_call, cast_char_call, cast_binary_call, count_all_call, count_distinct_call, trim_side_call, trim_call, substring_call, weight_string_call, empty_call, single_call, many_call, no_set, with_set, both_sides, leading_side, trailing_side, no_or, given_or, no_length, with_length, no_cut, char_cut, binary_cut}
use Rattle.mc_ast.specs.Values as V
use Rattle.mc_ast.proofs.ClauseKinds.{IsKindly}

pub kind-plain_string : IsKindly plain_string
kind-plain_string span (V.a_token t ∷ V.text more ∷ []) h = refl
kind-plain_string span _ h = cc

pub kind-national_string : IsKindly national_string
kind-national_string span (V.a_token t ∷ V.text more ∷ []) h = refl
kind-national_string span _ h = cc

pub kind-hex_string : IsKindly hex_string
kind-hex_string span (V.a_token t ∷ []) h = refl
kind-hex_string span _ h = cc

pub kind-intro_string : IsKindly intro_string
kind-intro_string span (V.a_token i ∷ V.a_token t ∷ V.text more ∷ []) h = refl
kind-intro_string span _ h = cc

pub kind-intro_hex : IsKindly intro_hex
kind-intro_hex span (V.a_token i ∷ V.a_token t ∷ []) h = refl
kind-intro_hex span _ h = cc

pub kind-no_more_strs : IsKindly no_more_strs
kind-no_more_strs span [] h = refl
kind-no_more_strs span _ h = cc

pub kind-one_more_str : IsKindly one_more_str
kind-one_more_str span (V.a_token t ∷ V.text more ∷ []) h = refl
kind-one_more_str span _ h = cc

pub kind-convert_call : IsKindly convert_call
kind-convert_call span (_ ∷ _ ∷ V.operand x ∷ _ ∷ V.collation c ∷ _ ∷ []) h = refl
kind-convert_call span _ h = cc

pub kind-cast_char_call : IsKindly cast_char_call
kind-cast_char_call span (_ ∷ _ ∷ V.operand x ∷ _ ∷ _ ∷ V.maybe_text s ∷ _ ∷ []) h = refl
kind-cast_char_call span _ h = cc

pub kind-cast_binary_call : IsKindly cast_binary_call
kind-cast_binary_call span (_ ∷ _ ∷ V.operand x ∷ _ ∷ _ ∷ _ ∷ []) h = refl
kind-cast_binary_call span _ h = cc

pub kind-count_all_call : IsKindly count_all_call
kind-count_all_call span (_ ∷ _ ∷ _ ∷ _ ∷ []) h = refl
kind-count_all_call span _ h = cc

pub kind-count_distinct_call : IsKindly count_distinct_call
kind-count_distinct_call span (_ ∷ _ ∷ _ ∷ V.operand x ∷ _ ∷ []) h = refl
kind-count_distinct_call span _ h = cc

pub kind-trim_side_call : IsKindly trim_side_call
kind-trim_side_call span (_ ∷ _ ∷ V.trim_side s ∷ V.maybe_operand r ∷ _ ∷ V.operand x ∷ _ ∷ []) h = refl
kind-trim_side_call span _ h = cc

pub kind-trim_call : IsKindly trim_call
kind-trim_call span (_ ∷ _ ∷ V.operand r ∷ _ ∷ V.operand x ∷ _ ∷ []) h = refl
kind-trim_call span _ h = cc

pub kind-substring_call : IsKindly substring_call
kind-substring_call span (_ ∷ _ ∷ V.operand x ∷ _ ∷ V.operand y ∷ V.maybe_operand l ∷ _ ∷ []) h = refl
kind-substring_call span _ h = cc

pub kind-weight_string_call : IsKindly weight_string_call
kind-weight_string_call span (_ ∷ _ ∷ V.operand x ∷ V.cut c ∷ _ ∷ []) h = refl
kind-weight_string_call span _ h = cc

pub kind-empty_call : IsKindly empty_call
kind-empty_call span (V.a_token t ∷ _ ∷ _ ∷ []) h = refl
kind-empty_call span _ h = cc

pub kind-single_call : IsKindly single_call
kind-single_call span (V.a_token t ∷ _ ∷ V.operand x ∷ _ ∷ []) h = refl
kind-single_call span _ h = cc

pub kind-many_call : IsKindly many_call
kind-many_call span (V.a_token t ∷ _ ∷ V.operand x ∷ _ ∷ V.operand y ∷ V.operands ys ∷ _ ∷ []) h = refl
kind-many_call span _ h = cc

pub kind-no_set : IsKindly no_set
kind-no_set span [] h = refl
kind-no_set span _ h = cc

pub kind-with_set : IsKindly with_set
kind-with_set span (_ ∷ _ ∷ V.collation c ∷ []) h = refl
kind-with_set span _ h = cc

pub kind-both_sides : IsKindly both_sides
kind-both_sides span (_ ∷ []) h = refl
kind-both_sides span _ h = cc

pub kind-leading_side : IsKindly leading_side
kind-leading_side span (_ ∷ []) h = refl
kind-leading_side span _ h = cc

pub kind-trailing_side : IsKindly trailing_side
kind-trailing_side span (_ ∷ []) h = refl
kind-trailing_side span _ h = cc

pub kind-no_or : IsKindly no_or
kind-no_or span [] h = refl
kind-no_or span _ h = cc

pub kind-given_or : IsKindly given_or
kind-given_or span (V.operand x ∷ []) h = refl
kind-given_or span _ h = cc

pub kind-no_length : IsKindly no_length
kind-no_length span [] h = refl
kind-no_length span _ h = cc

pub kind-with_length : IsKindly with_length
kind-with_length span (_ ∷ V.operand x ∷ []) h = refl
kind-with_length span _ h = cc

pub kind-no_cut : IsKindly no_cut
kind-no_cut span [] h = refl
kind-no_cut span _ h = cc

pub kind-char_cut : IsKindly char_cut
kind-char_cut span (_ ∷ _ ∷ _ ∷ V.a_token t ∷ _ ∷ []) h = refl
kind-char_cut span _ h = cc

pub kind-binary_cut : IsKindly binary_cut
kind-binary_cut span (_ ∷ _ ∷ _ ∷ V.a_token t ∷ _ ∷ []) h = refl
kind-binary_cut span _ h = cc
