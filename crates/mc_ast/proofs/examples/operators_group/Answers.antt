use Rattle.std.proofs.Common.{refl}
use Rattle.mc_sql.specs.Classes.{is_intro, is_called}
use Rattle.mc_token.specs.Keywords.{keyword_of}
use Rattle.mc_ast.proofs.Found.{tree_found}
use Rattle.mc_ast.proofs.examples.operators_group.Goals as goal

pub returns-clause-or_is_one_list : goal.returns-clause-or_is_one_list
unfolding keyword_of is_intro is_called
returns-clause-or_is_one_list c = tree_found _ _ refl

pub returns-clause-and_is_one_list : goal.returns-clause-and_is_one_list
unfolding keyword_of is_intro is_called
returns-clause-and_is_one_list c = tree_found _ _ refl

pub returns-clause-xor_groups_left : goal.returns-clause-xor_groups_left
unfolding keyword_of is_intro is_called
returns-clause-xor_groups_left c = tree_found _ _ refl

pub returns-clause-xor_before_or : goal.returns-clause-xor_before_or
unfolding keyword_of is_intro is_called
returns-clause-xor_before_or c = tree_found _ _ refl

pub returns-clause-and_before_xor : goal.returns-clause-and_before_xor
unfolding keyword_of is_intro is_called
returns-clause-and_before_xor c = tree_found _ _ refl

pub returns-clause-not_before_and : goal.returns-clause-not_before_and
unfolding keyword_of is_intro is_called
returns-clause-not_before_and c = tree_found _ _ refl

pub returns-clause-comparison_before_not : goal.returns-clause-comparison_before_not
unfolding keyword_of is_intro is_called
returns-clause-comparison_before_not c = tree_found _ _ refl

pub returns-clause-bang_is_unequal : goal.returns-clause-bang_is_unequal
unfolding keyword_of is_intro is_called
returns-clause-bang_is_unequal c = tree_found _ _ refl

pub returns-clause-null_equal : goal.returns-clause-null_equal
unfolding keyword_of is_intro is_called
returns-clause-null_equal c = tree_found _ _ refl

pub returns-clause-sum_before_comparison : goal.returns-clause-sum_before_comparison
unfolding keyword_of is_intro is_called
returns-clause-sum_before_comparison c = tree_found _ _ refl

pub returns-clause-is_not_null : goal.returns-clause-is_not_null
unfolding keyword_of is_intro is_called
returns-clause-is_not_null c = tree_found _ _ refl

pub returns-clause-like_with_escape : goal.returns-clause-like_with_escape
unfolding keyword_of is_intro is_called
returns-clause-like_with_escape c = tree_found _ _ refl

pub returns-clause-not_like : goal.returns-clause-not_like
unfolding keyword_of is_intro is_called
returns-clause-not_like c = tree_found _ _ refl

pub returns-clause-not_in : goal.returns-clause-not_in
unfolding keyword_of is_intro is_called
returns-clause-not_in c = tree_found _ _ refl

pub returns-clause-between_takes_its_and : goal.returns-clause-between_takes_its_and
unfolding keyword_of is_intro is_called
returns-clause-between_takes_its_and c = tree_found _ _ refl

pub returns-clause-sum_groups_left : goal.returns-clause-sum_groups_left
unfolding keyword_of is_intro is_called
returns-clause-sum_groups_left c = tree_found _ _ refl

pub returns-clause-product_before_sum : goal.returns-clause-product_before_sum
unfolding keyword_of is_intro is_called
returns-clause-product_before_sum c = tree_found _ _ refl

pub returns-clause-parentheses_make_no_node : goal.returns-clause-parentheses_make_no_node
unfolding keyword_of is_intro is_called
returns-clause-parentheses_make_no_node c = tree_found _ _ refl

pub returns-clause-mod_is_an_operator : goal.returns-clause-mod_is_an_operator
unfolding keyword_of is_intro is_called
returns-clause-mod_is_an_operator c = tree_found _ _ refl

pub returns-clause-minus_before_product : goal.returns-clause-minus_before_product
unfolding keyword_of is_intro is_called
returns-clause-minus_before_product c = tree_found _ _ refl

pub returns-clause-minus_of_minus : goal.returns-clause-minus_of_minus
unfolding keyword_of is_intro is_called
returns-clause-minus_of_minus c = tree_found _ _ refl

pub returns-clause-collate_before_minus : goal.returns-clause-collate_before_minus
unfolding keyword_of is_intro is_called
returns-clause-collate_before_minus c = tree_found _ _ refl

pub returns-clause-collate_binary : goal.returns-clause-collate_binary
unfolding keyword_of is_intro is_called
returns-clause-collate_binary c = tree_found _ _ refl
