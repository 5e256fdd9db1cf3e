use Rattle.std.proofs.Common.{refl}
use Rattle.mc_sql.specs.Classes.{is_intro, is_called}
use Rattle.mc_token.specs.Keywords.{keyword_of}
use Rattle.mc_ast.proofs.Found.{tree_found}
use Rattle.mc_ast.proofs.examples.calls.Goals as goal

pub returns-clause-mod_is_a_call : goal.returns-clause-mod_is_a_call
unfolding keyword_of is_intro is_called
returns-clause-mod_is_a_call c = tree_found _ _ refl

pub returns-clause-call_of_nothing : goal.returns-clause-call_of_nothing
unfolding keyword_of is_intro is_called
returns-clause-call_of_nothing c = tree_found _ _ refl

pub returns-clause-count_of_all : goal.returns-clause-count_of_all
unfolding keyword_of is_intro is_called
returns-clause-count_of_all c = tree_found _ _ refl

pub returns-clause-count_of_distinct : goal.returns-clause-count_of_distinct
unfolding keyword_of is_intro is_called
returns-clause-count_of_distinct c = tree_found _ _ refl

pub returns-clause-plain_count : goal.returns-clause-plain_count
unfolding keyword_of is_intro is_called
returns-clause-plain_count c = tree_found _ _ refl

pub returns-clause-trim_from : goal.returns-clause-trim_from
unfolding keyword_of is_intro is_called
returns-clause-trim_from c = tree_found _ _ refl

pub returns-clause-trim_leading : goal.returns-clause-trim_leading
unfolding keyword_of is_intro is_called
returns-clause-trim_leading c = tree_found _ _ refl

pub returns-clause-plain_trim : goal.returns-clause-plain_trim
unfolding keyword_of is_intro is_called
returns-clause-plain_trim c = tree_found _ _ refl

pub returns-clause-substring_from_for : goal.returns-clause-substring_from_for
unfolding keyword_of is_intro is_called
returns-clause-substring_from_for c = tree_found _ _ refl

pub returns-clause-weight_string_of_one : goal.returns-clause-weight_string_of_one
unfolding keyword_of is_intro is_called
returns-clause-weight_string_of_one c = tree_found _ _ refl

pub returns-clause-weight_string_cut : goal.returns-clause-weight_string_cut
unfolding keyword_of is_intro is_called
returns-clause-weight_string_cut c = tree_found _ _ refl

pub returns-clause-weight_string_of_two : goal.returns-clause-weight_string_of_two
unfolding keyword_of is_intro is_called
returns-clause-weight_string_of_two c = tree_found _ _ refl

pub returns-clause-convert_using : goal.returns-clause-convert_using
unfolding keyword_of is_intro is_called
returns-clause-convert_using c = tree_found _ _ refl

pub returns-clause-cast_as_char : goal.returns-clause-cast_as_char
unfolding keyword_of is_intro is_called
returns-clause-cast_as_char c = tree_found _ _ refl

pub returns-clause-cast_as_binary : goal.returns-clause-cast_as_binary
unfolding keyword_of is_intro is_called
returns-clause-cast_as_binary c = tree_found _ _ refl

pub returns-clause-cast_alone : goal.returns-clause-cast_alone
unfolding keyword_of is_intro is_called
returns-clause-cast_alone c = tree_found _ _ refl
