use Rattle.std.proofs.Common.{refl}
use Rattle.mc_sql.specs.Classes.{is_intro, is_called}
use Rattle.mc_token.specs.Keywords.{keyword_of}
use Rattle.mc_ast.proofs.Found.{tree_found}
use Rattle.mc_ast.proofs.examples.literals_and_names.Goals as goal

pub returns-clause-strings_side_by_side : goal.returns-clause-strings_side_by_side
unfolding keyword_of is_intro is_called
returns-clause-strings_side_by_side c = tree_found _ _ refl

pub returns-clause-national_string : goal.returns-clause-national_string
unfolding keyword_of is_intro is_called
returns-clause-national_string c = tree_found _ _ refl

pub returns-clause-string_with_its_set : goal.returns-clause-string_with_its_set
unfolding keyword_of is_intro is_called
returns-clause-string_with_its_set c = tree_found _ _ refl

pub returns-clause-bytes_with_their_set : goal.returns-clause-bytes_with_their_set
unfolding keyword_of is_intro is_called
returns-clause-bytes_with_their_set c = tree_found _ _ refl

pub returns-clause-such_a_word_alone : goal.returns-clause-such_a_word_alone
unfolding keyword_of is_intro is_called
returns-clause-such_a_word_alone c = tree_found _ _ refl

pub returns-clause-column_of_a_table : goal.returns-clause-column_of_a_table
unfolding keyword_of is_intro is_called
returns-clause-column_of_a_table c = tree_found _ _ refl

pub returns-clause-true_is_true : goal.returns-clause-true_is_true
unfolding keyword_of is_intro is_called
returns-clause-true_is_true c = tree_found _ _ refl
