use Rattle.std.proofs.Common.{refl}
use Rattle.mc_sql.specs.Classes.{is_intro, is_called}
use Rattle.mc_token.specs.Keywords.{keyword_of}
use Rattle.mc_ast.proofs.Found.{tree_found, no_tree}
use Rattle.mc_ast.proofs.examples.clauses.Goals as goal

pub returns-clause-star_and_an_item : goal.returns-clause-star_and_an_item
unfolding keyword_of is_intro is_called
returns-clause-star_and_an_item c = tree_found _ _ refl

pub returns-clause-aliases : goal.returns-clause-aliases
unfolding keyword_of is_intro is_called
returns-clause-aliases c = tree_found _ _ refl

pub returns-clause-item_with_parentheses : goal.returns-clause-item_with_parentheses
unfolding keyword_of is_intro is_called
returns-clause-item_with_parentheses c = tree_found _ _ refl

pub returns-clause-escape_as_alias : goal.returns-clause-escape_as_alias
unfolding keyword_of is_intro is_called
returns-clause-escape_as_alias c = tree_found _ _ refl

pub returns-clause-offset_before : goal.returns-clause-offset_before
unfolding keyword_of is_intro is_called
returns-clause-offset_before c = tree_found _ _ refl

pub returns-clause-offset_behind : goal.returns-clause-offset_behind
unfolding keyword_of is_intro is_called
returns-clause-offset_behind c = tree_found _ _ refl

pub returns-clause-limit_alone : goal.returns-clause-limit_alone
unfolding keyword_of is_intro is_called
returns-clause-limit_alone c = tree_found _ _ refl

pub returns-clause-every_clause : goal.returns-clause-every_clause
unfolding keyword_of is_intro is_called
returns-clause-every_clause c = tree_found _ _ refl

pub returns-clause-trim_of_neither : goal.returns-clause-trim_of_neither
unfolding keyword_of is_intro is_called
returns-clause-trim_of_neither c = no_tree _ refl

pub returns-clause-star_without_table : goal.returns-clause-star_without_table
unfolding keyword_of is_intro is_called
returns-clause-star_without_table c = no_tree _ refl

pub returns-clause-reserved_alias : goal.returns-clause-reserved_alias
unfolding keyword_of is_intro is_called
returns-clause-reserved_alias c = no_tree _ refl

pub returns-clause-cast_as_a_call : goal.returns-clause-cast_as_a_call
unfolding keyword_of is_intro is_called
returns-clause-cast_as_a_call c = no_tree _ refl

pub returns-clause-string_behind_a_name : goal.returns-clause-string_behind_a_name
unfolding keyword_of is_intro is_called
returns-clause-string_behind_a_name c = no_tree _ refl
