-- What is computed of the grammar: the tables cover its alternatives, which are told apart.
use Rattle.std.proofs.Common.{refl, IsTrue}
use Rattle.mc_grammar.specs.Ahead.{every, is_covered}
use Rattle.mc_grammar.specs.Apart.{all_distinct}
use Rattle.mc_sql.specs.Rules.{Rule, alternatives}
use Rattle.mc_token.specs.Keywords.{keyword_of}
use Rattle.mc_sql.specs.Classes.{is_intro, is_called}
use Rattle.mc_sql.specs.Statements.{statements}
use Rattle.mc_sql.specs.Tables.{tables}
use Rattle.mc_sql.proofs.Numbers.{rules, of_each}

each_covered : IsTrue
    (every (λ r. every (λ a. is_covered statements tables r a) (alternatives r)) rules)
unfolding keyword_of is_intro is_called
each_covered = refl

each_distinct : IsTrue
    (every (λ r. all_distinct statements tables 16 (tables.follows r) (alternatives r)) rules)
unfolding keyword_of is_intro is_called
each_distinct = refl

pub covered : (r : Rule) → IsTrue (every (λ a. is_covered statements tables r a) (alternatives r))
covered r =
    of_each (λ r. every (λ a. is_covered statements tables r a) (alternatives r)) each_covered r

pub distinct : (r : Rule)
    → IsTrue (all_distinct statements tables 16 (tables.follows r) (alternatives r))
distinct r =
    of_each (λ r. all_distinct statements tables 16 (tables.follows r) (alternatives r))
    each_distinct r
