-- A rule is known by its number.
use Rattle.std.proofs.Common.{◌≡◌, refl, ℕ, zero, suc, Bool, List, [], ◌∷◌, IsTrue, subst}
use Rattle.mc_grammar.specs.Ahead.{every}
use Rattle.mc_grammar.proofs.Ahead.{chosen}
use Rattle.mc_sql.specs.Rules.{Rule, statement, explain_option, distinct_option, more_items}
use Rattle.mc_sql.specs.Rules.{source_option, source, where_option, group_option, more_ors}
use Rattle.mc_sql.specs.Rules.{order_option, more_orders, limit_option, offset_option, item}
use Rattle.mc_sql.specs.Rules.{alias_option, order, direction_option, or, more_xors, xor, more_ands}
use Rattle.mc_sql.specs.Rules.{and, more_nots, not, pred, not_option, escape_option, cmp, sum}
use Rattle.mc_sql.specs.Rules.{more_prods, prod, more_negs, neg, coll, more_collates}
use Rattle.mc_sql.specs.Rules.{name_or_binary, prim, string, more_strs, call, set_option, side}
use Rattle.mc_sql.specs.Rules.{or_option, length_option, cut_option}
use Rattle.mc_sql.specs.Tables.{number_of}

-- The rules in the order of their numbers.
abbrev pub rules : List Rule
rules =
    statement ∷ explain_option ∷ distinct_option ∷ more_items ∷ source_option ∷ source ∷
    where_option ∷ group_option ∷ more_ors ∷ order_option ∷ more_orders ∷ limit_option ∷
    offset_option ∷ item ∷ alias_option ∷ order ∷ direction_option ∷ or ∷ more_xors ∷ xor ∷
    more_ands ∷ and ∷ more_nots ∷ not ∷ pred ∷ not_option ∷ escape_option ∷ cmp ∷ sum ∷
    more_prods ∷ prod ∷ more_negs ∷ neg ∷ coll ∷ more_collates ∷ name_or_binary ∷ prim ∷
    string ∷ more_strs ∷ call ∷ set_option ∷ side ∷ or_option ∷ length_option ∷ cut_option ∷
    []

-- The rule at a place.
abbrev at : ℕ → List Rule → Rule
at n [] = statement
at zero (r ∷ rs) = r
at (suc n) (r ∷ rs) = at n rs

-- The rule of a number.
abbrev pub rule_of : ℕ → Rule
rule_of n = at n rules

pub rule_of-number : (r : Rule) → rule_of (number_of r) ≡ r
rule_of-number statement = refl
rule_of-number explain_option = refl
rule_of-number distinct_option = refl
rule_of-number more_items = refl
rule_of-number source_option = refl
rule_of-number source = refl
rule_of-number where_option = refl
rule_of-number group_option = refl
rule_of-number more_ors = refl
rule_of-number order_option = refl
rule_of-number more_orders = refl
rule_of-number limit_option = refl
rule_of-number offset_option = refl
rule_of-number item = refl
rule_of-number alias_option = refl
rule_of-number order = refl
rule_of-number direction_option = refl
rule_of-number or = refl
rule_of-number more_xors = refl
rule_of-number xor = refl
rule_of-number more_ands = refl
rule_of-number and = refl
rule_of-number more_nots = refl
rule_of-number not = refl
rule_of-number pred = refl
rule_of-number not_option = refl
rule_of-number escape_option = refl
rule_of-number cmp = refl
rule_of-number sum = refl
rule_of-number more_prods = refl
rule_of-number prod = refl
rule_of-number more_negs = refl
rule_of-number neg = refl
rule_of-number coll = refl
rule_of-number more_collates = refl
rule_of-number name_or_binary = refl
rule_of-number prim = refl
rule_of-number string = refl
rule_of-number more_strs = refl
rule_of-number call = refl
rule_of-number set_option = refl
rule_of-number side = refl
rule_of-number or_option = refl
rule_of-number length_option = refl
rule_of-number cut_option = refl

every_at : (test : Rule → Bool) (rs : List Rule) → IsTrue (every test rs)
    → IsTrue (test statement) → (n : ℕ) → IsTrue (test (at n rs))
every_at test [] h k n = k
every_at test (r ∷ rs) h k zero = (chosen (test r) (every test rs) h).0
every_at test (r ∷ rs) h k (suc n) =
    every_at test rs (chosen (test r) (every test rs) h).1 k n

-- What holds of each of the list holds of each rule.
pub of_each : (test : Rule → Bool) → IsTrue (every test rules) → (r : Rule) → IsTrue (test r)
of_each test h r =
    subst (λ (q : Rule). IsTrue (test q)) (rule_of-number r)
    (every_at test rules h (chosen (test statement) _ h).0 (number_of r))
