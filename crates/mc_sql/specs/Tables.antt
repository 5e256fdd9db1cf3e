-- The tables of the grammar: what its rules begin with, and what follows them.
use Rattle.std.specs.Prelude.{Bool, true, false, ℕ, nat_eq}
use Rattle.mc_grammar.specs.Ahead.{Tables}
use Rattle.mc_sql.specs.Apart.{are_apart, is_within}
use Rattle.mc_sql.specs.Begins.{begins}
use Rattle.mc_sql.specs.Behind.{behind}
use Rattle.mc_sql.specs.Classes.{Class}
use Rattle.mc_sql.specs.Follows.{follows}
use Rattle.mc_sql.specs.Rules.{Rule, statement, explain_option, distinct_option, more_items}
use Rattle.mc_sql.specs.Rules.{source_option, source, where_option, group_option, more_ors}
use Rattle.mc_sql.specs.Rules.{order_option, more_orders, limit_option, offset_option, item}
use Rattle.mc_sql.specs.Rules.{alias_option, order, direction_option, or, more_xors, xor, more_ands}
use Rattle.mc_sql.specs.Rules.{and, more_nots, not, pred, not_option, escape_option, cmp, sum}
use Rattle.mc_sql.specs.Rules.{more_prods, prod, more_negs, neg, coll, more_collates}
use Rattle.mc_sql.specs.Rules.{name_or_binary, prim, string, more_strs, call, set_option, side}
use Rattle.mc_sql.specs.Rules.{or_option, length_option, cut_option}

-- The rules that may read no token.
abbrev pub may_be_empty : Rule → Bool
may_be_empty explain_option = true
may_be_empty distinct_option = true
may_be_empty more_items = true
may_be_empty source_option = true
may_be_empty where_option = true
may_be_empty group_option = true
may_be_empty more_ors = true
may_be_empty order_option = true
may_be_empty more_orders = true
may_be_empty limit_option = true
may_be_empty offset_option = true
may_be_empty alias_option = true
may_be_empty direction_option = true
may_be_empty more_xors = true
may_be_empty more_ands = true
may_be_empty more_nots = true
may_be_empty not_option = true
may_be_empty escape_option = true
may_be_empty more_prods = true
may_be_empty more_negs = true
may_be_empty more_collates = true
may_be_empty more_strs = true
may_be_empty set_option = true
may_be_empty or_option = true
may_be_empty length_option = true
may_be_empty cut_option = true
may_be_empty _ = false

-- The number of a rule.
abbrev pub number_of : Rule → ℕ
number_of statement = 0
number_of explain_option = 1
number_of distinct_option = 2
number_of more_items = 3
number_of source_option = 4
number_of source = 5
number_of where_option = 6
number_of group_option = 7
number_of more_ors = 8
number_of order_option = 9
number_of more_orders = 10
number_of limit_option = 11
number_of offset_option = 12
number_of item = 13
number_of alias_option = 14
number_of order = 15
number_of direction_option = 16
number_of or = 17
number_of more_xors = 18
number_of xor = 19
number_of more_ands = 20
number_of and = 21
number_of more_nots = 22
number_of not = 23
number_of pred = 24
number_of not_option = 25
number_of escape_option = 26
number_of cmp = 27
number_of sum = 28
number_of more_prods = 29
number_of prod = 30
number_of more_negs = 31
number_of neg = 32
number_of coll = 33
number_of more_collates = 34
number_of name_or_binary = 35
number_of prim = 36
number_of string = 37
number_of more_strs = 38
number_of call = 39
number_of set_option = 40
number_of side = 41
number_of or_option = 42
number_of length_option = 43
number_of cut_option = 44

-- The tables of the grammar.
abbrev pub tables : Tables Class Rule
tables = record {
  may_be_empty = may_be_empty;
  begins = begins;
  follows = follows;
  behind = behind;
  are_apart = are_apart;
  is_within = is_within;
  are_same = λ r q. nat_eq (number_of r) (number_of q);
}
