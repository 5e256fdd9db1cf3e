use Rattle.std.proofs.Common.{◌+◌, ◌*◌, length}
use Rattle.mc_parse.specs.Read.{as_operand}
use Rattle.mc_parse.proofs.OperatorWays.{IsMultiplying, IsAdding}
use Rattle.mc_parse.proofs.TruthWays.{IsOring, IsAnding, IsXoring}
use Rattle.mc_parse.proofs.ArgumentWays.{IsArguing}
use Rattle.mc_parse.proofs.+expr.Given as goal

abbrev pub decreases-call::call : goal.decreases-call::call
decreases-call::call l = 64 * l.below + 20

abbrev pub decreases-comparison::pred : goal.decreases-comparison::pred
decreases-comparison::pred l = 64 * l.below + 47

abbrev pub decreases-operators::coll : goal.decreases-operators::coll
decreases-operators::coll l = 64 * l.below + 25

abbrev pub decreases-operators::more_negs : goal.decreases-operators::more_negs
decreases-operators::more_negs l = 64 * l.below + 27

abbrev pub decreases-operators::more_prods : goal.decreases-operators::more_prods
decreases-operators::more_prods l = 64 * l.below + 29

abbrev pub decreases-operators::neg : goal.decreases-operators::neg
decreases-operators::neg l = 64 * l.below + 26

abbrev pub decreases-operators::prod : goal.decreases-operators::prod
decreases-operators::prod l = 64 * l.below + 28

abbrev pub decreases-operators::sum : goal.decreases-operators::sum
decreases-operators::sum l = 64 * l.below + 30

abbrev pub decreases-predicate::all_of : goal.decreases-predicate::all_of
decreases-predicate::all_of l = 64 * l.below + 51

abbrev pub decreases-predicate::and : goal.decreases-predicate::and
decreases-predicate::and l = 64 * l.below + 52

abbrev pub decreases-predicate::any_of : goal.decreases-predicate::any_of
decreases-predicate::any_of l = 64 * l.below + 59

abbrev pub decreases-predicate::more_ands : goal.decreases-predicate::more_ands
decreases-predicate::more_ands l = 64 * l.below + 55

abbrev pub decreases-predicate::not : goal.decreases-predicate::not
decreases-predicate::not l = 64 * l.below + 48

abbrev pub decreases-predicate::or : goal.decreases-predicate::or
decreases-predicate::or l = 64 * l.below + 60

abbrev pub decreases-predicate::push_nots : goal.decreases-predicate::push_nots
decreases-predicate::push_nots l = 64 * l.below + 50

abbrev pub decreases-predicate::push_xors : goal.decreases-predicate::push_xors
decreases-predicate::push_xors l = 64 * l.below + 58

abbrev pub decreases-predicate::xor : goal.decreases-predicate::xor
decreases-predicate::xor l = 64 * l.below + 56

abbrev pub decreases-primary::prim : goal.decreases-primary::prim
decreases-primary::prim l = 64 * l.below + 24

abbrev pub invariant-operators::more_negs-loop-op : goal.invariant-operators::more_negs-loop-op
invariant-operators::more_negs-loop-op l =
    IsMultiplying l.below l.fn.place.tokens.now l.place.tokens.now (as_operand l.fn.first)
    (as_operand l.operand)

abbrev pub decreases-operators::more_negs-loop-op : goal.decreases-operators::more_negs-loop-op
decreases-operators::more_negs-loop-op l = length l.place.tokens.now

abbrev pub invariant-operators::more_prods-loop-op : goal.invariant-operators::more_prods-loop-op
invariant-operators::more_prods-loop-op l =
    IsAdding l.below l.fn.place.tokens.now l.place.tokens.now (as_operand l.fn.first)
    (as_operand l.operand)

abbrev pub decreases-operators::more_prods-loop-op : goal.decreases-operators::more_prods-loop-op
decreases-operators::more_prods-loop-op l = length l.place.tokens.now

abbrev pub invariant-predicate::more_ands-loop-behind :
    goal.invariant-predicate::more_ands-loop-behind
invariant-predicate::more_ands-loop-behind l =
    IsXoring l.alias l.below l.fn.place.tokens.now l.place.tokens.now (as_operand l.fn.first)
    (as_operand l.operand)

abbrev pub decreases-predicate::more_ands-loop-behind :
    goal.decreases-predicate::more_ands-loop-behind
decreases-predicate::more_ands-loop-behind l = length l.place.tokens.now

abbrev pub invariant-predicate::push_xors-loop-behind :
    goal.invariant-predicate::push_xors-loop-behind
invariant-predicate::push_xors-loop-behind l =
    IsOring l.alias l.below l.fn.place.tokens.now l.place.tokens.now l.fn.list l.list
    l.fn.extent l.extent

abbrev pub decreases-predicate::push_xors-loop-behind :
    goal.decreases-predicate::push_xors-loop-behind
decreases-predicate::push_xors-loop-behind l = length l.place.tokens.now

abbrev pub invariant-predicate::push_nots-loop-behind :
    goal.invariant-predicate::push_nots-loop-behind
invariant-predicate::push_nots-loop-behind l =
    IsAnding l.alias l.below l.fn.place.tokens.now l.place.tokens.now l.fn.list l.list
    l.fn.extent l.extent

abbrev pub decreases-predicate::push_nots-loop-behind :
    goal.decreases-predicate::push_nots-loop-behind
decreases-predicate::push_nots-loop-behind l = length l.place.tokens.now

abbrev pub decreases-comparison::affirmed : goal.decreases-comparison::affirmed
decreases-comparison::affirmed l = 64 * l.below + 45

abbrev pub decreases-comparison::compared : goal.decreases-comparison::compared
decreases-comparison::compared l = 64 * l.below + 40

abbrev pub decreases-comparison::denied : goal.decreases-comparison::denied
decreases-comparison::denied l = 64 * l.below + 44

abbrev pub decreases-comparison::said : goal.decreases-comparison::said
decreases-comparison::said l = 64 * l.below + 46

abbrev pub decreases-matching::listed : goal.decreases-matching::listed
decreases-matching::listed l = 64 * l.below + 39

abbrev pub decreases-matching::matched : goal.decreases-matching::matched
decreases-matching::matched l = 64 * l.below + 40

abbrev pub decreases-matching::ranged : goal.decreases-matching::ranged
decreases-matching::ranged l = 64 * l.below + 40

abbrev pub decreases-members::members : goal.decreases-members::members
decreases-members::members l = 64 * l.below + 65

abbrev pub decreases-members::push_members : goal.decreases-members::push_members
decreases-members::push_members l = 64 * l.below + 64

abbrev pub decreases-call::by_word : goal.decreases-call::by_word
decreases-call::by_word l = 64 * l.below + 70

abbrev pub decreases-call_convert::convert : goal.decreases-call_convert::convert
decreases-call_convert::convert l = 64 * l.below + 62

abbrev pub decreases-call_plain::count : goal.decreases-call_plain::count
decreases-call_plain::count l = 64 * l.below + 68

abbrev pub decreases-call_plain::count_distinct : goal.decreases-call_plain::count_distinct
decreases-call_plain::count_distinct l = 64 * l.below + 62

abbrev pub decreases-call_plain::plain : goal.decreases-call_plain::plain
decreases-call_plain::plain l = 64 * l.below + 66

abbrev pub decreases-call_plain::one_or_more : goal.decreases-call_plain::one_or_more
decreases-call_plain::one_or_more l = 64 * l.below + 65

abbrev pub decreases-call_plain::many : goal.decreases-call_plain::many
decreases-call_plain::many l = 64 * l.below + 64

abbrev pub decreases-arguments::more_args : goal.decreases-arguments::more_args
decreases-arguments::more_args l = 64 * l.below + 63

abbrev pub decreases-arguments::more_ors : goal.decreases-arguments::more_ors
decreases-arguments::more_ors l = 64 * l.below + 62

abbrev pub decreases-arguments::push_or : goal.decreases-arguments::push_or
decreases-arguments::push_or l = 64 * l.below + 61

abbrev pub invariant-arguments::more_ors-loop-behind :
    goal.invariant-arguments::more_ors-loop-behind
invariant-arguments::more_ors-loop-behind l =
    IsArguing l.below l.fn.place.tokens.now l.place.tokens.now l.fn.list l.list

abbrev pub decreases-arguments::more_ors-loop-behind :
    goal.decreases-arguments::more_ors-loop-behind
decreases-arguments::more_ors-loop-behind l = length l.place.tokens.now

abbrev pub decreases-call_cast::cast : goal.decreases-call_cast::cast
decreases-call_cast::cast l = 64 * l.below + 62

abbrev pub decreases-call_trim::trim : goal.decreases-call_trim::trim
decreases-call_trim::trim l = 64 * l.below + 69

abbrev pub decreases-call_trim::trim_side : goal.decreases-call_trim::trim_side
decreases-call_trim::trim_side l = 64 * l.below + 66

abbrev pub decreases-call_trim::trim_or : goal.decreases-call_trim::trim_or
decreases-call_trim::trim_or l = 64 * l.below + 68

abbrev pub decreases-call_trim::trim_from : goal.decreases-call_trim::trim_from
decreases-call_trim::trim_from l = 64 * l.below + 67

abbrev pub decreases-call_trim::from_text : goal.decreases-call_trim::from_text
decreases-call_trim::from_text l = 64 * l.below + 62

abbrev pub decreases-call_trim::or_option : goal.decreases-call_trim::or_option
decreases-call_trim::or_option l = 64 * l.below + 62

abbrev pub decreases-call_substring::substring : goal.decreases-call_substring::substring
decreases-call_substring::substring l = 64 * l.below + 69

abbrev pub decreases-call_substring::substring_or : goal.decreases-call_substring::substring_or
decreases-call_substring::substring_or l = 64 * l.below + 68

abbrev pub decreases-call_substring::substring_from : goal.decreases-call_substring::substring_from
decreases-call_substring::substring_from l = 64 * l.below + 67

abbrev pub decreases-call_substring::length : goal.decreases-call_substring::length
decreases-call_substring::length l = 64 * l.below + 66

abbrev pub decreases-call_substring::length_option : goal.decreases-call_substring::length_option
decreases-call_substring::length_option l = 64 * l.below + 62

abbrev pub decreases-call_weight::weight_string : goal.decreases-call_weight::weight_string
decreases-call_weight::weight_string l = 64 * l.below + 66

abbrev pub decreases-call_weight::cut_or_many : goal.decreases-call_weight::cut_or_many
decreases-call_weight::cut_or_many l = 64 * l.below + 65

abbrev pub decreases-primary::in_parens : goal.decreases-primary::in_parens
decreases-primary::in_parens l = 64 * l.below + 62
