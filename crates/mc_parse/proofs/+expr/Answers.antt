use Rattle.std.proofs.Common.{◌-◌, refl, sym, ap, ◌∙◌, [], ◌∷◌, ◌++◌, subst, arith, rules, ◌≡◌, suc}
use Rattle.std.specs.Prelude.{codes}
use Rattle.std.proofs.lemmas.Grind.{common_steps}
use Rattle.mc_ast.specs.Grouping.{whole}
use Rattle.mc_parse.specs.Language.{behind, behind_at}
use Rattle.mc_ast.specs.Spans.{from_to}
use Rattle.mc_parse.specs.Place.{span_at}
use Rattle.mc_parse.specs.Read.{as_operand, IsFault, IsOperand}
use Rattle.mc_parse.proofs.Ways.{link_shorter, begun}
use Rattle.mc_parse.proofs.Folds.{folds_none}
use Rattle.mc_parse.proofs.Listing.{lists_none, joins}
use Rattle.mc_parse.proofs.OperatorWays.{coll_read, coll_first_missed, coll_more_missed}
use Rattle.mc_parse.proofs.OperatorWays.{neg_coll_read, neg_coll_missed, minus_read, minus_missed}
use Rattle.mc_parse.proofs.OperatorWays.{minus_deep, factor_read, factors_read, factor_missed}
use Rattle.mc_parse.proofs.OperatorWays.{factor_shorter, prod_read, prod_first_missed}
use Rattle.mc_parse.proofs.OperatorWays.{prod_more_missed, summand_read, summands_read}
use Rattle.mc_parse.proofs.OperatorWays.{summand_missed, summand_shorter, sum_read}
use Rattle.mc_parse.proofs.OperatorWays.{sum_first_missed, sum_more_missed}
use Rattle.mc_parse.proofs.TruthWays.{or_read, or_none, or_first_missed, or_more_missed, or_link}
use Rattle.mc_parse.proofs.TruthWays.{or_listed, or_link_missed, and_read, and_none}
use Rattle.mc_parse.proofs.TruthWays.{and_first_missed, and_more_missed, and_link, and_listed}
use Rattle.mc_parse.proofs.TruthWays.{and_link_missed, xor_read, xor_none, xor_first_missed}
use Rattle.mc_parse.proofs.TruthWays.{xor_more_missed, xor_link, xors_read, xor_link_missed}
use Rattle.mc_parse.proofs.TruthWays.{not_pred_read, not_pred_missed, not_read, not_missed}
use Rattle.mc_parse.proofs.TruthWays.{not_deep}
use Rattle.mc_parse.proofs.SaidWays.{sum_missed, comparing, compared_read, compared_missed, testing}
use Rattle.mc_parse.proofs.SaidWays.{matching, not_matching, listing, not_listing, ranging}
use Rattle.mc_parse.proofs.SaidWays.{not_ranging, just_read, denied_missed, said_missing}
use Rattle.mc_parse.proofs.MatchingWays.{matched_read, matched_missed, ranged_read}
use Rattle.mc_parse.proofs.MatchingWays.{ranged_first_missed, ranged_and_missed, ranged_last_missed}
use Rattle.mc_parse.proofs.MatchingWays.{listed_read, listed_missed, listed_deep}
use Rattle.mc_parse.proofs.MatchingWays.{listed_paren_missed}
use Rattle.mc_parse.proofs.MemberWays.{members_read, members_first_missed, members_more_missed}
use Rattle.mc_parse.proofs.MemberWays.{members_close_missed}
use Rattle.mc_parse.specs.Calls.{IsCallFault, IsCallRead}
use Rattle.mc_parse.proofs.CallSteps.{call_found}
use Rattle.mc_parse.proofs.CallWays.{call_missed, call_unopened, call_deep, call_again, call_fails}
use Rattle.mc_parse.proofs.CallWays.{opened_convert, opened_count, opened_other, convert_operand}
use Rattle.mc_parse.proofs.CallWays.{convert_missed, star_read, star_unclosed, distinct_next}
use Rattle.mc_parse.proofs.CallWays.{count_plain, distinct_read, distinct_missed, distinct_unclosed}
use Rattle.mc_parse.proofs.CallWays.{empty_read, first_missed, first_read, single_read, not_single}
use Rattle.mc_parse.proofs.CallWays.{opened_cast, opened_trim, opened_substring}
use Rattle.mc_parse.proofs.CallWays.{opened_weight_string}
use Rattle.mc_parse.proofs.ArgumentWays.{ors_none, ors_link, ors_shorter, ors_missed, ors_all}
use Rattle.mc_parse.proofs.ArgumentWays.{or_pushed, comma_missed as argument_comma_missed}
use Rattle.mc_parse.proofs.ArgumentWays.{second_missed, others_missed, args_unclosed, args_read}
use Rattle.mc_parse.proofs.CastWays.{cast_operand, cast_missed}
use Rattle.mc_parse.proofs.TrimWays.{side_read, no_or_read, given_or_read, given_or_missed}
use Rattle.mc_parse.proofs.TrimWays.{removed_read, removed_missed, side_from_missed}
use Rattle.mc_parse.proofs.TrimWays.{side_text_missed, side_text_read, side_text_unclosed}
use Rattle.mc_parse.proofs.TrimWays.{both_from_missed, both_text_missed, both_text_read}
use Rattle.mc_parse.proofs.TrimWays.{both_text_unclosed, trim_empty, trim_operand}
use Rattle.mc_parse.proofs.TrimWays.{trim_first_missed, trim_from_next, trim_plain}
use Rattle.mc_parse.proofs.SubstringWays.{no_length_read, length_read, length_missed, part_read}
use Rattle.mc_parse.proofs.SubstringWays.{part_unclosed, part_missed, start_missed, start_read}
use Rattle.mc_parse.proofs.SubstringWays.{substring_empty, substring_operand}
use Rattle.mc_parse.proofs.SubstringWays.{substring_first_missed, substring_from_next}
use Rattle.mc_parse.proofs.SubstringWays.{substring_plain}
use Rattle.mc_parse.proofs.WeightWays.{weight_empty, weight_missed, weight_operand, weight_many}
use Rattle.mc_parse.proofs.WeightWays.{weight_alone}
use Rattle.mc_parse.proofs.PrimWays.{call_read, call_missed as prim_call_missed}
use Rattle.mc_parse.proofs.ColumnWays.{paren_read, inner_missed, close_missed, paren_deep}
use Rattle.mc_ast.specs.declared.expr.Form.TheVariants as form
use Rattle.mc_sql.specs.Classes as class
use Rattle.mc_sql.specs.Rules as rule
use Rattle.mc_parse.proofs.+expr.Goals as goal

pub operators::coll-returns-in-Ok-more_collates-clause-ok :
    goal.operators::coll-returns-in-Ok-more_collates-clause-ok
operators::coll-returns-in-Ok-more_collates-clause-ok t c =
    coll_read _ _ _ _ _ _ c.in-Ok.ensures.ok (c.in-Ok-more_collates.ensures.ok c.args.below)

pub operators::coll-returns-in-Err-more_collates-clause-err :
    goal.operators::coll-returns-in-Err-more_collates-clause-err
operators::coll-returns-in-Err-more_collates-clause-err t c =
    coll_more_missed _ _ _ _ _ c.in-Ok.ensures.ok (c.in-Err-more_collates.ensures.err c.args.below)

pub operators::coll-returns-in-Err-clause-err : goal.operators::coll-returns-in-Err-clause-err
operators::coll-returns-in-Err-clause-err t c =
    coll_first_missed _ _ _ c.in-Err.ensures.err

pub operators::neg-returns-then-below-eq0-clause-err :
    goal.operators::neg-returns-then-below-eq0-clause-err
operators::neg-returns-then-below-eq0-clause-err t c =
    minus_deep _ _ _ _ (omega arith) c.in-Some.ensures c.left.ensures

pub operators::neg-returns-in_ok-negative-in-Ok-clause-ok :
    goal.operators::neg-returns-in_ok-negative-in-Ok-clause-ok
operators::neg-returns-in_ok-negative-in-Ok-clause-ok t c =
    minus_read _ (c.args.below - 1) _ _ _ _ _ _ (omega arith) c.in-Some.ensures c.span.ensures
    c.in-Ok.ensures.ok c.in_ok-negative-in-Ok.ensures

pub operators::neg-returns-in-Err-clause-err : goal.operators::neg-returns-in-Err-clause-err
operators::neg-returns-in-Err-clause-err t c =
    minus_missed _ (c.args.below - 1) _ _ _ (omega arith) c.in-Some.ensures c.in-Err.ensures.err

pub operators::neg-returns-in-Ok-coll-clause-ok : goal.operators::neg-returns-in-Ok-coll-clause-ok
operators::neg-returns-in-Ok-coll-clause-ok t c =
    neg_coll_read _ _ _ _ c.in-None.ensures c.in-Ok-coll.ensures.ok

pub operators::neg-returns-in-Err-coll-clause-err :
    goal.operators::neg-returns-in-Err-coll-clause-err
operators::neg-returns-in-Err-coll-clause-err t c =
    neg_coll_missed _ _ _ c.in-None.ensures c.in-Err-coll.ensures.err

pub operators::more_negs-loop-op-init : goal.operators::more_negs-loop-op-init
operators::more_negs-loop-op-init t c =
    folds_none refl

pub operators::more_negs-loop-op-smaller : goal.operators::more_negs-loop-op-smaller
operators::more_negs-loop-op-smaller t c =
    factor_shorter _ c.in-Some.ensures c.in-Ok.ensures.ok

pub operators::more_negs-loop-op-preserved : goal.operators::more_negs-loop-op-preserved
operators::more_negs-loop-op-preserved t c =
    factor_read _ _ _ _ _ _ _ _ _ _ c.loop-op.invariant c.in-Some.ensures c.in-Ok.ensures.ok
    c.in_ok-operand-in-Ok.ensures

pub operators::more_negs-returns-in-Err-clause-err :
    goal.operators::more_negs-returns-in-Err-clause-err
operators::more_negs-returns-in-Err-clause-err t c =
    subst (λ f. IsFault (behind rule.more_negs) rule.more_negs c.args.below c.args.place.tokens.now
    f)
    (sym c.instead.ensures)
    (factor_missed _ _ _ _ _ _ _ _ c.loop-op.invariant c.in-Some.ensures c.in-Err.ensures.err)

pub operators::more_negs-returns-clause-ok : goal.operators::more_negs-returns-clause-ok
operators::more_negs-returns-clause-ok t c =
    factors_read _ _ _ _ _ c.loop-op.invariant c.in_default.ensures

pub operators::more_prods-loop-op-init : goal.operators::more_prods-loop-op-init
operators::more_prods-loop-op-init t c =
    folds_none refl

pub operators::more_prods-loop-op-smaller : goal.operators::more_prods-loop-op-smaller
operators::more_prods-loop-op-smaller t c =
    summand_shorter _ c.in-Some.ensures c.in-Ok.ensures.ok

pub operators::more_prods-loop-op-preserved : goal.operators::more_prods-loop-op-preserved
operators::more_prods-loop-op-preserved t c =
    summand_read _ _ _ _ _ _ _ _ _ _ c.loop-op.invariant c.in-Some.ensures c.in-Ok.ensures.ok
    c.in_ok-operand-in-Ok.ensures

pub operators::more_prods-returns-in-Err-clause-err :
    goal.operators::more_prods-returns-in-Err-clause-err
operators::more_prods-returns-in-Err-clause-err t c =
    subst (λ f. IsFault (behind rule.more_prods) rule.more_prods c.args.below
    c.args.place.tokens.now f)
    (sym c.instead.ensures)
    (summand_missed _ _ _ _ _ _ _ _ c.loop-op.invariant c.in-Some.ensures c.in-Err.ensures.err)

pub operators::more_prods-returns-clause-ok : goal.operators::more_prods-returns-clause-ok
operators::more_prods-returns-clause-ok t c =
    summands_read _ _ _ _ _ c.loop-op.invariant c.in_default.ensures

pub operators::prod-returns-in-Ok-more_negs-clause-ok :
    goal.operators::prod-returns-in-Ok-more_negs-clause-ok
operators::prod-returns-in-Ok-more_negs-clause-ok t c =
    prod_read _ _ _ _ _ _ c.in-Ok.ensures.ok c.in-Ok-more_negs.ensures.ok

pub operators::prod-returns-in-Err-more_negs-clause-err :
    goal.operators::prod-returns-in-Err-more_negs-clause-err
operators::prod-returns-in-Err-more_negs-clause-err t c =
    prod_more_missed _ _ _ _ _ c.in-Ok.ensures.ok c.in-Err-more_negs.ensures.err

pub operators::prod-returns-in-Err-clause-err : goal.operators::prod-returns-in-Err-clause-err
operators::prod-returns-in-Err-clause-err t c =
    prod_first_missed _ _ _ c.in-Err.ensures.err

pub operators::sum-returns-in-Ok-more_prods-clause-ok :
    goal.operators::sum-returns-in-Ok-more_prods-clause-ok
operators::sum-returns-in-Ok-more_prods-clause-ok t c =
    sum_read _ _ _ _ _ _ c.in-Ok.ensures.ok c.in-Ok-more_prods.ensures.ok

pub operators::sum-returns-in-Err-more_prods-clause-err :
    goal.operators::sum-returns-in-Err-more_prods-clause-err
operators::sum-returns-in-Err-more_prods-clause-err t c =
    sum_more_missed _ _ _ _ _ c.in-Ok.ensures.ok c.in-Err-more_prods.ensures.err

pub operators::sum-returns-in-Err-clause-err : goal.operators::sum-returns-in-Err-clause-err
operators::sum-returns-in-Err-clause-err t c =
    sum_first_missed _ _ _ c.in-Err.ensures.err

pub predicate::or-any_of-requires : goal.predicate::or-any_of-requires
predicate::or-any_of-requires t c =
    (omega arith, begun (class.word (codes "or")) c.in-Some.ensures refl)

pub predicate::or-returns-in-Ok-any_of-clause-ok : goal.predicate::or-returns-in-Ok-any_of-clause-ok
predicate::or-returns-in-Ok-any_of-clause-ok t c =
    or_read _ _ _ _ _ _ _ c.in-Ok.ensures.ok c.in-Ok-any_of.ensures.ok

pub predicate::or-returns-in-Err-any_of-clause-err :
    goal.predicate::or-returns-in-Err-any_of-clause-err
predicate::or-returns-in-Err-any_of-clause-err t c =
    or_more_missed _ _ _ _ _ _ _ c.in-Ok.ensures.ok c.in-Some.ensures c.in-Err-any_of.ensures.err

pub predicate::or-returns-in-None-clause-ok : goal.predicate::or-returns-in-None-clause-ok
predicate::or-returns-in-None-clause-ok t c =
    or_read _ _ _ _ _ _ _ c.in-Ok.ensures.ok (or_none _ _ _ _ c.in-None.ensures)

pub predicate::or-returns-in-Err-clause-err : goal.predicate::or-returns-in-Err-clause-err
predicate::or-returns-in-Err-clause-err t c =
    or_first_missed _ _ _ _ c.in-Err.ensures.err

pub predicate::any_of-returns-in-Ok-clause-ok : goal.predicate::any_of-returns-in-Ok-clause-ok
predicate::any_of-returns-in-Ok-clause-ok t c =
    joins (λ all. form.Or all) (class.word (codes "or"))
    (as_operand c.args.first) _ c.in-Ok.ensures.ok
    (first_of (search rules, grind (arith, common_steps))) c.requires c.in-Ok.ensures.ended
    c.whole.ensures

pub predicate::push_xors-loop-behind-init : goal.predicate::push_xors-loop-behind-init
predicate::push_xors-loop-behind-init t c =
    lists_none

pub predicate::push_xors-loop-behind-smaller : goal.predicate::push_xors-loop-behind-smaller
predicate::push_xors-loop-behind-smaller t c =
    link_shorter c.in-Some.ensures c.in-Ok.ensures.ok

pub predicate::push_xors-loop-behind-preserved : goal.predicate::push_xors-loop-behind-preserved
predicate::push_xors-loop-behind-preserved t c =
    or_link _ _ _ _ _ _ _ _ _ _ _ _ _ c.loop-behind.invariant c.in-Some.ensures c.in-Ok.ensures.ok
    c.in_ok-push-in-Ok.ensures.ok c.from_to-extent.ensures

pub predicate::push_xors-returns-in-Err-clause-err :
    goal.predicate::push_xors-returns-in-Err-clause-err
predicate::push_xors-returns-in-Err-clause-err t c =
    or_link_missed _ _ _ _ _ _ _ _ _ _ c.loop-behind.invariant c.in-Some.ensures
    c.in-Err.ensures.err

pub predicate::push_xors-returns-clause-ok : goal.predicate::push_xors-returns-clause-ok
predicate::push_xors-returns-clause-ok t c =
    or_listed _ _ _ _ _ _ _ _ c.loop-behind.invariant c.in_default.ensures

pub predicate::push_xors-returns-clause-ended : goal.predicate::push_xors-returns-clause-ended
predicate::push_xors-returns-clause-ended t c =
    c.in_default.ensures

pub predicate::and-all_of-requires : goal.predicate::and-all_of-requires
predicate::and-all_of-requires t c =
    (omega arith, begun (class.word (codes "and")) c.in-Some.ensures refl)

pub predicate::and-returns-in-Ok-all_of-clause-ok :
    goal.predicate::and-returns-in-Ok-all_of-clause-ok
predicate::and-returns-in-Ok-all_of-clause-ok t c =
    and_read _ _ _ _ _ _ _ c.in-Ok.ensures.ok c.in-Ok-all_of.ensures.ok

pub predicate::and-returns-in-Err-all_of-clause-err :
    goal.predicate::and-returns-in-Err-all_of-clause-err
predicate::and-returns-in-Err-all_of-clause-err t c =
    and_more_missed _ _ _ _ _ _ _ c.in-Ok.ensures.ok c.in-Some.ensures c.in-Err-all_of.ensures.err

pub predicate::and-returns-in-None-clause-ok : goal.predicate::and-returns-in-None-clause-ok
predicate::and-returns-in-None-clause-ok t c =
    and_read _ _ _ _ _ _ _ c.in-Ok.ensures.ok (and_none _ _ _ _ c.in-None.ensures)

pub predicate::and-returns-in-Err-clause-err : goal.predicate::and-returns-in-Err-clause-err
predicate::and-returns-in-Err-clause-err t c =
    and_first_missed _ _ _ _ c.in-Err.ensures.err

pub predicate::all_of-returns-in-Ok-clause-ok : goal.predicate::all_of-returns-in-Ok-clause-ok
predicate::all_of-returns-in-Ok-clause-ok t c =
    joins (λ all. form.And all) (class.word (codes "and"))
    (as_operand c.args.first) _ c.in-Ok.ensures.ok
    (first_of (search rules, grind (arith, common_steps))) c.requires c.in-Ok.ensures.ended
    c.whole.ensures

pub predicate::push_nots-loop-behind-init : goal.predicate::push_nots-loop-behind-init
predicate::push_nots-loop-behind-init t c =
    lists_none

pub predicate::push_nots-loop-behind-smaller : goal.predicate::push_nots-loop-behind-smaller
predicate::push_nots-loop-behind-smaller t c =
    link_shorter c.in-Some.ensures c.in-Ok.ensures.ok

pub predicate::push_nots-loop-behind-preserved : goal.predicate::push_nots-loop-behind-preserved
predicate::push_nots-loop-behind-preserved t c =
    and_link _ _ _ _ _ _ _ _ _ _ _ _ _ c.loop-behind.invariant c.in-Some.ensures c.in-Ok.ensures.ok
    c.in_ok-push-in-Ok.ensures.ok c.from_to-extent.ensures

pub predicate::push_nots-returns-in-Err-clause-err :
    goal.predicate::push_nots-returns-in-Err-clause-err
predicate::push_nots-returns-in-Err-clause-err t c =
    and_link_missed _ _ _ _ _ _ _ _ _ _ c.loop-behind.invariant c.in-Some.ensures
    c.in-Err.ensures.err

pub predicate::push_nots-returns-clause-ok : goal.predicate::push_nots-returns-clause-ok
predicate::push_nots-returns-clause-ok t c =
    and_listed _ _ _ _ _ _ _ _ c.loop-behind.invariant c.in_default.ensures

pub predicate::push_nots-returns-clause-ended : goal.predicate::push_nots-returns-clause-ended
predicate::push_nots-returns-clause-ended t c =
    c.in_default.ensures

pub predicate::xor-returns-in-Ok-more_ands-clause-ok :
    goal.predicate::xor-returns-in-Ok-more_ands-clause-ok
predicate::xor-returns-in-Ok-more_ands-clause-ok t c =
    xor_read _ _ _ _ _ _ _ c.in-Ok.ensures.ok c.in-Ok-more_ands.ensures.ok

pub predicate::xor-returns-in-Err-more_ands-clause-err :
    goal.predicate::xor-returns-in-Err-more_ands-clause-err
predicate::xor-returns-in-Err-more_ands-clause-err t c =
    xor_more_missed _ _ _ _ _ _ _ c.in-Ok.ensures.ok c.in-Some.ensures
    c.in-Err-more_ands.ensures.err

pub predicate::xor-returns-in-None-clause-ok : goal.predicate::xor-returns-in-None-clause-ok
predicate::xor-returns-in-None-clause-ok t c =
    xor_read _ _ _ _ _ _ _ c.in-Ok.ensures.ok (xor_none _ _ _ _ c.in-None.ensures)

pub predicate::xor-returns-in-Err-clause-err : goal.predicate::xor-returns-in-Err-clause-err
predicate::xor-returns-in-Err-clause-err t c =
    xor_first_missed _ _ _ _ c.in-Err.ensures.err

pub predicate::more_ands-loop-behind-init : goal.predicate::more_ands-loop-behind-init
predicate::more_ands-loop-behind-init t c =
    folds_none refl

pub predicate::more_ands-loop-behind-smaller : goal.predicate::more_ands-loop-behind-smaller
predicate::more_ands-loop-behind-smaller t c =
    link_shorter c.in-Some.ensures c.in-Ok.ensures.ok

pub predicate::more_ands-loop-behind-preserved : goal.predicate::more_ands-loop-behind-preserved
predicate::more_ands-loop-behind-preserved t c =
    xor_link _ _ _ _ _ _ _ _ _ _ c.loop-behind.invariant c.in-Some.ensures c.in-Ok.ensures.ok
    c.in_ok-operand-in-Ok.ensures

pub predicate::more_ands-returns-in-Err-clause-err :
    goal.predicate::more_ands-returns-in-Err-clause-err
predicate::more_ands-returns-in-Err-clause-err t c =
    subst (λ f. IsFault (behind_at c.args.alias rule.more_ands) rule.more_ands c.args.below
    c.args.place.tokens.now f)
    (sym c.instead.ensures)
    (xor_link_missed _ _ _ _ _ _ _ _ c.loop-behind.invariant c.in-Some.ensures c.in-Err.ensures.err)

pub predicate::more_ands-returns-clause-ok : goal.predicate::more_ands-returns-clause-ok
predicate::more_ands-returns-clause-ok t c =
    xors_read _ _ _ _ _ _ c.loop-behind.invariant c.in_default.ensures

pub predicate::not-returns-then-below-eq0-clause-err :
    goal.predicate::not-returns-then-below-eq0-clause-err
predicate::not-returns-then-below-eq0-clause-err t c =
    not_deep _ _ _ _ _ (omega arith) c.in-Some.ensures c.left.ensures

pub predicate::not-returns-in_ok-opposite-in-Ok-clause-ok :
    goal.predicate::not-returns-in_ok-opposite-in-Ok-clause-ok
predicate::not-returns-in_ok-opposite-in-Ok-clause-ok t c =
    not_read _ _ (c.args.below - 1) _ _ _ _ _ _ (omega arith) c.in-Some.ensures c.span.ensures
    c.in-Ok.ensures.ok c.in_ok-opposite-in-Ok.ensures

pub predicate::not-returns-in-Err-clause-err : goal.predicate::not-returns-in-Err-clause-err
predicate::not-returns-in-Err-clause-err t c =
    not_missed _ _ (c.args.below - 1) _ _ _ (omega arith) c.in-Some.ensures c.in-Err.ensures.err

pub predicate::not-returns-in-Ok-pred-clause-ok : goal.predicate::not-returns-in-Ok-pred-clause-ok
predicate::not-returns-in-Ok-pred-clause-ok t c =
    not_pred_read _ _ _ _ _ c.in-None.ensures c.in-Ok-pred.ensures.ok

pub predicate::not-returns-in-Err-pred-clause-err :
    goal.predicate::not-returns-in-Err-pred-clause-err
predicate::not-returns-in-Err-pred-clause-err t c =
    not_pred_missed _ _ _ _ c.in-None.ensures c.in-Err-pred.ensures.err

pub comparison::pred-sum-requires : goal.comparison::pred-sum-requires
comparison::pred-sum-requires t c =
    (omega arith, tt)

pub comparison::pred-said-requires : goal.comparison::pred-said-requires
comparison::pred-said-requires t c =
    (omega arith, tt)

pub comparison::pred-returns-in-Ok-said-clause-ok :
    goal.comparison::pred-returns-in-Ok-said-clause-ok
comparison::pred-returns-in-Ok-said-clause-ok t c =
    c.in-Ok-said.ensures.ok _ c.in-Ok.ensures.ok

pub comparison::pred-returns-in-Err-said-clause-err :
    goal.comparison::pred-returns-in-Err-said-clause-err
comparison::pred-returns-in-Err-said-clause-err t c =
    c.in-Err-said.ensures.err _ c.in-Ok.ensures.ok

pub comparison::pred-returns-in-Err-clause-err : goal.comparison::pred-returns-in-Err-clause-err
comparison::pred-returns-in-Err-clause-err t c =
    sum_missed _ _ _ _ c.in-Err.ensures.err

pub comparison::said-compared-requires : goal.comparison::said-compared-requires
comparison::said-compared-requires t c =
    (omega arith, tt)

pub comparison::said-denied-requires : goal.comparison::said-denied-requires
comparison::said-denied-requires t c =
    (omega arith, tt)

pub comparison::said-affirmed-requires : goal.comparison::said-affirmed-requires
comparison::said-affirmed-requires t c = (
  omega arith,
  said_missing _ c.in-None.ensures c.in-None-keyword.ensures
      c.in-None-keyword-2.ensures,
)

pub comparison::said-returns-in-Ok-clause-ok : goal.comparison::said-returns-in-Ok-clause-ok
comparison::said-returns-in-Ok-clause-ok t c tokens o =
    c.in-Ok.ensures.ok tokens (comparing _ _ _ _ _ _ _ o c.in-Some.ensures)

pub comparison::said-returns-in-Err-clause-err : goal.comparison::said-returns-in-Err-clause-err
comparison::said-returns-in-Err-clause-err t c tokens o =
    c.in-Err.ensures.err tokens (comparing _ _ _ _ _ _ _ o c.in-Some.ensures)

pub comparison::said-returns-in-Ok-tested-clause-ok :
    goal.comparison::said-returns-in-Ok-tested-clause-ok
comparison::said-returns-in-Ok-tested-clause-ok t c tokens o =
    c.in-Ok-tested.ensures.ok c.args.alias c.args.below tokens
    (testing _ _ _ _ _ _ o c.in-Some-keyword.ensures)

pub comparison::said-returns-in-Err-tested-clause-err :
    goal.comparison::said-returns-in-Err-tested-clause-err
comparison::said-returns-in-Err-tested-clause-err t c tokens o =
    c.in-Err-tested.ensures.err c.args.alias c.args.below tokens
    (testing _ _ _ _ _ _ o c.in-Some-keyword.ensures)

pub comparison::said-returns-in-Ok-denied-clause-ok :
    goal.comparison::said-returns-in-Ok-denied-clause-ok
comparison::said-returns-in-Ok-denied-clause-ok t c tokens o =
    c.in-Ok-denied.ensures.ok tokens _ o c.in-Some-keyword-2.ensures

pub comparison::said-returns-in-Err-denied-clause-err :
    goal.comparison::said-returns-in-Err-denied-clause-err
comparison::said-returns-in-Err-denied-clause-err t c tokens o =
    c.in-Err-denied.ensures.err tokens _ o c.in-Some-keyword-2.ensures

pub comparison::said-returns-in-Ok-affirmed-clause-ok :
    goal.comparison::said-returns-in-Ok-affirmed-clause-ok
comparison::said-returns-in-Ok-affirmed-clause-ok t c tokens o =
    c.in-Ok-affirmed.ensures.ok tokens o

pub comparison::said-returns-in-Err-affirmed-clause-err :
    goal.comparison::said-returns-in-Err-affirmed-clause-err
comparison::said-returns-in-Err-affirmed-clause-err t c tokens o =
    c.in-Err-affirmed.ensures.err tokens o

pub comparison::compared-sum-requires : goal.comparison::compared-sum-requires
comparison::compared-sum-requires t c =
    (omega arith, tt)

pub comparison::compared-returns-in_ok-compare-in-Ok-clause-ok :
    goal.comparison::compared-returns-in_ok-compare-in-Ok-clause-ok
comparison::compared-returns-in_ok-compare-in-Ok-clause-ok t c tokens p =
    compared_read _ _ _ _ _ _ _ _ _ p c.in-Ok.ensures.ok c.in_ok-compare-in-Ok.ensures

pub comparison::compared-returns-in-Err-clause-err :
    goal.comparison::compared-returns-in-Err-clause-err
comparison::compared-returns-in-Err-clause-err t c tokens p =
    subst (λ f. IsFault (behind_at c.args.alias rule.pred) rule.pred c.args.below tokens f)
    (sym c.instead.ensures) (compared_missed _ _ _ _ _ _ _ p c.in-Err.ensures.err)

pub comparison::denied-matched-requires : goal.comparison::denied-matched-requires
comparison::denied-matched-requires t c =
    (omega arith, tt)

pub comparison::denied-listed-requires : goal.comparison::denied-listed-requires
comparison::denied-listed-requires t c =
    (omega arith, tt)

pub comparison::denied-ranged-requires : goal.comparison::denied-ranged-requires
comparison::denied-ranged-requires t c =
    (omega arith, tt)

pub comparison::denied-returns-in-Ok-clause-ok : goal.comparison::denied-returns-in-Ok-clause-ok
comparison::denied-returns-in-Ok-clause-ok t c tokens at_word o n =
    c.in-Ok.ensures.ok tokens (not_matching _ _ _ _ _ _ _ o n c.in-Some.ensures)

pub comparison::denied-returns-in-Err-clause-err : goal.comparison::denied-returns-in-Err-clause-err
comparison::denied-returns-in-Err-clause-err t c tokens at_word o n =
    c.in-Err.ensures.err tokens (not_matching _ _ _ _ _ _ _ o n c.in-Some.ensures)

pub comparison::denied-returns-in-Ok-listed-clause-ok :
    goal.comparison::denied-returns-in-Ok-listed-clause-ok
comparison::denied-returns-in-Ok-listed-clause-ok t c tokens at_word o n =
    c.in-Ok-listed.ensures.ok tokens (not_listing _ _ _ _ _ _ _ o n c.in-Some-keyword.ensures)

pub comparison::denied-returns-in-Err-listed-clause-err :
    goal.comparison::denied-returns-in-Err-listed-clause-err
comparison::denied-returns-in-Err-listed-clause-err t c tokens at_word o n =
    c.in-Err-listed.ensures.err tokens (not_listing _ _ _ _ _ _ _ o n c.in-Some-keyword.ensures)

pub comparison::denied-returns-in-Ok-ranged-clause-ok :
    goal.comparison::denied-returns-in-Ok-ranged-clause-ok
comparison::denied-returns-in-Ok-ranged-clause-ok t c tokens at_word o n =
    c.in-Ok-ranged.ensures.ok tokens (not_ranging _ _ _ _ _ _ _ o n c.in-Some-keyword-2.ensures)

pub comparison::denied-returns-in-Err-ranged-clause-err :
    goal.comparison::denied-returns-in-Err-ranged-clause-err
comparison::denied-returns-in-Err-ranged-clause-err t c tokens at_word o n =
    c.in-Err-ranged.ensures.err tokens (not_ranging _ _ _ _ _ _ _ o n c.in-Some-keyword-2.ensures)

pub comparison::affirmed-matched-requires : goal.comparison::affirmed-matched-requires
comparison::affirmed-matched-requires t c =
    (omega arith, tt)

pub comparison::affirmed-listed-requires : goal.comparison::affirmed-listed-requires
comparison::affirmed-listed-requires t c =
    (omega arith, tt)

pub comparison::affirmed-ranged-requires : goal.comparison::affirmed-ranged-requires
comparison::affirmed-ranged-requires t c =
    (omega arith, tt)

pub comparison::affirmed-returns-in-Ok-clause-ok : goal.comparison::affirmed-returns-in-Ok-clause-ok
comparison::affirmed-returns-in-Ok-clause-ok t c tokens o =
    c.in-Ok.ensures.ok tokens (matching _ _ _ _ _ _ o c.in-Some.ensures)

pub comparison::affirmed-returns-in-Err-clause-err :
    goal.comparison::affirmed-returns-in-Err-clause-err
comparison::affirmed-returns-in-Err-clause-err t c tokens o =
    c.in-Err.ensures.err tokens (matching _ _ _ _ _ _ o c.in-Some.ensures)

pub comparison::affirmed-returns-in-Ok-listed-clause-ok :
    goal.comparison::affirmed-returns-in-Ok-listed-clause-ok
comparison::affirmed-returns-in-Ok-listed-clause-ok t c tokens o =
    c.in-Ok-listed.ensures.ok tokens (listing _ _ _ _ _ _ o c.in-Some-keyword.ensures)

pub comparison::affirmed-returns-in-Err-listed-clause-err :
    goal.comparison::affirmed-returns-in-Err-listed-clause-err
comparison::affirmed-returns-in-Err-listed-clause-err t c tokens o =
    c.in-Err-listed.ensures.err tokens (listing _ _ _ _ _ _ o c.in-Some-keyword.ensures)

pub comparison::affirmed-returns-in-Ok-ranged-clause-ok :
    goal.comparison::affirmed-returns-in-Ok-ranged-clause-ok
comparison::affirmed-returns-in-Ok-ranged-clause-ok t c tokens o =
    c.in-Ok-ranged.ensures.ok tokens (ranging _ _ _ _ _ _ o c.in-Some-keyword-2.ensures)

pub comparison::affirmed-returns-in-Err-ranged-clause-err :
    goal.comparison::affirmed-returns-in-Err-ranged-clause-err
comparison::affirmed-returns-in-Err-ranged-clause-err t c tokens o =
    c.in-Err-ranged.ensures.err tokens (ranging _ _ _ _ _ _ o c.in-Some-keyword-2.ensures)

pub comparison::denied-returns-in-None-keyword-2-clause-err :
    goal.comparison::denied-returns-in-None-keyword-2-clause-err
comparison::denied-returns-in-None-keyword-2-clause-err t c tokens at_word o n =
    subst (λ f. IsFault (behind_at c.args.alias rule.pred) rule.pred c.args.below tokens f)
    (sym c.instead.ensures)
    (denied_missed _ _ _ _ _ _ _ o n c.in-None.ensures c.in-None-keyword.ensures
    c.in-None-keyword-2.ensures c.left.ensures)

pub comparison::affirmed-returns-in-None-keyword-2-clause-ok :
    goal.comparison::affirmed-returns-in-None-keyword-2-clause-ok
comparison::affirmed-returns-in-None-keyword-2-clause-ok t c tokens o =
    just_read _ _ _ _ _ o c.requires c.in-None.ensures c.in-None-keyword.ensures
    c.in-None-keyword-2.ensures

pub matching::matched-sum-requires : goal.matching::matched-sum-requires
matching::matched-sum-requires t c =
    (omega arith, tt)

pub matching::matched-returns-in-Ok-escaped-clause-ok :
    goal.matching::matched-returns-in-Ok-escaped-clause-ok
matching::matched-returns-in-Ok-escaped-clause-ok t c tokens p =
    c.in-Ok-escaped.ensures.ok c.args.below tokens
    (matched_read _ _ _ _ _ _ _ _ p c.in-Ok.ensures.ok)

pub matching::matched-returns-in-Err-escaped-clause-err :
    goal.matching::matched-returns-in-Err-escaped-clause-err
matching::matched-returns-in-Err-escaped-clause-err t c tokens p =
    c.in-Err-escaped.ensures.err c.args.below tokens
    (matched_read _ _ _ _ _ _ _ _ p c.in-Ok.ensures.ok)

pub matching::matched-returns-in-Err-clause-err : goal.matching::matched-returns-in-Err-clause-err
matching::matched-returns-in-Err-clause-err t c tokens p =
    subst (λ f. IsFault (behind_at c.args.alias rule.pred) rule.pred c.args.below tokens f)
    (sym c.instead.ensures) (matched_missed _ _ _ _ _ _ _ p c.in-Err.ensures.err)

pub matching::listed-members-requires : goal.matching::listed-members-requires
matching::listed-members-requires t c =
    (omega arith, tt)

pub matching::listed-overflow_sub-below : goal.matching::listed-overflow_sub-below
matching::listed-overflow_sub-below t c =
    omega arith

pub matching::listed-returns-then-below-eq0-clause-err :
    goal.matching::listed-returns-then-below-eq0-clause-err
matching::listed-returns-then-below-eq0-clause-err t c tokens p =
    subst (λ f. IsFault (behind_at c.args.alias rule.pred) rule.pred c.args.below tokens f)
    (sym c.instead.ensures)
    (listed_deep _ _ _ _ _ _ _ _ (omega arith) p c.in-Some.ensures c.left.ensures)

pub matching::listed-returns-in_ok-member-in-Ok-clause-ok :
    goal.matching::listed-returns-in_ok-member-in-Ok-clause-ok
matching::listed-returns-in_ok-member-in-Ok-clause-ok t c tokens p =
    listed_read _ _ (c.args.below - 1) _ _ _ _ _ _ _ _ _
    (omega arith) p c.in-Some.ensures c.in-Ok.ensures.ok c.in_ok-member-in-Ok.ensures

pub matching::listed-returns-in-Err-clause-err : goal.matching::listed-returns-in-Err-clause-err
matching::listed-returns-in-Err-clause-err t c tokens p =
    subst (λ f. IsFault (behind_at c.args.alias rule.pred) rule.pred c.args.below tokens f)
    (sym c.instead-in-Err.ensures)
    (listed_missed _ _ (c.args.below - 1) _ _ _ _ _ _
    (omega arith) p c.in-Some.ensures c.in-Err.ensures.err)

pub matching::listed-returns-in-None-clause-err : goal.matching::listed-returns-in-None-clause-err
matching::listed-returns-in-None-clause-err t c tokens p =
    subst (λ f. IsFault (behind_at c.args.alias rule.pred) rule.pred c.args.below tokens f)
    (sym c.instead-in-None.ensures)
    (listed_paren_missed _ _ _ _ _ _ _ p c.in-None.ensures c.left-in-None.ensures)

pub matching::ranged-sum-requires : goal.matching::ranged-sum-requires
matching::ranged-sum-requires t c =
    (omega arith, tt)

pub matching::ranged-sum-requires-in-Some : goal.matching::ranged-sum-requires-in-Some
matching::ranged-sum-requires-in-Some t c =
    (omega arith, tt)

pub matching::ranged-returns-in_ok-between-in-Ok-sum-clause-ok :
    goal.matching::ranged-returns-in_ok-between-in-Ok-sum-clause-ok
matching::ranged-returns-in_ok-between-in-Ok-sum-clause-ok t c tokens p =
    ranged_read _ _ _ _ _ _ _ _ _ _ _ _ p c.in-Ok.ensures.ok c.in-Some.ensures
    c.in-Ok-sum.ensures.ok c.in_ok-between-in-Ok-sum.ensures

pub matching::ranged-returns-in-Err-sum-clause-err :
    goal.matching::ranged-returns-in-Err-sum-clause-err
matching::ranged-returns-in-Err-sum-clause-err t c tokens p =
    subst (λ f. IsFault (behind_at c.args.alias rule.pred) rule.pred c.args.below tokens f)
    (sym c.instead_of_two.ensures)
    (ranged_last_missed _ _ _ _ _ _ _ _ _ _ p c.in-Ok.ensures.ok c.in-Some.ensures
    c.in-Err-sum.ensures.err)

pub matching::ranged-returns-in-None-clause-err : goal.matching::ranged-returns-in-None-clause-err
matching::ranged-returns-in-None-clause-err t c tokens p =
    subst (λ f. IsFault (behind_at c.args.alias rule.pred) rule.pred c.args.below tokens f)
    (sym c.instead_of_two-in-None.ensures)
    (ranged_and_missed _ _ _ _ _ _ _ _ _ p c.in-Ok.ensures.ok c.in-None.ensures c.left.ensures)

pub matching::ranged-returns-in-Err-clause-err : goal.matching::ranged-returns-in-Err-clause-err
matching::ranged-returns-in-Err-clause-err t c tokens p =
    subst (λ f. IsFault (behind_at c.args.alias rule.pred) rule.pred c.args.below tokens f)
    (sym c.instead.ensures) (ranged_first_missed _ _ _ _ _ _ _ p c.in-Err.ensures.err)

pub members::members-push_members-requires : goal.members::members-push_members-requires
members::members-push_members-requires t c =
    (omega arith, c.new-list.ensures)

pub members::members-returns-in-Ok-clause-ok : goal.members::members-returns-in-Ok-clause-ok
members::members-returns-in-Ok-clause-ok t c =
    c.in-Ok.ensures.ok

pub members::members-returns-clause-err : goal.members::members-returns-clause-err
members::members-returns-clause-err t c =
    c.in-Err.ensures.err

pub members::push_members-push_or-requires : goal.members::push_members-push_or-requires
members::push_members-push_or-requires t c =
    (omega arith, tt)

pub members::push_members-more_ors-requires : goal.members::push_members-more_ors-requires
members::push_members-more_ors-requires t c =
    (omega arith, tt)

pub members::push_members-returns-in-Some-clause-ok :
    goal.members::push_members-returns-in-Some-clause-ok
members::push_members-returns-in-Some-clause-ok t c =
    members_read c.in-Ok.ensures.ok c.in-Ok-more_ors.ensures.ok c.requires c.in-Some.ensures
    c.span.ensures

pub members::push_members-returns-in-None-clause-err :
    goal.members::push_members-returns-in-None-clause-err
members::push_members-returns-in-None-clause-err t c =
    members_close_missed c.in-Ok.ensures.ok c.in-Ok-more_ors.ensures.ok c.in-None.ensures
    c.left.ensures

pub members::push_members-returns-in-Err-more_ors-clause-err :
    goal.members::push_members-returns-in-Err-more_ors-clause-err
members::push_members-returns-in-Err-more_ors-clause-err t c =
    members_more_missed c.in-Ok.ensures.ok c.in-Err-more_ors.ensures.err

pub members::push_members-returns-in-Err-clause-err :
    goal.members::push_members-returns-in-Err-clause-err
members::push_members-returns-in-Err-clause-err t c =
    members_first_missed c.in-Err.ensures.err

pub call::call-returns-in_default-clause-err : goal.call::call-returns-in_default-clause-err
call::call-returns-in_default-clause-err t c =
    call_missed _ _ _ c.in_default.ensures.0 c.in_default.ensures.1 c.left.ensures

pub call::call-returns-in_default-mark-clause-err :
    goal.call::call-returns-in_default-mark-clause-err
call::call-returns-in_default-mark-clause-err t c =
    call_unopened _ _ _ _ _ _ c.in-Some.ensures c.in_default-mark.ensures
    c.left-in_default-mark.ensures

pub call::call-returns-then-below-eq0-clause-err : goal.call::call-returns-then-below-eq0-clause-err
call::call-returns-then-below-eq0-clause-err t c =
    call_deep _ _ _ _ _ _ _ (omega arith) c.in-Some.ensures c.in-Some-mark.ensures
    c.left-then-below-eq0.ensures

pub call::call-by_word-requires : goal.call::call-by_word-requires
call::call-by_word-requires t c = (
  omega arith,
  record {
    between = _;
    begins = c.in-Some.ensures;
    opens = c.in-Some-mark.ensures;
  },
)

pub call::call-returns-in-Ok-clause-ok : goal.call::call-returns-in-Ok-clause-ok
call::call-returns-in-Ok-clause-ok t c = call_again (omega arith) c.in-Ok.ensures.ok

pub call::call-returns-in-Err-clause-err : goal.call::call-returns-in-Err-clause-err
call::call-returns-in-Err-clause-err t c = call_fails (omega arith) c.in-Err.ensures.err

pub call::by_word-convert-requires : goal.call::by_word-convert-requires
call::by_word-convert-requires t c = (omega arith, opened_convert c.in-Convert.is c.requires)

pub call::by_word-count-requires : goal.call::by_word-count-requires
call::by_word-count-requires t c = (omega arith, opened_count c.in-Count.is c.requires)

pub call::by_word-plain-requires : goal.call::by_word-plain-requires
call::by_word-plain-requires t c = (omega arith, opened_other c.in-Other.is c.requires)

pub call_convert::convert-returns-in_ok-converted-in-Ok-using_set-clause-ok :
    goal.call_convert::convert-returns-in_ok-converted-in-Ok-using_set-clause-ok
call_convert::convert-returns-in_ok-converted-in-Ok-using_set-clause-ok t c =
    call_found _ (c.in-Ok-using_set.ensures.ok _ _ (convert_operand c.requires c.in-Ok.ensures.ok))
    c.in_ok-converted-in-Ok-using_set.ensures

pub call_convert::convert-returns-in-Err-using_set-clause-err :
    goal.call_convert::convert-returns-in-Err-using_set-clause-err
call_convert::convert-returns-in-Err-using_set-clause-err t c =
    subst (λ f. IsCallFault c.args.below c.args.word.tokens.now f) (sym c.instead.ensures)
    (c.in-Err-using_set.ensures.err _ _ (convert_operand c.requires c.in-Ok.ensures.ok))

pub call_convert::convert-returns-in-Err-clause-err :
    goal.call_convert::convert-returns-in-Err-clause-err
call_convert::convert-returns-in-Err-clause-err t c = convert_missed c.requires c.in-Err.ensures.err

pub call_plain::count_distinct-returns-in_ok-counted-in-Ok-closed-clause-ok :
    goal.call_plain::count_distinct-returns-in_ok-counted-in-Ok-closed-clause-ok
call_plain::count_distinct-returns-in_ok-counted-in-Ok-closed-clause-ok t c =
    call_found _ (distinct_read c.requires.before c.requires.distinct c.in-Ok.ensures.ok
    c.in-Ok-closed.ensures.ok) c.in_ok-counted-in-Ok-closed.ensures

pub call_plain::count_distinct-returns-in-Err-closed-clause-err :
    goal.call_plain::count_distinct-returns-in-Err-closed-clause-err
call_plain::count_distinct-returns-in-Err-closed-clause-err t c =
    subst (λ f. IsCallFault c.args.below c.args.word.tokens.now f) (sym c.instead.ensures)
    (distinct_unclosed c.requires.before c.requires.distinct c.in-Ok.ensures.ok
    c.in-Err-closed.ensures.err)

pub call_plain::count_distinct-returns-in-Err-clause-err :
    goal.call_plain::count_distinct-returns-in-Err-clause-err
call_plain::count_distinct-returns-in-Err-clause-err t c =
    distinct_missed c.requires.before c.requires.distinct c.in-Err.ensures.err

pub call_plain::count-returns-in-Ok-clause-ok : goal.call_plain::count-returns-in-Ok-clause-ok
call_plain::count-returns-in-Ok-clause-ok t c =
    call_found _ (star_read c.requires c.in-Some.ensures c.in-Ok.ensures.ok) c.whole.ensures

pub call_plain::count-returns-in-Err-clause-err : goal.call_plain::count-returns-in-Err-clause-err
call_plain::count-returns-in-Err-clause-err t c =
    star_unclosed c.requires c.in-Some.ensures c.in-Err.ensures.err

pub call_plain::count-count_distinct-requires : goal.call_plain::count-count_distinct-requires
call_plain::count-count_distinct-requires t c =
    (omega arith, (distinct_next c.requires c.in-Some-keyword.ensures, c.in-Some-keyword.ensures))

pub call_plain::count-plain-requires : goal.call_plain::count-plain-requires
call_plain::count-plain-requires t c =
    (omega arith, count_plain c.requires c.in_default.ensures c.in_default-keyword.ensures)

pub call_plain::plain-returns-in-Ok-clause-ok : goal.call_plain::plain-returns-in-Ok-clause-ok
call_plain::plain-returns-in-Ok-clause-ok t c =
    call_found _ (empty_read c.requires c.in-Ok.ensures.ok) c.in_ok-called_alone.ensures

pub call_plain::plain-one_or_more-requires : goal.call_plain::plain-one_or_more-requires
call_plain::plain-one_or_more-requires t c =
    (omega arith, first_read c.requires c.in_default.ensures.err c.in-Ok-or.ensures.ok)

pub call_plain::plain-returns-in-Err-clause-err : goal.call_plain::plain-returns-in-Err-clause-err
call_plain::plain-returns-in-Err-clause-err t c =
    first_missed c.requires c.in_default.ensures.err c.in-Err.ensures.err

pub call_plain::one_or_more-returns-in-Ok-clause-ok :
    goal.call_plain::one_or_more-returns-in-Ok-clause-ok
call_plain::one_or_more-returns-in-Ok-clause-ok t c =
    call_found _ (single_read c.requires c.in-Ok.ensures.ok) c.in_ok-called_with.ensures

pub call_plain::one_or_more-many-requires : goal.call_plain::one_or_more-many-requires
call_plain::one_or_more-many-requires t c =
    (omega arith, not_single c.requires c.in_default.ensures.err)

pub call_plain::many-returns-in-Ok-clause-ok : goal.call_plain::many-returns-in-Ok-clause-ok
call_plain::many-returns-in-Ok-clause-ok t c =
    call_found _ (c.in-Ok.ensures.ok _ _ (c.in_ok-push.ensures.ok
    ∙ ap (λ z. z ++ (c.args.first.expr ∷ [])) c.new-args.ensures) c.requires)
    (c.whole.ensures
    ∙ ap (λ z. whole c.in-Ok.span (form.Call z c.more_args.new.args)) c.in_ok-name-in-Ok.ensures)

pub call_plain::many-returns-clause-err : goal.call_plain::many-returns-clause-err
call_plain::many-returns-clause-err t c = c.in-Err.ensures.err _ _ c.requires

pub arguments::push_or-returns-in_ok-push-in-Ok-clause-ok :
    goal.arguments::push_or-returns-in_ok-push-in-Ok-clause-ok
arguments::push_or-returns-in_ok-push-in-Ok-clause-ok t c =
    or_pushed _ c.in-Ok.ensures.ok c.in_ok-push-in-Ok.ensures.ok

pub arguments::more_ors-loop-behind-init : goal.arguments::more_ors-loop-behind-init
arguments::more_ors-loop-behind-init t c = ors_none

pub arguments::more_ors-loop-behind-smaller : goal.arguments::more_ors-loop-behind-smaller
arguments::more_ors-loop-behind-smaller t c = ors_shorter c.in-Some.ensures c.in-Ok.ensures.ok

pub arguments::more_ors-loop-behind-preserved : goal.arguments::more_ors-loop-behind-preserved
arguments::more_ors-loop-behind-preserved t c =
    ors_link c.loop-behind.invariant c.in-Some.ensures c.in-Ok.ensures.ok

pub arguments::more_ors-returns-in-Err-clause-err :
    goal.arguments::more_ors-returns-in-Err-clause-err
arguments::more_ors-returns-in-Err-clause-err t c =
    ors_missed c.loop-behind.invariant c.in-Some.ensures c.in-Err.ensures.err

pub arguments::more_ors-returns-clause-ok : goal.arguments::more_ors-returns-clause-ok
arguments::more_ors-returns-clause-ok t c = ors_all c.loop-behind.invariant c.in_default.ensures

pub arguments::more_args-returns-in_default-clause-err :
    goal.arguments::more_args-returns-in_default-clause-err
arguments::more_args-returns-in_default-clause-err t c name x p =
    argument_comma_missed c.in_default.ensures c.left.ensures p

pub arguments::more_args-returns-in-Ok-closed-clause-ok :
    goal.arguments::more_args-returns-in-Ok-closed-clause-ok
arguments::more_args-returns-in-Ok-closed-clause-ok t c name x one p =
    args_read c.in-Some.ensures c.in-Ok.ensures.ok c.in-Ok-more_ors.ensures.ok
    c.in-Ok-closed.ensures.ok one p

pub arguments::more_args-returns-in-Err-closed-clause-err :
    goal.arguments::more_args-returns-in-Err-closed-clause-err
arguments::more_args-returns-in-Err-closed-clause-err t c name x p =
    args_unclosed c.in-Some.ensures c.in-Ok.ensures.ok c.in-Ok-more_ors.ensures.ok
    c.in-Err-closed.ensures.err p

pub arguments::more_args-returns-in-Err-more_ors-clause-err :
    goal.arguments::more_args-returns-in-Err-more_ors-clause-err
arguments::more_args-returns-in-Err-more_ors-clause-err t c name x p =
    others_missed c.in-Some.ensures c.in-Ok.ensures.ok c.in-Err-more_ors.ensures.err p

pub arguments::more_args-returns-in-Err-clause-err :
    goal.arguments::more_args-returns-in-Err-clause-err
arguments::more_args-returns-in-Err-clause-err t c name x p =
    second_missed c.in-Some.ensures c.in-Err.ensures.err p

pub call::by_word-cast-requires : goal.call::by_word-cast-requires
call::by_word-cast-requires t c = (omega arith, opened_cast c.in-Cast.is c.requires)

pub call_cast::cast-returns-in_ok-cast_as-in-Ok-cast_target-clause-ok :
    goal.call_cast::cast-returns-in_ok-cast_as-in-Ok-cast_target-clause-ok
call_cast::cast-returns-in_ok-cast_as-in-Ok-cast_target-clause-ok t c =
    call_found _ (c.in-Ok-cast_target.ensures.ok _ _ (cast_operand c.requires c.in-Ok.ensures.ok))
    c.in_ok-cast_as-in-Ok-cast_target.ensures

pub call_cast::cast-returns-in-Err-cast_target-clause-err :
    goal.call_cast::cast-returns-in-Err-cast_target-clause-err
call_cast::cast-returns-in-Err-cast_target-clause-err t c =
    subst (λ f. IsCallFault c.args.below c.args.word.tokens.now f) (sym c.instead.ensures)
    (c.in-Err-cast_target.ensures.err _ _ (cast_operand c.requires c.in-Ok.ensures.ok))

pub call_cast::cast-returns-in-Err-clause-err : goal.call_cast::cast-returns-in-Err-clause-err
call_cast::cast-returns-in-Err-clause-err t c = cast_missed c.requires c.in-Err.ensures.err

pub call::by_word-trim-requires : goal.call::by_word-trim-requires
call::by_word-trim-requires t c = (omega arith, opened_trim c.in-Trim.is c.requires)

pub call_trim::trim-trim_side-requires : goal.call_trim::trim-trim_side-requires
call_trim::trim-trim_side-requires t c =
    (omega arith, side_read _ c.requires c.in-Some.ensures)

pub call_trim::trim-returns-in-Ok-closed-clause-ok :
    goal.call_trim::trim-returns-in-Ok-closed-clause-ok
call_trim::trim-returns-in-Ok-closed-clause-ok t c =
    call_found _ (trim_empty c.requires c.in-Ok-closed.ensures.ok) c.in_ok-called_alone.ensures

pub call_trim::trim-trim_or-requires : goal.call_trim::trim-trim_or-requires
call_trim::trim-trim_or-requires t c =
    (omega arith, trim_operand c.requires c.in_default.ensures c.in_default-closed.ensures.err)

pub call_trim::trim_or-trim_from-requires : goal.call_trim::trim_or-trim_from-requires
call_trim::trim_or-trim_from-requires t c =
    (omega arith, trim_from_next c.requires c.in-Ok.ensures.ok c.in-Some.ensures)

pub call_trim::trim_or-one_or_more-requires : goal.call_trim::trim_or-one_or_more-requires
call_trim::trim_or-one_or_more-requires t c =
    (omega arith, trim_plain c.requires c.in-Ok.ensures.ok c.in-None.ensures)

pub call_trim::trim_or-returns-in-Err-clause-err : goal.call_trim::trim_or-returns-in-Err-clause-err
call_trim::trim_or-returns-in-Err-clause-err t c =
    trim_first_missed c.requires c.in-Err.ensures.err

pub call_trim::trim_from-returns-in_ok-trimmed_of-in-Ok-clause-ok :
    goal.call_trim::trim_from-returns-in_ok-trimmed_of-in-Ok-clause-ok
call_trim::trim_from-returns-in_ok-trimmed_of-in-Ok-clause-ok t c =
    call_found _ (c.in-Ok.ensures.ok _ c.requires) c.in_ok-trimmed_of-in-Ok.ensures

pub call_trim::trim_from-returns-in-Err-clause-err :
    goal.call_trim::trim_from-returns-in-Err-clause-err
call_trim::trim_from-returns-in-Err-clause-err t c =
    subst (λ f. IsCallFault c.args.below c.args.word.tokens.now f) (sym c.instead.ensures)
    (c.in-Err.ensures.err _ c.requires)

pub call_trim::trim_side-returns-in_ok-trimmed-in-Ok-from_text-clause-ok :
    goal.call_trim::trim_side-returns-in_ok-trimmed-in-Ok-from_text-clause-ok
call_trim::trim_side-returns-in_ok-trimmed-in-Ok-from_text-clause-ok t c =
    call_found _ (subst (λ z. IsCallRead c.args.below c.args.word.tokens.now
    c.in-Ok-from_text.rest.tokens.now c.in-Ok-from_text.span
    (form.Trim c.args.side z c.in-Ok-from_text.text.expr)) (sym c.in-Ok.ensures.ok.says)
    (c.in-Ok-from_text.ensures.side_ok _ _ (removed_read c.requires c.in-Ok.ensures.ok)))
    c.in_ok-trimmed-in-Ok-from_text.ensures

pub call_trim::trim_side-returns-in-Err-from_text-clause-err :
    goal.call_trim::trim_side-returns-in-Err-from_text-clause-err
call_trim::trim_side-returns-in-Err-from_text-clause-err t c =
    subst (λ f. IsCallFault c.args.below c.args.word.tokens.now f) (sym c.instead.ensures)
    (c.in-Err-from_text.ensures.side_err _ _ (removed_read c.requires c.in-Ok.ensures.ok))

pub call_trim::trim_side-returns-in-Err-clause-err :
    goal.call_trim::trim_side-returns-in-Err-clause-err
call_trim::trim_side-returns-in-Err-clause-err t c =
    removed_missed c.requires c.in-Err.ensures.err

pub call_trim::or_option-returns-in-Some-clause-ok :
    goal.call_trim::or_option-returns-in-Some-clause-ok
call_trim::or_option-returns-in-Some-clause-ok t c =
    no_or_read c.in-Some.ensures

pub call_trim::or_option-returns-in_ok-new-in-Ok-clause-ok :
    goal.call_trim::or_option-returns-in_ok-new-in-Ok-clause-ok
call_trim::or_option-returns-in_ok-new-in-Ok-clause-ok t c =
    given_or_read c.in_default.ensures c.in-Ok.ensures.ok c.in_ok-new-in-Ok.ensures

pub call_trim::or_option-returns-in-Err-clause-err :
    goal.call_trim::or_option-returns-in-Err-clause-err
call_trim::or_option-returns-in-Err-clause-err t c =
    given_or_missed c.in_default.ensures c.in-Err.ensures.err

pub call_trim::from_text-returns-in_default-clause-side_err :
    goal.call_trim::from_text-returns-in_default-clause-side_err
call_trim::from_text-returns-in_default-clause-side_err t c s m p =
    side_from_missed c.in_default.ensures c.left.ensures p

pub call_trim::from_text-returns-in-Ok-closed-clause-side_ok :
    goal.call_trim::from_text-returns-in-Ok-closed-clause-side_ok
call_trim::from_text-returns-in-Ok-closed-clause-side_ok t c s m p =
    side_text_read c.in-Some.ensures c.in-Ok.ensures.ok c.in-Ok-closed.ensures.ok p

pub call_trim::from_text-returns-in-Err-closed-clause-side_err :
    goal.call_trim::from_text-returns-in-Err-closed-clause-side_err
call_trim::from_text-returns-in-Err-closed-clause-side_err t c s m p =
    subst (λ f. IsCallFault c.args.below c.args.word.tokens.now f) (sym c.instead.ensures)
    (side_text_unclosed c.in-Some.ensures c.in-Ok.ensures.ok c.in-Err-closed.ensures.err p)

pub call_trim::from_text-returns-in-Err-clause-side_err :
    goal.call_trim::from_text-returns-in-Err-clause-side_err
call_trim::from_text-returns-in-Err-clause-side_err t c s m p =
    side_text_missed c.in-Some.ensures c.in-Err.ensures.err p

pub call_trim::from_text-returns-in_default-clause-err :
    goal.call_trim::from_text-returns-in_default-clause-err
call_trim::from_text-returns-in_default-clause-err t c x p =
    both_from_missed c.in_default.ensures c.left.ensures p

pub call_trim::from_text-returns-in-Ok-closed-clause-ok :
    goal.call_trim::from_text-returns-in-Ok-closed-clause-ok
call_trim::from_text-returns-in-Ok-closed-clause-ok t c x p =
    both_text_read c.in-Some.ensures c.in-Ok.ensures.ok c.in-Ok-closed.ensures.ok p

pub call_trim::from_text-returns-in-Err-closed-clause-err :
    goal.call_trim::from_text-returns-in-Err-closed-clause-err
call_trim::from_text-returns-in-Err-closed-clause-err t c x p =
    subst (λ f. IsCallFault c.args.below c.args.word.tokens.now f) (sym c.instead.ensures)
    (both_text_unclosed c.in-Some.ensures c.in-Ok.ensures.ok c.in-Err-closed.ensures.err p)

pub call_trim::from_text-returns-in-Err-clause-err :
    goal.call_trim::from_text-returns-in-Err-clause-err
call_trim::from_text-returns-in-Err-clause-err t c x p =
    both_text_missed c.in-Some.ensures c.in-Err.ensures.err p

pub call::by_word-substring-requires : goal.call::by_word-substring-requires
call::by_word-substring-requires t c = (omega arith, opened_substring c.in-Substring.is c.requires)

pub call_substring::substring-returns-in-Ok-clause-ok :
    goal.call_substring::substring-returns-in-Ok-clause-ok
call_substring::substring-returns-in-Ok-clause-ok t c =
    call_found _ (substring_empty c.requires c.in-Ok.ensures.ok) c.in_ok-called_alone.ensures

pub call_substring::substring-substring_or-requires :
    goal.call_substring::substring-substring_or-requires
call_substring::substring-substring_or-requires t c =
    (omega arith, substring_operand c.requires c.in_default.ensures.err)

pub call_substring::substring_or-substring_from-requires :
    goal.call_substring::substring_or-substring_from-requires
call_substring::substring_or-substring_from-requires t c = (
  omega arith,
  (
    substring_from_next c.requires c.in-Ok.ensures.ok c.in-Some.ensures,
    c.in-Some.ensures,
  ),
)

pub call_substring::substring_or-one_or_more-requires :
    goal.call_substring::substring_or-one_or_more-requires
call_substring::substring_or-one_or_more-requires t c =
    (omega arith, substring_plain c.requires c.in-Ok.ensures.ok c.in-None.ensures)

pub call_substring::substring_or-returns-in-Err-clause-err :
    goal.call_substring::substring_or-returns-in-Err-clause-err
call_substring::substring_or-returns-in-Err-clause-err t c =
    substring_first_missed c.requires c.in-Err.ensures.err

pub call_substring::substring_from-returns-in_ok-part_of-in-Ok-length-clause-ok :
    goal.call_substring::substring_from-returns-in_ok-part_of-in-Ok-length-clause-ok
call_substring::substring_from-returns-in_ok-part_of-in-Ok-length-clause-ok t c =
    call_found _ (c.in-Ok-length.ensures.ok _ _ _
    (start_read c.requires.before c.requires.from c.in-Ok.ensures.ok))
    c.in_ok-part_of-in-Ok-length.ensures

pub call_substring::substring_from-returns-in-Err-length-clause-err :
    goal.call_substring::substring_from-returns-in-Err-length-clause-err
call_substring::substring_from-returns-in-Err-length-clause-err t c =
    subst (λ f. IsCallFault c.args.below c.args.word.tokens.now f)
    (sym (c.instead-in-Err-length.ensures ∙ c.instead.ensures))
    (c.in-Err-length.ensures.err _ _ _
    (start_read c.requires.before c.requires.from c.in-Ok.ensures.ok))

pub call_substring::substring_from-returns-in-Err-clause-err :
    goal.call_substring::substring_from-returns-in-Err-clause-err
call_substring::substring_from-returns-in-Err-clause-err t c =
    subst (λ f. IsCallFault c.args.below c.args.word.tokens.now f) (sym c.instead-in-Err.ensures)
    (start_missed c.requires.before c.requires.from c.in-Err.ensures.err)

pub call_substring::length-returns-in-Ok-closed-clause-ok :
    goal.call_substring::length-returns-in-Ok-closed-clause-ok
call_substring::length-returns-in-Ok-closed-clause-ok t c x y s p =
    part_read c.in-Ok.ensures.ok c.in-Ok-closed.ensures.ok p

pub call_substring::length-returns-in-Err-closed-clause-err :
    goal.call_substring::length-returns-in-Err-closed-clause-err
call_substring::length-returns-in-Err-closed-clause-err t c x y s p =
    subst (λ f. IsCallFault c.args.below c.args.word.tokens.now f) (sym c.instead.ensures)
    (part_unclosed c.in-Ok.ensures.ok c.in-Err-closed.ensures.err p)

pub call_substring::length-returns-in-Err-clause-err :
    goal.call_substring::length-returns-in-Err-clause-err
call_substring::length-returns-in-Err-clause-err t c x y s p =
    part_missed c.in-Err.ensures.err p

pub call_substring::length_option-returns-in_default-clause-ok :
    goal.call_substring::length_option-returns-in_default-clause-ok
call_substring::length_option-returns-in_default-clause-ok t c =
    no_length_read c.in_default.ensures

pub call_substring::length_option-returns-in_ok-new-in-Ok-clause-ok :
    goal.call_substring::length_option-returns-in_ok-new-in-Ok-clause-ok
call_substring::length_option-returns-in_ok-new-in-Ok-clause-ok t c =
    length_read c.in-Some.ensures c.in-Ok.ensures.ok c.in_ok-new-in-Ok.ensures

pub call_substring::length_option-returns-in-Err-clause-err :
    goal.call_substring::length_option-returns-in-Err-clause-err
call_substring::length_option-returns-in-Err-clause-err t c =
    length_missed c.in-Some.ensures c.in-Err.ensures.err

-- WEIGHT_STRING

pub call::by_word-weight_string-requires : goal.call::by_word-weight_string-requires
call::by_word-weight_string-requires t c =
    (omega arith, opened_weight_string c.in-WeightString.is c.requires)

pub call_weight::weight_string-returns-in-Ok-clause-ok :
    goal.call_weight::weight_string-returns-in-Ok-clause-ok
call_weight::weight_string-returns-in-Ok-clause-ok t c =
    call_found _ (weight_empty c.requires c.in-Ok.ensures.ok) c.in_ok-called_alone.ensures

pub call_weight::weight_string-cut_or_many-requires :
    goal.call_weight::weight_string-cut_or_many-requires
call_weight::weight_string-cut_or_many-requires t c =
    (omega arith, weight_operand c.requires c.in_default.ensures.err c.in-Ok-or.ensures.ok)

pub call_weight::weight_string-returns-in-Err-clause-err :
    goal.call_weight::weight_string-returns-in-Err-clause-err
call_weight::weight_string-returns-in-Err-clause-err t c =
    weight_missed c.requires c.in_default.ensures.err c.in-Err.ensures.err

pub call_weight::cut_or_many-many-requires : goal.call_weight::cut_or_many-many-requires
call_weight::cut_or_many-many-requires t c =
    (omega arith, weight_many c.requires c.in-Some.ensures)

pub call_weight::cut_or_many-returns-in_ok-weighed-in-Ok-cut_closed-clause-ok :
    goal.call_weight::cut_or_many-returns-in_ok-weighed-in-Ok-cut_closed-clause-ok
call_weight::cut_or_many-returns-in_ok-weighed-in-Ok-cut_closed-clause-ok t c =
    call_found _ (c.in-Ok-cut_closed.ensures.ok _ (weight_alone c.requires c.in-None.ensures))
    c.in_ok-weighed-in-Ok-cut_closed.ensures

pub call_weight::cut_or_many-returns-in-Err-cut_closed-clause-err :
    goal.call_weight::cut_or_many-returns-in-Err-cut_closed-clause-err
call_weight::cut_or_many-returns-in-Err-cut_closed-clause-err t c =
    subst (λ f. IsCallFault c.args.below c.args.word.tokens.now f) (sym c.instead.ensures)
    (c.in-Err-cut_closed.ensures.err _ (weight_alone c.requires c.in-None.ensures))

pub primary::prim-returns-in-Ok-clause-ok : goal.primary::prim-returns-in-Ok-clause-ok
primary::prim-returns-in-Ok-clause-ok t c =
    call_read _ _ _ _ (sym c.begins_call.ensures ∙ c.if-begins_call.true) c.in-Ok.ensures.ok

pub primary::prim-returns-in-Err-clause-err : goal.primary::prim-returns-in-Err-clause-err
primary::prim-returns-in-Err-clause-err t c =
    prim_call_missed _ _ _ (sym c.begins_call.ensures ∙ c.if-begins_call.true) c.in-Err.ensures.err

pub primary::prim-returns-then-below-eq0-clause-err :
    goal.primary::prim-returns-then-below-eq0-clause-err
primary::prim-returns-then-below-eq0-clause-err t c =
    paren_deep _ _ _ _ (omega arith) c.in-Some.ensures c.left.ensures

pub primary::prim-returns-in-Ok-in_parens-clause-ok :
    goal.primary::prim-returns-in-Ok-in_parens-clause-ok
primary::prim-returns-in-Ok-in_parens-clause-ok t c =
    let e : suc (c.args.below - 1) ≡ c.args.below = omega arith in
    subst (λ b. IsOperand rule.prim b c.args.place.tokens.now c.in-Ok-in_parens.rest.tokens.now
    c.in-Ok-in_parens.operand) e c.in-Ok-in_parens.ensures.ok

pub primary::prim-returns-in-Err-in_parens-clause-err :
    goal.primary::prim-returns-in-Err-in_parens-clause-err
primary::prim-returns-in-Err-in_parens-clause-err t c =
    let e : suc (c.args.below - 1) ≡ c.args.below = omega arith in
    subst (λ b. IsFault (behind rule.prim) rule.prim b c.args.place.tokens.now
    c.in-Err-in_parens.fault) e c.in-Err-in_parens.ensures.err

pub primary::prim-plain-requires : goal.primary::prim-plain-requires
primary::prim-plain-requires t c =
    record {
      no_call = sym c.begins_call.ensures
          ∙ c.if-begins_call.false;
      no_paren = c.in-None.ensures;
    }

pub primary::prim-returns-in-Ok-plain-clause-ok : goal.primary::prim-returns-in-Ok-plain-clause-ok
primary::prim-returns-in-Ok-plain-clause-ok t c = c.in-Ok-plain.ensures.ok c.args.below

pub primary::prim-returns-in-Err-plain-clause-err :
    goal.primary::prim-returns-in-Err-plain-clause-err
primary::prim-returns-in-Err-plain-clause-err t c = c.in-Err-plain.ensures.err c.args.below

pub primary::in_parens-returns-in-Some-clause-ok : goal.primary::in_parens-returns-in-Some-clause-ok
primary::in_parens-returns-in-Some-clause-ok t c =
    paren_read _ _ _ _ _ _ _ _ c.requires c.in-Ok.ensures.ok c.in-Some.ensures
    (c.from_to.ensures ∙ ap (λ s. from_to s c.span-in-Some.result) c.span.ensures
    ∙ ap (λ s. from_to (span_at c.args.start.tokens.now) s) c.span-in-Some.ensures)
    c.widened.ensures

pub primary::in_parens-returns-in-None-clause-err :
    goal.primary::in_parens-returns-in-None-clause-err
primary::in_parens-returns-in-None-clause-err t c =
    subst (λ f. IsFault (behind rule.prim) rule.prim (suc c.args.below) c.args.start.tokens.now f)
    (sym c.instead.ensures)
    (close_missed _ _ _ _ _ _ c.requires c.in-Ok.ensures.ok c.in-None.ensures c.left.ensures)

pub primary::in_parens-returns-in-Err-clause-err : goal.primary::in_parens-returns-in-Err-clause-err
primary::in_parens-returns-in-Err-clause-err t c = inner_missed _ _ _ _ c.requires
    c.in-Err.ensures.err
