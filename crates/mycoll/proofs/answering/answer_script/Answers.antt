-- Each turn answers the first statement that is left; where it stops, the answers so far stand, and
-- what was spent is within what all may cost.
use Rattle.std.proofs.Common.{◌∷◌, List, subst, arith}
use Rattle.std.proofs.lemmas.Result.{err_from_is_err_and}
use Rattle.mc_base.specs.declared.span.Span.{Span}
use Rattle.mc_token.specs.Statements.{statements}
use Rattle.mycoll.specs.World.{state_of, world_of}
use Rattle.mycoll.proofs.AnsweringSteps.{IsSoFar, none_so_far, one_more, stopped_before, stopped_within}
use Rattle.mycoll.proofs.CostSteps.{IsCovered, all_left, covered_more, covered_within, stopped_within_cost}
use Rattle.mycoll.proofs.answering.answer_script.Goals as goal

pub loop-statement-init : goal.loop-statement-init
loop-statement-init g c =
    let w = world_of c.args.tables.now.catalog (g.B.Book.meaning c.args.book.now) in
    let s = state_of c.args.session.now c.args.tables.now.rows in
    record {
      so_far = none_so_far w s c.args.script.now (g.S.Sink.written c.args.out.now);
      covered = all_left w s c.args.script.now c.args.steps.now c.args.work.now;
      fetched = omega arith;
      compared = omega arith;
      sound = c.requires.sound;
      later = omega arith;
      within = omega arith;
    }

pub returns-in_err-said-clause-told : goal.returns-in_err-said-clause-told
returns-in_err-said-clause-told g c =
    let p = err_from_is_err_and c.from_residual.result c.from_residual.ensures.1 in
    let w = world_of c.args.tables.now.catalog (g.B.Book.meaning c.args.book.now) in
    let s = state_of c.args.session.now c.args.tables.now.rows in
    let rest = statements c.args.script.now c.loop-statement.from in
    let left = state_of c.loop-statement.session c.args.tables.now.rows in
    let before = g.S.Sink.written c.args.out.now in
    let now = g.S.Sink.written c.loop-statement.out in
    rw (p.1, p.2) (stopped_before w s c.args.script.now rest left c.loop-statement.refused before now
    c.loop-statement.invariant.so_far)

pub returns-in_err-said-clause-within : goal.returns-in_err-said-clause-within
returns-in_err-said-clause-within g c =
    let w = world_of c.args.tables.now.catalog (g.B.Book.meaning c.args.book.now) in
    let s = state_of c.args.session.now c.args.tables.now.rows in
    let script = c.args.script.now in
    let left = state_of c.loop-statement.session c.args.tables.now.rows in
    let rest = statements script c.in-Some.next in
    let covered : IsCovered w s script left (c.in-Some.statement ∷ rest) c.args.steps.now c.loop-statement.steps c.args.work.now c.loop-statement.work
    = subst (λ (spans : List Span). IsCovered w s script left spans c.args.steps.now c.loop-statement.steps c.args.work.now c.loop-statement.work)
    c.in-Some.ensures.some c.loop-statement.invariant.covered in
    stopped_within_cost w s script left c.in-Some.statement rest c.args.steps.now c.loop-statement.steps c.answer_statement.new.steps
    c.args.work.now c.loop-statement.work c.answer_statement.new.work covered c.answer_statement.ensures.within

pub returns-in_err-refused-clause-told : goal.returns-in_err-refused-clause-told
returns-in_err-refused-clause-told g c =
    let w = world_of c.args.tables.now.catalog (g.B.Book.meaning c.args.book.now) in
    let s = state_of c.args.session.now c.args.tables.now.rows in
    let script = c.args.script.now in
    let before = g.S.Sink.written c.args.out.now in
    let now = g.S.Sink.written c.loop-statement.out in
    let left = state_of c.loop-statement.session c.args.tables.now.rows in
    let after = state_of c.answer_statement.new.session c.args.tables.now.rows in
    let rest = statements script c.in-Some.next in
    let so_far : IsSoFar w s script (c.in-Some.statement ∷ rest) left c.loop-statement.refused before now
    = subst (λ (spans : List Span). IsSoFar w s script spans left c.loop-statement.refused before now) c.in-Some.ensures.some c.loop-statement.invariant.so_far in
    let p = err_from_is_err_and c.from_residual-in_err-refused.result c.from_residual-in_err-refused.ensures.1 in
    rw (p.1, p.2) (stopped_within w s script c.in-Some.statement rest left after c.loop-statement.refused before now _ c.in_ok-said.said c.in_err-refused.field-0.0
    so_far c.in_ok-said.ensures.is c.in_err-refused.ensures.told)

pub returns-in_err-refused-clause-within : goal.returns-in_err-refused-clause-within
returns-in_err-refused-clause-within g c =
    let w = world_of c.args.tables.now.catalog (g.B.Book.meaning c.args.book.now) in
    let s = state_of c.args.session.now c.args.tables.now.rows in
    let script = c.args.script.now in
    let left = state_of c.loop-statement.session c.args.tables.now.rows in
    let rest = statements script c.in-Some.next in
    let covered : IsCovered w s script left (c.in-Some.statement ∷ rest) c.args.steps.now c.loop-statement.steps c.args.work.now c.loop-statement.work
    = subst (λ (spans : List Span). IsCovered w s script left spans c.args.steps.now c.loop-statement.steps c.args.work.now c.loop-statement.work)
    c.in-Some.ensures.some c.loop-statement.invariant.covered in
    stopped_within_cost w s script left c.in-Some.statement rest c.args.steps.now c.loop-statement.steps c.answer_statement.new.steps
    c.args.work.now c.loop-statement.work c.answer_statement.new.work covered c.answer_statement.ensures.within

pub loop-statement-preserved : goal.loop-statement-preserved
loop-statement-preserved g c =
    let w = world_of c.args.tables.now.catalog (g.B.Book.meaning c.args.book.now) in
    let s = state_of c.args.session.now c.args.tables.now.rows in
    let script = c.args.script.now in
    let before = g.S.Sink.written c.args.out.now in
    let now = g.S.Sink.written c.loop-statement.out in
    let left = state_of c.loop-statement.session c.args.tables.now.rows in
    let after = state_of c.answer_statement.new.session c.args.tables.now.rows in
    let rest = statements script c.in-Some.next in
    let so_far : IsSoFar w s script (c.in-Some.statement ∷ rest) left c.loop-statement.refused before now
    = subst (λ (spans : List Span). IsSoFar w s script spans left c.loop-statement.refused before now) c.in-Some.ensures.some c.loop-statement.invariant.so_far in
    let covered : IsCovered w s script left (c.in-Some.statement ∷ rest) c.args.steps.now c.loop-statement.steps c.args.work.now c.loop-statement.work
    = subst (λ (spans : List Span). IsCovered w s script left spans c.args.steps.now c.loop-statement.steps c.args.work.now c.loop-statement.work)
    c.in-Some.ensures.some c.loop-statement.invariant.covered in
    record {
      so_far = rw c.in_ok-refused.ensures.refused
          (one_more w s script c.in-Some.statement rest left after c.loop-statement.refused before now _ c.in_ok-said.said
          so_far c.in_ok-said.ensures.is c.in_ok-refused.ensures.told);
      covered = covered_more c.outcomes_are_unique.ensures w s script left after c.in-Some.statement rest c.in_ok-said.said
          c.args.steps.now c.loop-statement.steps c.answer_statement.new.steps c.args.work.now c.loop-statement.work c.answer_statement.new.work
          covered c.in_ok-said.ensures.is c.answer_statement.ensures.within;
      fetched = omega (arith, c.answer_statement.ensures.fetched, c.loop-statement.invariant.fetched);
      compared = omega (arith, c.answer_statement.ensures.compared, c.loop-statement.invariant.compared);
      sound = c.answer_statement.ensures.sound;
      later = omega (arith, c.in_ok-refused.ensures.later, c.loop-statement.invariant.later);
      within = omega (arith, c.in-Some.ensures.goes_on);
    }
