use Rattle.std.proofs.Common.{arith}
use Rattle.mc_gather.proofs.Built.{one_built, steps_more, steps_within}
use Rattle.mc_gather.proofs.Zipped.{as_many}
use Rattle.mc_gather.proofs.indexes.put_all_indexes.Goals as goal

pub returns-in_err-indexes_of-clause-steps : goal.returns-in_err-indexes_of-clause-steps
returns-in_err-indexes_of-clause-steps g c =
    steps_within c.args.c.now c.args.rows.now c.loop-place.place c.args.steps.now c.loop-place.steps
    c.indexes_of.new.steps (omega (arith, c.len-place-end.ensures, c.loop-place-test.true))
    (as_many c.args.c.now c.args.rows.now c.requires.tables) c.loop-place.invariant.2
    c.indexes_of.ensures.steps

pub returns-in_err-push-clause-steps : goal.returns-in_err-push-clause-steps
returns-in_err-push-clause-steps g c =
    steps_within c.args.c.now c.args.rows.now c.loop-place.place c.args.steps.now c.loop-place.steps
    c.indexes_of.new.steps (omega (arith, c.len-place-end.ensures, c.loop-place-test.true))
    (as_many c.args.c.now c.args.rows.now c.requires.tables) c.loop-place.invariant.2
    c.indexes_of.ensures.steps

pub loop-place-preserved : goal.loop-place-preserved
loop-place-preserved g c = (
  one_built (g.B.Book.meaning c.args.book.now) c.args.c.now c.args.rows.now c.loop-place.place
      c.loop-place.held c.push.new.self c.in_ok-indexes_of.field-0 c.loop-place.invariant.0
      c.in_ok-indexes_of.ensures.are c.in_ok-push.ensures.ok,
  omega (arith, c.indexes_of.ensures.fetched, c.loop-place.invariant.1),
  steps_more c.args.c.now c.args.rows.now c.loop-place.place c.args.steps.now c.loop-place.steps
      c.indexes_of.new.steps (omega (arith, c.len-place-end.ensures, c.loop-place-test.true))
      (as_many c.args.c.now c.args.rows.now c.requires.tables) c.loop-place.invariant.2
      c.indexes_of.ensures.steps,
)
