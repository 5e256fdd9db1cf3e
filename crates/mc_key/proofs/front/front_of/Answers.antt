use Rattle.std.proofs.Common.{◌-◌, arith}
use Rattle.mc_key.specs.Fronts.{front_of}
use Rattle.mc_key.proofs.Fronts.{front_below, last_digit, next_digit, no_digit_left}
use Rattle.mc_key.proofs.front.front_of.Goals as goal

pub returns-then-weight-ge-GREATEST_DIGIT : goal.returns-then-weight-ge-GREATEST_DIGIT
returns-then-weight-ge-GREATEST_DIGIT c =
    last_digit c.loop-left.front c.loop-left.left (c.loop-left.left - 1) c.filler-filler.result
    c.first_of-weight.result.0 c.from.result (front_of c.args.pad c.args.space c.args.list.now)
    c.args.pad c.args.space c.loop-left.rest.now c.first_of-weight.result.1.now
    (omega (arith, c.loop-left-test.true)) c.loop-left.invariant.0 c.filler-filler.ensures
    c.first_of-weight.ensures.first c.first_of-weight.ensures.behind
    (omega (arith, c.if-weight-ge-GREATEST_DIGIT.true)) c.from.ensures c.loop-left.invariant.1

pub overflow_add-result : goal.overflow_add-result
overflow_add-result c =
    let told = returns-then-weight-ge-GREATEST_DIGIT c in
    let below = front_below c.args.pad c.args.space c.args.list.now in
    omega (arith, told, below)

pub loop-left-preserved : goal.loop-left-preserved
loop-left-preserved c = (
  omega (arith, c.loop-left.invariant.0),
  next_digit c.loop-left.front c.loop-left.left (c.loop-left.left - 1) c.filler-filler.result
      c.first_of-weight.result.0 c.from-in-loop-left.result
      (front_of c.args.pad c.args.space c.args.list.now)
      c.args.pad c.args.space c.loop-left.rest.now c.first_of-weight.result.1.now
      (omega (arith, c.loop-left-test.true)) c.loop-left.invariant.0 c.filler-filler.ensures
      c.first_of-weight.ensures.first c.first_of-weight.ensures.behind
      (omega (arith, c.if-weight-ge-GREATEST_DIGIT.false)) c.from-in-loop-left.ensures
      c.loop-left.invariant.1,
)

pub overflow_add-front : goal.overflow_add-front
overflow_add-front c =
    let told = (loop-left-preserved c).1 in
    let below = front_below c.args.pad c.args.space c.args.list.now in
    omega (arith, told, below)

pub returns : goal.returns
returns c =
    no_digit_left c.loop-left.front c.loop-left.left
    (front_of c.args.pad c.args.space c.args.list.now) c.args.pad c.args.space
    c.loop-left.rest.now (omega (arith, c.loop-left-test.false)) c.loop-left.invariant.1
