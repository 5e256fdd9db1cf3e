use Rattle.std.proofs.Common.{◌+◌, ◌-◌, ◌*◌, get_or, arith}
use Rattle.mc_token.proofs.Numbers.{value-step, too_great}
use Rattle.mc_token.proofs.number.int_of.Goals as goal

-- With one more digit the value is too great.
pub returns-then-value : goal.returns-then-value
returns-then-value c =
    let digits = c.args.digits.now in
    let loop = c.loop-digit in
    let next = value-step digits loop.digit-index loop.value c.requires c.loop-digit-test.true loop.invariant.value in
    too_great digits (loop.digit-index + 1) (10 * loop.value + (get_or digits loop.digit-index 0 - 48)) (omega arith) next

pub returns-then-value-gt-GREATEST : goal.returns-then-value-gt-GREATEST
returns-then-value-gt-GREATEST c =
    let digits = c.args.digits.now in
    let loop = c.loop-digit in
    let next = value-step digits loop.digit-index loop.value c.requires c.loop-digit-test.true loop.invariant.value in
    too_great digits (loop.digit-index + 1) (10 * loop.value + (get_or digits loop.digit-index 0 - 48)) (omega arith) next

pub loop-digit-preserved : goal.loop-digit-preserved
loop-digit-preserved c =
    let digits = c.args.digits.now in
    let loop = c.loop-digit in
    let next = value-step digits loop.digit-index loop.value c.requires c.loop-digit-test.true loop.invariant.value in
    record { value = omega (arith, next, c.from.ensures); small = omega arith }
