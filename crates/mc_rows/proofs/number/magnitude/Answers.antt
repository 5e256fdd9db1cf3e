-- Each digit makes the number ten times as great, and more by its value.
use Rattle.std.proofs.Common.{◌≡◌, ◌<◌, get_or, length, true, sym, refl, ◌∙◌, arith}
use Rattle.std.proofs.lemmas.Bool.Decides.{nat_tests}
use Rattle.std.proofs.lemmas.List.{take_all}
use Rattle.std.proofs.lemmas.List.Folds.{list_all_more}
use Rattle.std.specs.Char.{is_ascii_digit}
use Rattle.mc_rows.proofs.Written.{all_digits, digit_more, no_number}
use Rattle.mc_rows.proofs.number.magnitude.Goals as goal

pub returns-then-is_empty-clause-is : goal.returns-then-is_empty-clause-is
returns-then-is_empty-clause-is c = no_number c.args.most c.args.digits.now (sym c.is_empty.ensures ∙ c.if-is_empty.true)

pub loop-digit-preserved : goal.loop-digit-preserved
loop-digit-preserved c =
    let digits = c.args.digits.now in
    let i = c.loop-digit.digit-index in
    let digit : is_ascii_digit (get_or digits i 0) ≡ true = grind (arith, nat_tests, c.is_ascii_digit.ensures.value, c.if-not-is_ascii_digit.false) in
    let next = digit_more digits i c.loop-digit.value c.loop-digit-test.true digit c.loop-digit.invariant.value in
    record {
      value = omega (arith, next, c.from.ensures, c.saturating_mul.ensures, c.saturating_add-value.ensures);
      small = omega arith;
      digits = list_all_more is_ascii_digit digits i 0 c.loop-digit-test.true ∙ rw (c.loop-digit.invariant.digits, digit) refl;
    }

pub returns-clause-is : goal.returns-clause-is
returns-clause-is c =
    let digits = c.args.digits.now in
    let whole = take_all c.loop-digit.digit-index digits (omega arith) in
    let some : 0 < length digits = grind (arith, nat_tests, c.is_empty.ensures, c.if-is_empty.false) in
    all_digits c.args.most digits c.loop-digit.value some (rw whole at c.loop-digit.invariant.digits) (rw whole at c.loop-digit.invariant.value) c.loop-digit.invariant.small
