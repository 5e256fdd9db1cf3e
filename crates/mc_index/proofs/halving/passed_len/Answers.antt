use Rattle.std.proofs.Common.{◌+◌, ◌∙◌, length, sym, arith}
use Rattle.mc_index.specs.Digits.{binary_digits}
use Rattle.mc_index.specs.Held.{holds_before}
use Rattle.mc_index.proofs.Halves.{all_found, lower_half, upper_half}
use Rattle.mc_index.proofs.halving.passed_len.Goals as goal

pub loop-size-preserved-then-is_before : goal.loop-size-preserved-then-is_before
loop-size-preserved-then-is_before g c =
    upper_half (holds_before c.args.bound.now c.args.side) c.args.entries.now c.requires.sorted
    c.loop-size.from c.loop-size.size c.args.work.now c.loop-size.work c.is_before.new.work
    (c.args.work.now + binary_digits (length c.args.entries.now)) c.index-entries-from.result
    (omega (arith, c.loop-size-test.true)) c.is_before.ensures.later c.is_before.ensures.work
    c.index-entries-from.is
    (sym c.is_before.ensures.told ∙ c.if-is_before.true) c.loop-size.invariant

pub loop-size-preserved : goal.loop-size-preserved
loop-size-preserved g c =
    lower_half (holds_before c.args.bound.now c.args.side) c.args.entries.now c.requires.sorted
    c.loop-size.from c.loop-size.size c.args.work.now c.loop-size.work c.is_before.new.work
    (c.args.work.now + binary_digits (length c.args.entries.now)) c.index-entries-from.result
    (omega (arith, c.loop-size-test.true)) c.is_before.ensures.later c.is_before.ensures.work
    c.index-entries-from.is
    (sym c.is_before.ensures.told ∙ c.if-is_before.false) c.loop-size.invariant

pub returns-clause-count : goal.returns-clause-count
returns-clause-count g c =
    all_found (holds_before c.args.bound.now c.args.side) c.args.entries.now c.loop-size.from
    c.loop-size.size c.args.work.now c.loop-size.work
    (c.args.work.now + binary_digits (length c.args.entries.now))
    (omega (arith, c.loop-size-test.false)) c.loop-size.invariant
