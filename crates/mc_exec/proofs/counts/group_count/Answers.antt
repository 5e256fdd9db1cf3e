-- A number that is the next new one counts.
use Rattle.std.proofs.Common.{◌≡◌, arith, subst, sym, length, ◌+◌, drop}
use Rattle.mc_exec.specs.Steps.{picked}
use Rattle.mc_exec.proofs.Firsts.{counted_end, counted_next, counted_same}
use Rattle.mc_exec.proofs.counts.group_count.Goals as goal
use Rattle.mc_exec.proofs.counts.group_count.Goals.{then-number-count, else-number-count}

pub loop-number-preserved : goal.loop-number-preserved
loop-number-preserved c =
    let ns = c.args.numbers.now in
    let i = c.loop-number.number-index in
    elim c.if-number-count.branch [
      | then-number-count w ↦
          let e : c.if-number-count.count ≡ c.loop-number.count + 1 = w.count-is in (
            omega arith,
            subst (λ n. n + length (picked n (drop (i + 1) ns) (drop (i + 1) ns)) ≡ length
                (picked 0 ns ns)) (sym e)
                (counted_next ns i c.loop-number.count _ c.loop-number-test.true
                w.if-number-count.true
                c.loop-number.invariant.1),
          )
      | else-number-count w ↦
          let e : c.if-number-count.count ≡ c.loop-number.count = w.count-is in (
            omega arith,
            subst (λ n. n + length (picked n (drop (i + 1) ns) (drop (i + 1) ns)) ≡ length
                (picked 0 ns ns)) (sym e)
                (counted_same ns i c.loop-number.count _ c.loop-number-test.true
                w.if-number-count.false
                c.loop-number.invariant.1),
          )
    ]

pub returns : goal.returns
returns c = counted_end c.args.numbers.now c.loop-number.number-index c.loop-number.count _
    c.loop-number-test.false c.loop-number.invariant.1
