use Rattle.std.proofs.Common.{◌≡◌, ◌+◌, ◌-◌, ap, ◌∙◌, length, filter, take, drop, arith}
use Rattle.mc_charset.specs.CharStart.{is_not_behind}
use Rattle.mc_charset.proofs.Places.{count_more}
use Rattle.mc_charset.proofs.firsts.pass_blocks.Goals as goal

pub loop-start-preserved : goal.loop-start-preserved
loop-start-preserved c =
    let text = c.args.text.now in
    let start = c.loop-start.start in
    let e : start + 64 - start ≡ 64 = omega arith in
    let block = c.count_firsts-firsts.ensures ∙ ap (λ n. length (filter is_not_behind (take n (drop start text)))) e in
    record {
      within = omega (arith, c.loop-start.invariant.within, c.loop-start-test.true);
      counted = omega (arith, c.loop-start.invariant.counted, c.if-firsts-left.false, block, count_more text start 64);
    }
