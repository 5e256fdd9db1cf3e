use Rattle.std.proofs.Common.{arith}
use Rattle.mc_gather.proofs.Runs.{all_places, one_more}
use Rattle.mc_gather.proofs.gather.push_rows.Goals as goal

pub loop-place-preserved : goal.loop-place-preserved
loop-place-preserved c =
    let below = c.loop-place-test.true in (
      omega (arith, c.loop-place.invariant.0),
      omega (arith, below),
      one_more c.args.index.now c.args.rows.now.items c.loop-place.rows.items c.push.new.self.items
          c.args.from c.loop-place.place c.row_at.result c.loop-place.invariant.0
          c.loop-place.invariant.2 c.row_at.ensures c.in_ok-push.ensures.items,
    )

pub returns : goal.returns
returns c =
    all_places c.args.index.now c.args.rows.now.items c.loop-place.rows.items c.args.from
    c.loop-place.place c.args.end c.loop-place.invariant.0 c.loop-place.invariant.1
    c.loop-place-test.false c.loop-place.invariant.2
