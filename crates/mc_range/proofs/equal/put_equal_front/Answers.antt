use Rattle.std.proofs.Common.{◌+◌, ◌≤◌, length, arith}
use Rattle.mc_range.specs.Intervals.{equal_front, most_intervals}
use Rattle.mc_range.proofs.Counts.{equal_put, is_within}
use Rattle.mc_range.proofs.equal.put_equal_front.Goals as goal

pub returns : goal.returns
returns g c =
    let m = g.C.Collation.meaning c.args.collation.now in
    let intervals = equal_front m c.args.k c.args.weights.now in
    let within : c.len.result + length intervals ≤ most_intervals =
    is_within c.fits.result (c.len.result + length intervals) c.fits.ensures
    c.if-not-fits.false in (
      equal_put m c.args.k c.min-shortest.result c.args.weights.now c.args.out.now
          c.put_candidates.new.out c.put_passing.new.out (omega arith)
          c.in_ok-put_candidates.ensures c.in_ok-put_passing.ensures,
      omega arith,
    )
