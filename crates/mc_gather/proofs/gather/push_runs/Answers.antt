use Rattle.std.proofs.Common.{◌++◌, arith}
use Rattle.mc_gather.specs.Runs.{places_from, rows_at}
use Rattle.mc_gather.proofs.Runs.{run_more, runs_end}
use Rattle.mc_gather.proofs.gather.push_runs.Goals as goal

pub loop-run-preserved : goal.loop-run-preserved
loop-run-preserved c =
    run_more c.args.index.now c.args.runs.now c.loop-run.run-index _ c.loop-run.rows.items
    c.push_rows.new.rows.items
    (c.args.rows.now.items ++ rows_at c.args.index.now (places_from 0 c.args.runs.now))
    c.loop-run.done c.max.result c.max-done.result (omega arith) c.max.ensures
    c.max-done.ensures c.in_ok-push_rows.ensures c.loop-run.invariant

pub returns : goal.returns
returns c =
    runs_end c.args.index.now c.args.runs.now c.loop-run.run-index c.loop-run.done
    c.loop-run.rows.items
    (c.args.rows.now.items ++ rows_at c.args.index.now (places_from 0 c.args.runs.now))
    (omega arith) c.loop-run.invariant
