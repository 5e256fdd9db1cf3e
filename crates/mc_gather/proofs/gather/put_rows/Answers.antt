use Rattle.std.proofs.Common.{◌≤◌, length, sym, subst}
use Rattle.std.specs.Prelude.{All}
use Rattle.mc_gather.specs.declared.gather.Run.{Run}
use Rattle.mc_gather.proofs.Reached.{ends_within}
use Rattle.mc_gather.proofs.gather.put_rows.Goals as goal

pub push_runs-requires : goal.push_runs-requires
push_runs-requires g c =
    subst (All (λ (run : Run). run.end ≤ length c.args.index.now.entries))
    (sym c.as_slice.ensures.value)
    (ends_within c.args.index.now c.args.intervals.now c.put_runs.new.runs.items
    c.sort_runs.new.runs.items c.in_ok-put_runs.ensures.are c.sort_runs.ensures.permutation)
