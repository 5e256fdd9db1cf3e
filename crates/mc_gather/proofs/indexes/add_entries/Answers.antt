use Rattle.std.proofs.Common.{arith}
use Rattle.mc_gather.proofs.Gathered.{others_differ, row_more}
use Rattle.mc_gather.proofs.indexes.add_entries.Goals as goal

pub add_entry-requires-clause-other : goal.add_entry-requires-clause-other
add_entry-requires-clause-other g c =
    others_differ (g.C.Collation.meaning c.args.collation.now) c.args.index.now c.args.table.now
    c.loop-i.i c.loop-i.builder c.loop-i.invariant.0

pub loop-i-preserved : goal.loop-i-preserved
loop-i-preserved g c = (
  row_more (g.C.Collation.meaning c.args.collation.now) c.args.index.now c.args.table.now c.loop-i.i
      c.fetch.result.now c.loop-i.builder c.add_entry.new.builder c.fetch.ensures.row
      c.loop-i.invariant.0 c.add_entry.ensures.pad c.add_entry.ensures.space
      c.in_ok-add_entry.ensures.added,
  omega (arith, c.fetch.ensures.later, c.loop-i.invariant.1),
  omega (arith, c.fetch.ensures.steps, c.loop-i.invariant.2),
)
