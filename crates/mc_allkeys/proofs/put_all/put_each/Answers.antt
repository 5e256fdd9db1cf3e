-- One more text has its elements.
use Rattle.std.proofs.Common.{[], arith}
use Rattle.mc_allkeys.proofs.PutLemmas.{read_at, put_more}
use Rattle.mc_allkeys.proofs.put_all.put_each.Goals as goal

pub loop-place-preserved : goal.loop-place-preserved
loop-place-preserved c =
    let text = read_at c.as_slice.result.now c.args.texts.now c.loop-place.place
    c.index-as_slice-place.result c.as_slice-text.result.now [] (omega arith) c.as_slice.ensures
    c.index-as_slice-place.is c.as_slice-text.ensures in
    let given = read_at c.as_slice-in-loop-place.result.now c.args.elements.now c.loop-place.place
    c.index-as_slice-place-in-loop-place.result c.as_slice-in-loop-place-2.result.now [] (omega arith)
    c.as_slice-in-loop-place.ensures c.index-as_slice-place-in-loop-place.is
    c.as_slice-in-loop-place-2.ensures in
    put_more c.args.texts.now c.args.elements.now c.loop-place.place c.args.keys.now c.loop-place.keys
    c.put.new.self c.loop-place.invariant c.requires.different (omega arith)
    (rw (text, given) at c.in_ok-put.ensures.entries) c.in_ok-put.ensures.ranges
