use Rattle.std.proofs.Common.{arith}
use Rattle.mc_allkeys.specs.Table.{contractions_of}
use Rattle.mc_uca.proofs.Places.{at_place, place_of}
use Rattle.mc_uca.proofs.reach.Reach.of.Goals as goal

pub note-requires : goal.note-requires
note-requires c =
    let entries = c.args.keys.now.entries in
    let text = c.contraction-text.result.now in
    let count = c.contraction_count-i-end.ensures in
    let below = c.loop-i-test.true in
    let one = at_place (contractions_of entries) c.loop-i.i text (omega (arith, count, below))
    c.contraction-text.ensures in
    (c.keys_law.ensures.texts text ((c.longest_law.ensures.all entries text).sound text one).1).short

pub returns : goal.returns
returns c = λ code rest one.
    let place = place_of (contractions_of c.args.keys.now.entries) _ one in
    let count = c.contraction_count-i-end.ensures in
    let end = c.loop-i-test.false in
    let below = place.1 in
    c.loop-i.invariant place.0 code rest (omega (arith, count, end, below)) place.2
