use Rattle.std.proofs.Common.{[], slice_index_or, arith}
use Rattle.mc_allkeys.specs.Table.{contractions_of}
use Rattle.mc_uca.proofs.InnerFacts.{marked_at}
use Rattle.mc_uca.proofs.Places.{place_of}
use Rattle.mc_uca.proofs.inner.Inner.of.Goals as goal

pub returns : goal.returns
returns c = λ first code front rest one.
    let xs = contractions_of c.args.keys.now.entries in
    let place = place_of xs _ one in
    let count = c.contraction_count-place-end.ensures in
    let end = c.loop-place-test.false in
    let below = place.1 in
    marked_at c.loop-place.marks.items (slice_index_or xs place.0 []) first code front rest
    (λ j some within. c.loop-place.invariant place.0 j (omega (arith, count, end, below)) some within)
    place.2
