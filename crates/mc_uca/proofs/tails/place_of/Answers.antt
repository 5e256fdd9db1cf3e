use Rattle.std.proofs.Common.{◌≡◌, ◌+◌, ◌-◌, ◌/◌, ◌<◌, [], length, slice_index_or, arith}
use Rattle.std.specs.declared.cmp.Ordering.TheVariants.{Equal, Greater}
use Rattle.mc_order.specs.declared.pad.Pad.TheVariants.{NoPad}
use Rattle.mc_uca.proofs.TailPlaces.{place_is, stays, all_before, same_before, one_more, told}
use Rattle.mc_uca.proofs.TailPlaces.{in_order, at_low}
use Rattle.mc_uca.proofs.tails.place_of.Goals as goal

pub returns-in-Equal : goal.returns-in-Equal
returns-in-Equal c =
    let list = c.args.list.now in
    let lists = c.args.lists.now in
    let middle = c.loop-low.low + (c.loop-low.high - c.loop-low.low) / 2 in
    let within = c.loop-low.invariant.within in
    let more = c.loop-low-test.true in
    let below : middle < length lists = omega (arith, within, more) in
    let order = told list lists middle c.index-lists-middle.result c.as_slice.result.now
    c.compare_lists.result Equal below c.index-lists-middle.is c.as_slice.ensures
    c.compare_lists.ensures c.in-Equal.is in
    let rising = in_order lists c.requires in
    stays list lists middle below (same_before list lists middle (c.order_laws.ensures.total NoPad 0)
    rising below (c.order_laws.ensures.same 0 list (slice_index_or lists middle []) order)) order

pub loop-low-preserved : goal.loop-low-preserved
loop-low-preserved c =
    let list = c.args.list.now in
    let lists = c.args.lists.now in
    let middle = c.loop-low.low + (c.loop-low.high - c.loop-low.low) / 2 in
    let within = c.loop-low.invariant.within in
    let more = c.loop-low-test.true in
    let below : middle < length lists = omega (arith, within, more) in
    let order = told list lists middle c.index-lists-middle.result c.as_slice.result.now
    c.compare_lists.result Greater below c.index-lists-middle.is c.as_slice.ensures
    c.compare_lists.ensures c.in-Greater.is in
    record {
      in_order = omega (arith, more);
      within = within;
      behind = one_more list lists middle (all_before list lists middle
          (c.order_laws.ensures.total NoPad 0) (in_order lists c.requires) below order) order;
      before = c.loop-low.invariant.before;
    }

pub returns : goal.returns
returns c =
    let within = c.loop-low.invariant.within in
    let ends = c.loop-low-test.false in
    let inside = c.loop-low.invariant.in_order in
    let at_end : c.loop-low.high ≡ c.loop-low.low = omega (arith, ends, inside) in
    place_is c.args.list.now c.args.lists.now c.loop-low.low (omega (arith, inside, within))
    c.loop-low.invariant.behind (at_low c.args.list.now c.args.lists.now _ _ at_end c.loop-low.invariant.before)
