use Rattle.std.proofs.Common.{◌≡◌, ◌+◌, ◌-◌, ◌/◌, ◌<◌, ◌∷◌, [], length, slice_index_or, refl, arith}
use Rattle.std.specs.declared.cmp.Ordering.TheVariants.{Equal, Greater}
use Rattle.mc_order.specs.Meaning.{flat_list}
use Rattle.mc_order.specs.declared.pad.Pad.TheVariants.{NoPad}
use Rattle.mc_uca.proofs.HeadPlaces.{not_among}
use Rattle.mc_uca.proofs.Places.{at_place}
use Rattle.mc_uca.proofs.TailPlaces.{all_before, one_more, told, in_order, at_low}
use Rattle.mc_uca.specs.UcaMeaning.{uca_meaning}
use Rattle.mc_uca.proofs.weigher.Weigher.is_list_of.Goals as goal

pub returns-in-Equal : goal.returns-in-Equal
returns-in-Equal c =
    let self = c.args.self.now in
    let list = flat_list (uca_meaning self.charset self.kind self.keys) (c.args.c ∷ []) in
    let lists = c.args.lists.now in
    let middle = c.loop-low.low + (c.loop-low.high - c.loop-low.low) / 2 in
    let within = c.loop-low.invariant.within in
    let more = c.loop-low-test.true in
    let below : middle < length lists = omega (arith, within, more) in
    let order = told list lists middle c.index-lists-middle.result c.as_slice.result.now
    c.order_with.result Equal below c.index-lists-middle.is c.as_slice.ensures c.order_with.ensures
    c.in-Equal.is in (
      λ t. at_place lists middle list below (c.order_laws.ensures.same 0 list
          (slice_index_or lists middle []) order),
      λ h. refl,
    )

pub loop-low-preserved : goal.loop-low-preserved
loop-low-preserved c =
    let self = c.args.self.now in
    let list = flat_list (uca_meaning self.charset self.kind self.keys) (c.args.c ∷ []) in
    let lists = c.args.lists.now in
    let middle = c.loop-low.low + (c.loop-low.high - c.loop-low.low) / 2 in
    let within = c.loop-low.invariant.within in
    let more = c.loop-low-test.true in
    let below : middle < length lists = omega (arith, within, more) in
    let order = told list lists middle c.index-lists-middle.result c.as_slice.result.now
    c.order_with.result Greater below c.index-lists-middle.is c.as_slice.ensures
    c.order_with.ensures c.in-Greater.is in
    record {
      in_order = omega (arith, more);
      within = within;
      behind = one_more list lists middle (all_before list lists middle
          (c.order_laws.ensures.total NoPad 0) (in_order lists c.requires.ascending) below order)
          order;
      before = c.loop-low.invariant.before;
    }

pub returns : goal.returns
returns c =
    let self = c.args.self.now in
    let list = flat_list (uca_meaning self.charset self.kind self.keys) (c.args.c ∷ []) in
    let ends = c.loop-low-test.false in
    let inside = c.loop-low.invariant.in_order in
    let at_end : c.loop-low.high ≡ c.loop-low.low = omega (arith, ends, inside) in (
      λ t. absurd cc,
      λ h. absurd (not_among list c.args.lists.now c.loop-low.low
          (c.order_laws.ensures.total NoPad 0) (in_order c.args.lists.now c.requires.ascending)
          c.loop-low.invariant.behind
          (at_low list c.args.lists.now _ _ at_end c.loop-low.invariant.before) h),
    )
