use Rattle.mc_group.proofs.FrontsFirst.{are_fronted}
use Rattle.mc_group.proofs.Places.{sorted_places}
use Rattle.mc_group.proofs.order.sorted_places.Goals as goal

pub sort_entries-requires : goal.sort_entries-requires
sort_entries-requires g c = record {
  fronted = are_fronted _ _ _ (g.B.Book.meaning c.args.book.now) c.args.kinds.now
      c.args.keys.now _ _ c.as_slice.ensures c.as_slice-2.ensures c.in_ok-entries.ensures;
}

pub returns : goal.returns
returns g c =
    sorted_places _ (g.B.Book.meaning c.args.book.now) c.args.kinds.now c.args.desc.now
    c.args.keys.now c.order_laws.ensures.total _ _ _ _ _ _ c.in_ok-columns.ensures
    c.as_slice-2.ensures c.in_ok-entries.ensures c.sort_entries.ensures.permutation
    c.sort_entries.ensures.sorted c.as_slice-3.ensures.value c.in_ok-places.ensures
