use Rattle.std.proofs.Common.{◌≡◌, ◌∙◌, sym, subst}
use Rattle.std.proofs.lemmas.List.Sorted.{IsNonDecreasingBy-from_sort}
use Rattle.mc_gather.specs.Through.{AreRowsThrough}
use Rattle.mc_gather.proofs.Reached.{ok_map, rows_reached}
use Rattle.mc_gather.proofs.gather.rows_through.Goals as goal

pub returns-clause-are : goal.returns-clause-are
returns-clause-are g c =
    let index = c.args.index.now in
    let sorted = c.sort_unstable.new.self.items in
    let reached = rows_reached index c.index_law.ensures.apart c.index_law.ensures.places
    c.args.intervals.now c.put_rows.new.rows.items sorted c.in_ok-put_rows.ensures.are
    c.sort_unstable.ensures.permutation
    (IsNonDecreasingBy-from_sort (λ x. x) sorted c.sort_unstable.ensures.sorted) in
    ok_map (λ list. list ≡ c.as_slice.result.now) (AreRowsThrough index c.args.intervals.now)
    c.from_slice.result
    (λ list e. subst (AreRowsThrough index c.args.intervals.now)
    (sym (e ∙ c.as_slice.ensures.value)) reached)
    c.from_slice.ensures
