-- An entry takes the place of what is found, or goes to the gap.
use Rattle.std.proofs.Common.{ap, ◌∙◌, arith}
use Rattle.std.proofs.lemmas.List.{get_or_read}
use Rattle.mc_allkeys.proofs.PlaceLemmas.{Entry, holds, put-found, put-gap, put_is, put_sorted, insert_sorted}
use Rattle.mc_allkeys.proofs.contractions.Contractions.put.Goals as goal

pub place-requires : goal.place-requires
place-requires c = rw c.as_slice.ensures.value c.self.inside.sorted

pub index_mut-requires : goal.index_mut-requires
index_mut-requires c =
    let f = rw c.as_slice.ensures.value at c.in-Ok.ensures in
    omega (arith, f.0, c.self.inside.entries.ok.0)

pub insert-requires : goal.insert-requires
insert-requires c =
    let g = rw c.as_slice.ensures.value at c.in-Err.ensures in
    omega (arith, g.0, c.self.inside.entries.ok.0)

pub invariant_of-self-inside : goal.invariant_of-self-inside
invariant_of-self-inside c =
    let es = c.self.inside.entries.items in
    let f = rw (c.as_slice.ensures.value, c.as_slice-2.ensures) at c.in-Ok.ensures in (
      put_sorted es _ c.args.text c.args.elements c.self.inside.sorted
          (put-found c.args.text c.index_mut.result.now.0 c.args.elements es c.in-Ok.found
          (holds _ c.self.inside.sorted) f
          (λ e. ap (λ (e : Entry). e.0) (get_or_read es _ _ f.0 c.index_mut.ensures.value e))),
      tt,
    )

pub invariant_of-self-inside-in-Err : goal.invariant_of-self-inside-in-Err
invariant_of-self-inside-in-Err c =
    let es = c.self.inside.entries.items in
    let g = rw (c.as_slice.ensures.value, c.as_slice-2.ensures) at c.in-Err.ensures in (
      insert_sorted es c.insert.new.self.items c.args.text c.args.elements c.in-Err.gap _
          c.self.inside.sorted g c.insert.ensures.items,
      tt,
    )

pub returns-in-Ok-clause-ok : goal.returns-in-Ok-clause-ok
returns-in-Ok-clause-ok c =
    let es = c.self.inside.entries.items in
    let f = rw (c.as_slice.ensures.value, c.as_slice-2.ensures) at c.in-Ok.ensures in
    put_is es _ c.args.self.now c.args.text c.args.elements c.self.inside.sorted c.self.view_is
    (put-found c.args.text c.index_mut.result.now.0 c.args.elements es c.in-Ok.found
    (holds _ c.self.inside.sorted) f
    (λ e. ap (λ (e : Entry). e.0) (get_or_read es _ _ f.0 c.index_mut.ensures.value e)))

pub returns-in_ok-insert-in-Err-clause-ok : goal.returns-in_ok-insert-in-Err-clause-ok
returns-in_ok-insert-in-Err-clause-ok c =
    let es = c.self.inside.entries.items in
    let g = rw (c.as_slice.ensures.value, c.as_slice-2.ensures) at c.in-Err.ensures in
    put_is es _ c.args.self.now c.args.text c.args.elements c.self.inside.sorted c.self.view_is
    (c.in_ok-insert-in-Err.ensures.items
    ∙ put-gap c.args.text c.args.elements es c.in-Err.gap g)
