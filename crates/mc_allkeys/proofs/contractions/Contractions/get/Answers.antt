-- What is found is the entry, and at a gap there is none.
use Rattle.std.proofs.Common.{Some, sym, ap, ◌∙◌, arith}
use Rattle.mc_allkeys.proofs.PlaceLemmas.{Entry, get_is, holds, find-found, find-gap}
use Rattle.mc_allkeys.proofs.contractions.Contractions.get.Goals as goal

pub place-requires : goal.place-requires
place-requires c = rw c.as_slice.ensures.value c.self.inside.sorted

pub index-requires : goal.index-requires
index-requires c =
    let f = rw c.as_slice.ensures.value at c.in-Ok.ensures in
    omega (arith, f.0, c.self.inside.entries.ok.0)

pub returns-in-Ok : goal.returns-in-Ok
returns-in-Ok c =
    let es = c.self.inside.entries.items in
    let f = rw c.as_slice.ensures.value at c.in-Ok.ensures in
    get_is es c.args.self.now c.args.text.now c.self.inside.sorted c.self.view_is
    ∙ find-found c.args.text.now es c.in-Ok.found c.index.result.now (holds _ c.self.inside.sorted) f
    ∙ ap (λ (e : Entry). Some e.1) (sym c.index.ensures)
    ∙ ap Some (sym c.as_slice-in-Ok.ensures)

pub returns-in-Err : goal.returns-in-Err
returns-in-Err c =
    let es = c.self.inside.entries.items in
    let g = rw c.as_slice.ensures.value at c.in-Err.ensures in
    get_is es c.args.self.now c.args.text.now c.self.inside.sorted c.self.view_is
    ∙ find-gap c.args.text.now es _ g
