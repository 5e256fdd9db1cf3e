-- A place among the entries is one among their texts.
use Rattle.std.proofs.Common.{◌<◌, length, ap, ◌∙◌, arith}
use Rattle.mc_allkeys.proofs.PlaceLemmas.{Entry, entries_is, len_is, key_at}
use Rattle.mc_allkeys.proofs.contractions.Contractions.text.Goals as goal

pub index-requires : goal.index-requires
index-requires c =
    omega (
      arith,
      c.requires,
      c.self.inside.entries.ok.0,
      len_is c.self.inside.entries.items
          c.args.self.now c.self.inside.sorted c.self.view_is,
    )

pub returns : goal.returns
returns c =
    let es = c.self.inside.entries.items in
    let within : c.args.place < length es =
    omega (arith, c.requires, len_is es c.args.self.now c.self.inside.sorted c.self.view_is) in
    rw (entries_is es c.args.self.now c.self.inside.sorted c.self.view_is)
    (c.as_slice.ensures ∙ ap (λ (e : Entry). e.0) c.index.ensures
    ∙ key_at es c.args.place c.index.result.now within)
