-- A step to the left or to the right, or the text itself.
use Rattle.std.proofs.Common.{◌+◌, ◌-◌, ◌/◌, sym, ap, ◌∙◌, arith}
use Rattle.std.proofs.lemmas.Map.Lookups.{exact_bytes}
use Rattle.std.specs.declared.cmp.Ordering.TheVariants.{Less, Equal, Greater}
use Rattle.mc_allkeys.proofs.PlaceLemmas.{Entry, at_item, below_more, above_more}
use Rattle.mc_allkeys.proofs.contractions.place.Goals as goal

pub returns-in-Equal : goal.returns-in-Equal
returns-in-Equal c =
    let middle = c.loop-low.low + (c.loop-low.high - c.loop-low.low) / 2 in
    let here = at_item c.args.entries.now c.args.text.now middle c.index-entries-middle.result
    c.as_slice.result.now c.cmp.result Equal (omega arith) c.index-entries-middle.is
    (c.as_slice.ensures ∙ ap (λ (e : Entry). e.0) (sym c.index-entries-middle.is))
    c.cmp.ensures c.in-Equal.is in
    (omega arith, λ e. exact_bytes _ _ (here e))

pub loop-low-preserved-in-Less : goal.loop-low-preserved-in-Less
loop-low-preserved-in-Less c =
    let middle = c.loop-low.low + (c.loop-low.high - c.loop-low.low) / 2 in
    record {
      in_order = omega arith;
      within = c.loop-low.invariant.within;
      below = below_more c.args.entries.now c.args.text.now middle c.requires (omega arith)
          (at_item c.args.entries.now c.args.text.now middle c.index-entries-middle.result
          c.as_slice.result.now c.cmp.result Less (omega arith) c.index-entries-middle.is
          (c.as_slice.ensures ∙ ap (λ (e : Entry). e.0) (sym c.index-entries-middle.is))
          c.cmp.ensures c.in-Less.is);
      above = c.loop-low.invariant.above;
    }

pub loop-low-preserved : goal.loop-low-preserved
loop-low-preserved c =
    let middle = c.loop-low.low + (c.loop-low.high - c.loop-low.low) / 2 in
    record {
      in_order = omega arith;
      within = omega arith;
      below = c.loop-low.invariant.below;
      above = above_more c.args.entries.now c.args.text.now middle c.requires
          (at_item c.args.entries.now c.args.text.now middle c.index-entries-middle.result
          c.as_slice.result.now c.cmp.result Greater (omega arith) c.index-entries-middle.is
          (c.as_slice.ensures ∙ ap (λ (e : Entry). e.0) (sym c.index-entries-middle.is)) c.cmp.ensures c.in-Greater.is);
    }
