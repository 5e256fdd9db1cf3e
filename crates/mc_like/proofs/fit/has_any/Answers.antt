use Rattle.std.proofs.Common.{◌∷◌, ap, sym, ◌∙◌}
use Rattle.mc_like.specs.Fronts.{has_any}
use Rattle.mc_like.proofs.LastItems.{has_any-any, has_any-none, has_any-other}
use Rattle.mc_like.proofs.Items.{no_items}
use Rattle.mc_like.proofs.fit.has_any.Goals as goal

pub returns-in-Any : goal.returns-in-Any
returns-in-Any c =
    let more = c.in-Some.more.now in
    sym (ap has_any (c.in-Some.ensures.cases.0 ∙ ap (λ item. item ∷ more) c.in-Any.is)
    ∙ has_any-any more)
    ∙ c.loop-item.invariant

pub loop-item-preserved : goal.loop-item-preserved
loop-item-preserved c =
    sym (ap has_any c.in-Some.ensures.cases.0
    ∙ has_any-other c.in-Some.item.now c.in-Some.more.now c.in_default-item.not-Any)
    ∙ c.loop-item.invariant

pub returns : goal.returns
returns c =
    sym (ap has_any (no_items c.loop-item.left.now c.in_default.ensures.cases) ∙ has_any-none)
    ∙ c.loop-item.invariant
