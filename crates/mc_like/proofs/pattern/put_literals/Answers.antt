use Rattle.std.proofs.Common.{◌∷◌, ◌++◌, ap, ◌∙◌}
use Rattle.mc_like.specs.Items.{literal_front}
use Rattle.mc_like.proofs.Items.{front_ends, front_goes_on, literal_front-none, literal_front-other}
use Rattle.mc_like.proofs.Items.{no_items}
use Rattle.mc_like.proofs.pattern.put_literals.Goals as goal

pub returns-in_default-item : goal.returns-in_default-item
returns-in_default-item c =
    front_ends c.loop-item.literals _ c.loop-item.left.now c.loop-item.invariant
    (ap literal_front c.in-Some.ensures.cases.0
    ∙ literal_front-other c.in-Some.item.now c.in-Some.more.now c.in_default-item.not-Literal)

pub loop-item-preserved : goal.loop-item-preserved
loop-item-preserved c =
    ap (λ out. out ++ literal_front c.in-Some.more.now) c.in_ok-push.ensures.ok
    ∙ front_goes_on c.loop-item.literals _ c.in-Literal.code c.in-Some.more.now
    (c.in-Some.ensures.cases.0 ∙ ap (λ item. item ∷ c.in-Some.more.now) c.in-Literal.is)
    ∙ c.loop-item.invariant

pub returns : goal.returns
returns c =
    front_ends c.loop-item.literals _ c.loop-item.left.now c.loop-item.invariant
    (ap literal_front (no_items _ c.in_default.ensures.cases) ∙ literal_front-none)
