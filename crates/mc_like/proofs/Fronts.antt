-- What the answers of a stretch without `%` say of the whole.
use Rattle.std.proofs.Common.{◌≡◌, ℕ, zero, ◌⊎◌, inl, inr, List}
use Rattle.mc_charset.specs.declared.charset.Charset.{Charset}
use Rattle.mc_order.specs.Meaning.{Meaning}
use Rattle.mc_like.specs.declared.fit.Fit.{Fit}
use Rattle.mc_like.specs.declared.fit.Fit.TheVariants.{Misfit, Short, Whole, Gap}
use Rattle.mc_like.specs.declared.item.PatternItem.{PatternItem}
use Rattle.mc_like.specs.Fronts.{IsFit}
use Rattle.mc_like.specs.Like.{Like}
use Rattle.mc_like.proofs.Like.{Like-any_back}

pub no_fit : (m : Meaning) (set : Charset) (items : List PatternItem) (codes : List ℕ)
    (answer : Fit) →
    IsFit m set items codes answer → (answer ≡ Misfit) ⊎ (answer ≡ Short) → Like m items codes → ⊥
no_fit m set items codes Misfit fit e h = fit h
no_fit m set items codes Short fit e h = fit (Like-any_back m items codes zero h)
no_fit m set items codes Whole fit (inl e) h = let never : ⊥ = cc in never
no_fit m set items codes Whole fit (inr e) h = let never : ⊥ = cc in never
no_fit m set items codes (Gap more rest) fit (inl e) h = let never : ⊥ = cc in never
no_fit m set items codes (Gap more rest) fit (inr e) h = let never : ⊥ = cc in never
