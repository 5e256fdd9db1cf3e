-- Items behind the last `%`: the one place at which they can match.
use Rattle.std.proofs.Common.{◌≡◌, ℕ, zero, suc, ◌+◌, ◌-◌, ◌≤◌, true, false, true≢false, List, []}
use Rattle.std.proofs.Common.{◌∷◌, length, drop, length-drop, refl, ap, sym, ◌∙◌, subst, arith}
use Rattle.mc_charset.specs.declared.charset.Charset.{Charset}
use Rattle.mc_order.specs.Meaning.{Meaning}
use Rattle.mc_like.specs.declared.fit.Fit.{Fit}
use Rattle.mc_like.specs.declared.fit.Fit.TheVariants.{Misfit, Short, Whole, Gap}
use Rattle.mc_like.specs.declared.item.PatternItem.{PatternItem}
use Rattle.mc_like.specs.declared.item.PatternItem.TheVariants.{Literal, One, Any}
use Rattle.mc_like.specs.Fronts.{has_any, IsFit, Ticks}
use Rattle.mc_like.specs.Like.{Like}
use Rattle.mc_like.proofs.Like.{Like-any, Like-any_back}

pub has_any-none : has_any [] ≡ false
unfolding has_any
has_any-none = refl

pub has_any-any : (items : List PatternItem) → has_any (Any ∷ items) ≡ true
unfolding has_any
has_any-any items = refl

pub has_any-more : (item : PatternItem) (items : List PatternItem) → has_any items ≡ true →
    has_any (item ∷ items) ≡ true
unfolding has_any
has_any-more (Literal code) items h = h
has_any-more One items h = h
has_any-more Any items h = refl

pub has_any-other : (item : PatternItem) (items : List PatternItem) → (item ≡ Any → ⊥) →
    has_any (item ∷ items) ≡ has_any items
unfolding has_any
has_any-other (Literal code) items other = refl
has_any-other One items other = refl
has_any-other Any items other = absurd (other refl)

-- Without `%` each item takes one character.
pub Like-length : (m : Meaning) (items : List PatternItem) (codes : List ℕ) →
    has_any items ≡ false → Like m items codes → length codes ≡ length items
unfolding Like has_any
Like-length m [] [] none h = refl
Like-length m [] (code ∷ codes) none h = absurd h
Like-length m (Literal literal ∷ items) [] none h = absurd h
Like-length m (Literal literal ∷ items) (code ∷ codes) none h =
    ap suc (Like-length m items codes none h.1)
Like-length m (One ∷ items) [] none h = absurd h
Like-length m (One ∷ items) (code ∷ codes) none h = ap suc (Like-length m items codes none h)
Like-length m (Any ∷ items) codes none h = absurd (true≢false none)

pub at_end : (m : Meaning) (items : List PatternItem) (codes : List ℕ) →
    has_any items ≡ false → 1 ≤ length items → Like m (Any ∷ items) codes →
    (length items ≤ length codes) × Like m items (drop (length codes - length items) codes)
at_end m items codes none some h =
    let cut = Like-any m items codes h in
    let long = Like-length m items (drop cut.0 codes) none cut.1 in
    let left = length-drop cut.0 codes in
    let e : cut.0 ≡ length codes - length items = omega (arith, long, left, some) in (
      omega (arith, long, left, some),
      subst (λ k. Like m items (drop k codes)) e cut.1,
    )

-- Any other answer than to both ends refuses the end.
pub not_whole : (m : Meaning) (set : Charset) (items : List PatternItem) (codes : List ℕ)
    (answer : Fit) → has_any items ≡ false → IsFit m set items codes answer →
    (answer ≡ Whole → ⊥) → Like m items codes → ⊥
not_whole m set items codes Misfit none fit other h = fit h
not_whole m set items codes Short none fit other h =
    fit (Like-any_back m items codes zero h)
not_whole m set items codes Whole none fit other h = other refl
not_whole m set items codes (Gap more rest) none fit other h =
    true≢false (sym fit.some_any ∙ none)

-- One character less to pass over.
pub skip_one : (left : ℕ) (codes behind : List ℕ) (code : ℕ) → 1 ≤ left →
    codes ≡ code ∷ behind → drop (left - 1) behind ≡ drop left codes
skip_one zero codes behind code some e = absurd (omega (arith, some))
skip_one (suc left) codes behind code some e =
    let less : suc left - 1 ≡ left = omega arith in
    ap (λ k. drop k behind) less ∙ sym (ap (drop (suc left)) e)

pub ticks_most : (items : List PatternItem) (old new : ℕ) (answer : Fit) →
    Ticks items old new answer → new ≤ old + length items
ticks_most items old new Misfit ticks = ticks.0
ticks_most items old new Short ticks = ticks
ticks_most items old new Whole ticks = ticks.0
ticks_most items old new (Gap more rest) ticks = omega (arith, ticks.0)
