-- How many literals items have.
use Rattle.std.proofs.Common.{◌≡◌, ℕ, suc, true, false, ◌==◌, ◌+◌, ◌*◌, ◌≤◌, subst, ◌⊎◌, inl, inr}
use Rattle.std.proofs.Common.{List, [], ◌∷◌, refl, min, arith}
use Rattle.std.proofs.lemmas.Bool.Decides.{nat_tests}
use Rattle.mc_like.specs.declared.item.PatternItem.{PatternItem}
use Rattle.mc_like.specs.declared.item.PatternItem.TheVariants.{Literal, One, Any}
use Rattle.mc_like.specs.Items.{literal_count}

pub literal_count-none : literal_count [] ≡ 0
unfolding literal_count
literal_count-none = refl

pub literal_count-literal : (code : ℕ) (items : List PatternItem) →
    literal_count (Literal code ∷ items) ≡ 1 + literal_count items
unfolding literal_count
literal_count-literal code items = refl

pub literal_count-one : (items : List PatternItem) →
    literal_count (One ∷ items) ≡ literal_count items
unfolding literal_count
literal_count-one items = refl

pub literal_count-any : (items : List PatternItem) →
    literal_count (Any ∷ items) ≡ literal_count items
unfolding literal_count
literal_count-any items = refl

pub literal_count-cons : (item : PatternItem) (items : List PatternItem) →
    literal_count (item ∷ items) ≡ literal_count (item ∷ []) + literal_count items
unfolding literal_count
literal_count-cons (Literal code) items = omega arith
literal_count-cons One items = omega arith
literal_count-cons Any items = omega arith

pub no_literal : (item : PatternItem) → (item ≡ One) ⊎ (item ≡ Any) → literal_count (item ∷ []) ≡ 0
unfolding literal_count
no_literal (Literal code) (inl e) = cc
no_literal (Literal code) (inr e) = cc
no_literal One e = refl
no_literal Any e = refl

-- What a count of steps has at least, one item further.
pub at_least_more : (first all old left new here more last : ℕ) →
    min (first + all) last ≤ min (old + left) last → left ≡ here + more →
    min (old + here) last ≤ new → min (first + all) last ≤ min (new + more) last
at_least_more first all old left new here more last h e t = omega arith

-- What a search has at most, one character further.
pub at_most_misfit : (first old new all rest behind items most : ℕ) → rest ≡ suc behind →
    new ≤ old + items → items ≤ most →
    old + rest * (most + 1) + items ≤ first + all * (most + 1) + most →
    new + behind * (most + 1) + items ≤ first + all * (most + 1) + most
at_most_misfit first old new all rest behind items most e t s h =
    let one = subst (λ r. old + r * (most + 1) + items ≤ first + all * (most + 1) + most) e h in
    omega arith

pub is_zero : (n : ℕ) → true ≡ (n == 0) → n ≡ 0
is_zero n e = grind (arith, nat_tests)

pub is_some : (n : ℕ) → false ≡ (n == 0) → 1 ≤ n
is_some n e = grind (arith, nat_tests)

pub ruleset counts = (
  literal_count-none,
  literal_count-literal,
  literal_count-one,
  literal_count-any,
)
