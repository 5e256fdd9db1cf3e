-- What it means to have gone over items, one character each.
use Rattle.std.proofs.Common.{◌≡◌, ℕ, zero, true, ◌+◌, ◌≤◌, List, [], ◌∷◌, length, drop, refl, ap}
use Rattle.std.proofs.Common.{◌∙◌, subst, arith}
use Rattle.std.proofs.Math.Seq.{drop-nil}
use Rattle.mc_order.specs.Meaning.{Meaning}
use Rattle.mc_like.specs.declared.item.PatternItem.{PatternItem}
use Rattle.mc_like.specs.declared.item.PatternItem.TheVariants.{Any}
use Rattle.mc_like.specs.Fronts.{Takes, Reaches, has_any}
use Rattle.mc_like.specs.Like.{Like}
use Rattle.mc_like.proofs.LastItems.{has_any-any, has_any-more}
use Rattle.mc_like.proofs.Like.{IsSingle, Like-end, Like-end_left, Like-end_right, Like-single}
use Rattle.mc_like.proofs.Like.{Like-single_back, Like-any, Like-any_back, single_behind}
use Rattle.mc_like.proofs.Like.{any_absorbs}

-- From the items to what is left of them, one character each: what matches the rest matches all,
-- and what matches behind a cut matches the rest behind the same cut.
pub record Passes (m : Meaning) (items left : List PatternItem) (codes rest : List ℕ) : Type 0 where
  pub forward : (k : ℕ) → Like m items (drop k codes) → Like m left (drop k rest)
  pub back : Like m left rest → Like m items codes
  pub some_any : has_any left ≡ true → has_any items ≡ true
  pub shorter : length left ≤ length items
  pub one_each : length codes + length left ≡ length rest + length items

pub passes_none : (m : Meaning) (items : List PatternItem) (codes : List ℕ) →
    Passes m items items codes codes
passes_none m items codes = record {
  forward = λ k h. h;
  back = λ h. h;
  some_any = λ h. h;
  shorter = omega arith;
  one_each = refl;
}

passes_one : (m : Meaning) (items more : List PatternItem) (codes rest : List ℕ)
    (item : PatternItem) (code : ℕ) → IsSingle item → Takes m item code →
    Passes m items (item ∷ more) codes (code ∷ rest) → Passes m items more codes rest
passes_one m items more codes rest item code single takes p = record {
  forward = λ k h. single_behind m item more k code rest single (p.forward k h);
  back = λ h. p.back (Like-single_back m item more code rest single takes h);
  some_any = λ h. p.some_any (has_any-more item more h);
  shorter = omega (arith, p.shorter);
  one_each = omega (arith, p.one_each);
}

-- The same facts at equal lists, as the code has them.
moved : (m : Meaning) (items left others : List PatternItem) (codes rest more : List ℕ) →
    left ≡ others → rest ≡ more → Passes m items left codes rest → Passes m items others codes more
moved m items left others codes rest more e f p =
    subst (Passes m items others codes) f
    (subst (λ (l : List PatternItem). Passes m items l codes rest) e p)

pub at_one_more : (m : Meaning) (items left more : List PatternItem) (codes rest behind : List ℕ)
    (item : PatternItem) (code : ℕ) → Passes m items left codes rest → left ≡ item ∷ more →
    rest ≡ code ∷ behind → IsSingle item → Takes m item code → Passes m items more codes behind
at_one_more m items left more codes rest behind item code p e f single takes =
    passes_one m items more codes behind item code single takes
    (moved m items left (item ∷ more) codes rest (code ∷ behind) e f p)

pub at_any : (m : Meaning) (items left more : List PatternItem) (codes rest : List ℕ)
    (item : PatternItem) →
    Passes m items left codes rest → left ≡ item ∷ more → item ≡ Any →
    Reaches m items more codes rest
at_any m items left more codes rest item p' e any =
    let p = moved m items left (Any ∷ more) codes rest rest (e ∙ ap (λ i. i ∷ more) any) refl p' in
    record {
      whole = (p.forward zero, p.back);
      later = (
        λ h. let some = Like-any m items codes h in
            any_absorbs m more some.0 rest (p.forward some.0 some.1),
        λ h. Like-any_back m items codes zero (p.back h),
      );
      some_any = p.some_any (has_any-any more);
      shorter = omega (arith, p.shorter);
      one_each = omega (arith, p.one_each);
    }

pub at_text_end : (m : Meaning) (items left more : List PatternItem) (codes rest : List ℕ)
    (item : PatternItem) → Passes m items left codes rest → left ≡ item ∷ more → rest ≡ [] →
    IsSingle item → Like m (Any ∷ items) codes → ⊥
at_text_end m items left more codes rest item p' e f single h =
    let p = moved m items left (item ∷ more) codes rest [] e f p' in
    let some = Like-any m items codes h in
    Like-end_right m item more single
    (subst (Like m (item ∷ more)) (drop-nil some.0) (p.forward some.0 some.1))

pub at_misfit : (m : Meaning) (items left more : List PatternItem) (codes rest behind : List ℕ)
    (item : PatternItem) (code : ℕ) → Passes m items left codes rest → left ≡ item ∷ more →
    rest ≡ code ∷ behind → IsSingle item → (Takes m item code → ⊥) → Like m items codes → ⊥
at_misfit m items left more codes rest behind item code p' e f single never h =
    let p = moved m items left (item ∷ more) codes rest (code ∷ behind) e f p' in
    never (Like-single m item more code behind single (p.forward zero h)).0

pub at_items_end : (m : Meaning) (items left : List PatternItem) (codes rest behind : List ℕ)
    (code : ℕ) → Passes m items left codes rest → left ≡ [] → rest ≡ code ∷ behind →
    Like m items codes → ⊥
at_items_end m items left codes rest behind code p' e f h =
    let p = moved m items left [] codes rest (code ∷ behind) e f p' in
    Like-end_left m code behind (p.forward zero h)

pub at_both_ends : (m : Meaning) (items left : List PatternItem) (codes rest : List ℕ) →
    Passes m items left codes rest → left ≡ [] → rest ≡ [] → Like m items codes
at_both_ends m items left codes rest p' e f =
    let p = moved m items left [] codes rest [] e f p' in p.back (Like-end m)
