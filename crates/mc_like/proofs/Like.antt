-- LIKE, item by item.
use Rattle.std.proofs.Common.{◌≡◌, ℕ, zero, suc, ◌+◌, ◌↔◌, ◌⊎◌, inl, inr, List, [], ◌∷◌, length}
use Rattle.std.proofs.Common.{drop, refl, ap, ◌∙◌, sym, subst, arith}
use Rattle.std.proofs.Math.Seq.{drop-nil}
use Rattle.std.proofs.lemmas.List.{drop_all, drop-drop}
use Rattle.mc_order.specs.Meaning.{Meaning}
use Rattle.mc_like.specs.declared.item.PatternItem.{PatternItem}
use Rattle.mc_like.specs.declared.item.PatternItem.TheVariants.{Literal, One, Any}
use Rattle.mc_like.specs.Fronts.{Takes}
use Rattle.mc_like.specs.Like.{Like}

-- The item is not `%`.
pub record IsSingle (item : PatternItem) : Type 0 where
  pub other : item ≡ Any → ⊥

pub Like-end : (m : Meaning) → Like m [] []
unfolding Like
Like-end m = tt

pub Like-end_left : (m : Meaning) (code : ℕ) (codes : List ℕ) → Like m [] (code ∷ codes) → ⊥
unfolding Like
Like-end_left m code codes h = h

pub Like-end_right : (m : Meaning) (item : PatternItem) (items : List PatternItem) → IsSingle item →
    Like m (item ∷ items) [] → ⊥
unfolding Like
Like-end_right m (Literal literal) items single h = h
Like-end_right m One items single h = h
Like-end_right m Any items single h = absurd (single.other refl)

pub Like-single : (m : Meaning) (item : PatternItem) (items : List PatternItem) (code : ℕ)
    (codes : List ℕ) →
    IsSingle item → Like m (item ∷ items) (code ∷ codes) → Takes m item code × Like m items codes
unfolding Like
Like-single m (Literal literal) items code codes single h = h
Like-single m One items code codes single h = (tt, h)
Like-single m Any items code codes single h = absurd (single.other refl)

pub Like-single_back : (m : Meaning) (item : PatternItem) (items : List PatternItem) (code : ℕ)
    (codes : List ℕ) → IsSingle item → Takes m item code → Like m items codes →
    Like m (item ∷ items) (code ∷ codes)
unfolding Like
Like-single_back m (Literal literal) items code codes single t h = (t, h)
Like-single_back m One items code codes single t h = h
Like-single_back m Any items code codes single t h = absurd (single.other refl)

pub Like-any : (m : Meaning) (items : List PatternItem) (codes : List ℕ) →
    Like m (Any ∷ items) codes →
    (cut : ℕ) × Like m items (drop cut codes)
unfolding Like
Like-any m items codes h = h

pub Like-any_back : (m : Meaning) (items : List PatternItem) (codes : List ℕ) (cut : ℕ) →
    Like m items (drop cut codes) → Like m (Any ∷ items) codes
unfolding Like
Like-any_back m items codes cut h = (cut, h)

drop-one_more : (k : ℕ) (codes : List ℕ) → drop 1 (drop k codes) ≡ drop (suc k) codes
drop-one_more zero codes = refl
drop-one_more (suc k) [] = refl
drop-one_more (suc k) (code ∷ codes) = drop-one_more k codes

single_tail : (m : Meaning) (item : PatternItem) (items : List PatternItem) (codes : List ℕ) →
    IsSingle item →
    Like m (item ∷ items) codes → Like m items (drop 1 codes)
single_tail m item items [] single h = absurd (Like-end_right m item items single h)
single_tail m item items (code ∷ codes) single h = (Like-single m item items code codes single h).1

-- What a character's item leaves behind a cut, in front of the character or behind it.
pub single_behind : (m : Meaning) (item : PatternItem) (items : List PatternItem) (k code : ℕ)
    (codes : List ℕ) → IsSingle item → Like m (item ∷ items) (drop k (code ∷ codes)) →
    Like m items (drop k codes)
single_behind m item items zero code codes single h =
    (Like-single m item items code codes single h).1
single_behind m item items (suc k) code codes single h =
    subst (Like m items) (drop-one_more k codes)
    (single_tail m item items (drop k codes) single h)

-- A `%` takes also what was passed over in front of it.
pub any_absorbs : (m : Meaning) (items : List PatternItem) (k : ℕ) (codes : List ℕ) →
    Like m (Any ∷ items) (drop k codes) → Like m (Any ∷ items) codes
any_absorbs m items k codes h =
    let some = Like-any m items (drop k codes) h in
    Like-any_back m items codes (k + some.0)
    (subst (Like m items) (drop-drop some.0 k codes) some.1)

pub any_alone : (m : Meaning) (codes : List ℕ) → Like m (Any ∷ []) codes
any_alone m codes =
    Like-any_back m [] codes (length codes)
    (subst (Like m []) (sym (drop_all (length codes) codes (omega arith))) (Like-end m))

-- Where the rest does not match here, a `%` takes one character more.
pub any_goes_on : (m : Meaning) (items : List PatternItem) (codes behind : List ℕ) (code : ℕ) →
    codes ≡ code ∷ behind → (Like m items codes → ⊥) →
    Like m (Any ∷ items) behind ↔ Like m (Any ∷ items) codes
any_goes_on m items codes behind code e never = (
  λ h. let some = Like-any m items behind h in
      Like-any_back m items codes (suc some.0)
      (subst (λ (t : List ℕ). Like m items (drop (suc some.0) t)) (sym e) some.1),
  λ h. let some = Like-any m items codes h in one_more some.0 some.1,
)
  where
    one_more : (cut : ℕ) → Like m items (drop cut codes) → Like m (Any ∷ items) behind
    one_more zero h = absurd (never h)
    one_more (suc cut) h =
        Like-any_back m items behind cut
        (subst (λ (t : List ℕ). Like m items (drop (suc cut) t)) e h)

pub any_nowhere : (m : Meaning) (items : List PatternItem) (codes : List ℕ) → codes ≡ [] →
    (Like m items codes → ⊥) → Like m (Any ∷ items) codes → ⊥
any_nowhere m items codes e never h =
    let some = Like-any m items codes h in
    let none : drop some.0 codes ≡ codes = ap (drop some.0) e ∙ drop-nil some.0 ∙ sym e in
    never (subst (Like m items) none some.1)

-- `_` takes each character, and so does `%`.
pub takes_each : (m : Meaning) (item : PatternItem) (code : ℕ) → (item ≡ One) ⊎ (item ≡ Any) →
    Takes m item code
takes_each m (Literal literal) code (inl e) = absurd (let h : ⊥ = cc in h)
takes_each m (Literal literal) code (inr e) = absurd (let h : ⊥ = cc in h)
takes_each m One code e = tt
takes_each m Any code e = tt
