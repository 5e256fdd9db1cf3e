-- The answer of LIKE is what LIKE says.
use Rattle.std.proofs.Common.{◌≡◌, ◌↔◌, ℕ, zero, suc, ◌≤◌, Bool, true, IsTrue, List, [], ◌∷◌}
use Rattle.std.proofs.Common.{length, drop, refl, sym, ◌∙◌, subst, inl, inr, arith}
use Rattle.std.proofs.lemmas.Bool.{and_from, and_parts, cases_lt, or_cases, or_left, or_right}
use Rattle.std.proofs.lemmas.List.{drop_all}
use Rattle.std.proofs.lemmas.Slice.Eq.{bytes_eq-Decides}
use Rattle.mc_order.specs.Meaning.{Meaning, flat_list}
use Rattle.mc_like.specs.declared.item.PatternItem.TheVariants.{Literal, One, Any}
use Rattle.mc_like.specs.Laws.{LikeIsAnswered}
use Rattle.mc_like.specs.Like.{Like, is_like, is_same_char, some_up_to}

some_up_to-some : (test : ℕ → Bool) (most : ℕ) → some_up_to test most ≡ true →
    (cut : ℕ) × (test cut ≡ true)
some_up_to-some test zero h = (zero, h)
some_up_to-some test (suc most) h =
    elim (or_cases (test (suc most)) (some_up_to test most) h) [
      | inl first ↦ (suc most, first)
      | inr more ↦ some_up_to-some test most more
    ]

some_up_to-at : (test : ℕ → Bool) (most cut : ℕ) → cut ≤ most → test cut ≡ true →
    some_up_to test most ≡ true
some_up_to-at test zero cut within h =
    let e : cut ≡ zero = omega (arith, within) in subst (λ c. test c ≡ true) e h
some_up_to-at test (suc most) cut within h =
    elim (cases_lt most cut) [
      | inl above ↦
          let e : cut ≡ suc most = omega (arith, within, above) in
          or_left (test (suc most)) (some_up_to test most) (subst (λ c. test c ≡ true) e h)
      | inr below ↦
          or_right (test (suc most)) (some_up_to test most) (some_up_to-at test most cut below h)
    ]

-- A cut behind the end leaves what the one at the end leaves.
some_up_to-end : (test : List ℕ → Bool) (codes : List ℕ) (cut : ℕ) →
    test (drop cut codes) ≡ true → some_up_to (λ k. test (drop k codes)) (length codes) ≡ true
some_up_to-end test codes cut h =
    let at = some_up_to-at (λ k. test (drop k codes)) (length codes) in
    elim (cases_lt (length codes) cut) [
      | inl above ↦
          let e : drop cut codes ≡ drop (length codes) codes =
          drop_all cut codes (omega (arith, above))
          ∙ sym (drop_all (length codes) codes (omega arith)) in
          at (length codes) (omega arith) (subst (λ t. test t ≡ true) e h)
      | inr below ↦ at cut below h
    ]

same_char : (m : Meaning) (literal code : ℕ) →
    IsTrue (is_same_char m literal code)
    ↔ (flat_list m (literal ∷ []) ≡ flat_list m (code ∷ []))
same_char m literal code =
    bytes_eq-Decides (flat_list m (literal ∷ [])) (flat_list m (code ∷ []))

pub like_is_answered : (m : Meaning) → LikeIsAnswered m
unfolding Like is_like
like_is_answered m [] [] = (λ h. tt, λ h. refl)
like_is_answered m [] (code ∷ codes) = (λ h. let never : ⊥ = cc in never, λ h. absurd h)
like_is_answered m (Literal literal ∷ items) [] =
    (λ h. let never : ⊥ = cc in never, λ h. absurd h)
like_is_answered m (Literal literal ∷ items) (code ∷ codes) =
    let first = same_char m literal code in
    let more = like_is_answered m items codes in (
      λ h. let both = and_parts (is_same_char m literal code) (is_like m items codes) h in
          (first.0 both.0, more.0 both.1),
      λ h. and_from (is_same_char m literal code) (is_like m items codes) (first.1 h.0)
          (more.1 h.1),
    )
like_is_answered m (One ∷ items) [] = (λ h. let never : ⊥ = cc in never, λ h. absurd h)
like_is_answered m (One ∷ items) (code ∷ codes) = like_is_answered m items codes
like_is_answered m (Any ∷ items) codes = (
  λ h. let some = some_up_to-some (λ cut. is_like m items (drop cut codes)) (length codes) h in
      (some.0, (like_is_answered m items (drop some.0 codes)).0 some.1),
  λ h. some_up_to-end (is_like m items) codes h.0
      ((like_is_answered m items (drop h.0 codes)).1 h.1),
)
