-- A character is safe where no contraction begins with one of its weights, and the code decides it.
use Rattle.std.proofs.Common.{◌≡◌, ◌↔◌, ℕ, zero, suc, ◌<◌, Bool, true, false, not, ◌||◌, List, []}
use Rattle.std.proofs.Common.{◌∷◌}
use Rattle.std.proofs.Common.{length, get_or, refl, sym, ap, ◌∙◌, subst, arith, IsTrue, Option}
use Rattle.std.proofs.Common.{Some, None}
use Rattle.std.specs.Cmp.{both_ways}
use Rattle.std.specs.List.{list_any, Contains}
use Rattle.std.proofs.lemmas.List.Folds.{list_any_at}
use Rattle.std.proofs.lemmas.Slice.Eq.{bytes_eq-Decides}
use Rattle.mc_charset.specs.declared.charset.Charset.{Charset}
use Rattle.mc_order.specs.Characters.{AreCharsOf-parts}
use Rattle.mc_order.specs.Consequences.{CharsAreCut}
use Rattle.mc_order.specs.Meaning.{Meaning, flat_list, first_chars, IsCharOf, AreCharsOf, IsSafe}
use Rattle.mc_range.proofs.Candidates.{Contains-first, Contains-behind}
use Rattle.mc_range.specs.Finds.{SafeIsDecided}
use Rattle.mc_range.specs.Safe.{begins_like, is_safe}

behind : {X : Type 0} (p : X → Bool) (x : X) (xs : List X) →
    (y : X) × Contains xs y × (p y ≡ true) → (y : X) × Contains (x ∷ xs) y × (p y ≡ true)
behind p x xs found = (found.0, Contains-behind x xs found.0 found.1, found.2)

member_by : {X : Type 0} (p : X → Bool) (x : X) (xs : List X) (here : Bool) → p x ≡ here →
    list_any p (x ∷ xs) ≡ true →
    (list_any p xs ≡ true → (y : X) × Contains xs y × (p y ≡ true)) →
    (y : X) × Contains (x ∷ xs) y × (p y ≡ true)
member_by p x xs true e h rest = (x, Contains-first x xs, e)
member_by p x xs false e h rest =
    behind p x xs (rest (ap (λ b. b || list_any p xs) (sym e) ∙ h))

-- Where some member passes, one that is there does.
passing_member : {X : Type 0} (p : X → Bool) (xs : List X) → list_any p xs ≡ true →
    (x : X) × Contains xs x × (p x ≡ true)
passing_member p [] h = absurd (let never : ⊥ = cc in never)
passing_member p (x ∷ xs) h = member_by p x xs (p x) refl h (passing_member p xs)

is_contained : {X : Type 0} (p : X → Bool) (xs : List X) (x : X) → Contains xs x → p x ≡ true →
    list_any p xs ≡ true
is_contained p xs x among passes =
    list_any_at p xs among.0 x among.1 (ap p among.2 ∙ passes)

not_true : (b : Bool) → not b ≡ true → b ≡ true → ⊥
not_true true h e = cc
not_true false h e = cc

not_from : (b : Bool) → (b ≡ true → ⊥) → not b ≡ true
not_from true h = absurd (h refl)
not_from false h = refl

contained_head : (m : Meaning) (code : ℕ) → IsSafe m code → (codes : List ℕ) →
    Contains m.contractions codes → begins_like m code codes ≡ true → ⊥
contained_head m code safe [] among passes = cc
contained_head m code safe (head ∷ rest) among passes =
    safe head (rest, among)
    ((bytes_eq-Decides (flat_list m (code ∷ [])) (flat_list m (head ∷ []))).0 passes)

pub safe_is_decided : (m : Meaning) → SafeIsDecided m
safe_is_decided m code = (
  λ h head is same. not_true (list_any (begins_like m code) m.contractions) h
      (is_contained (begins_like m code) m.contractions (head ∷ is.0) is.1
      ((bytes_eq-Decides (flat_list m (code ∷ [])) (flat_list m (head ∷ []))).1 same)),
  λ safe. not_from (list_any (begins_like m code) m.contractions)
      (λ h. let found = passing_member (begins_like m code) m.contractions h in
      contained_head m code safe found.0 found.1 found.2),
)

-- An answer that says the same is the same.
pub safe_answered : (m : Meaning) (code : ℕ) (answer : Bool) → IsTrue answer ↔ IsSafe m code →
    answer ≡ is_safe m code
safe_answered m code answer says =
    both_ways answer (is_safe m code) (λ h. (safe_is_decided m code).1 (says.0 h))
    (λ h. says.1 ((safe_is_decided m code).0 h))

-- Each of the characters of a list is one of the set.
pub char_at : (set : Charset) (codes : List ℕ) (i d : ℕ) → AreCharsOf set codes →
    i < length codes → IsCharOf set (get_or codes i d)
char_at set [] i d all within = absurd (omega arith)
char_at set (code ∷ codes) zero d all within = (AreCharsOf-parts set code codes all).0
char_at set (code ∷ codes) (suc i) d all within =
    char_at set codes i d (AreCharsOf-parts set code codes all).1 (omega arith)

-- The first characters, as many as an index keeps, are characters of the set.
pub kept_chars : (set : Charset) → CharsAreCut set → (prefix : Option ℕ)
    (codes front : List ℕ) → front ≡ first_chars prefix codes → AreCharsOf set codes →
    AreCharsOf set front
kept_chars set cut None codes front e h = subst (AreCharsOf set) (sym e) h
kept_chars set cut (Some k) codes front e h = subst (AreCharsOf set) (sym e) (cut k codes h).0
