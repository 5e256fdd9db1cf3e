-- The first member that gives something, sought from the front.
use Rattle.std.proofs.Common.{◌≡◌, ℕ, zero, suc, ◌+◌, ◌≤◌, List, [], ◌∷◌, Some, None, length, take}
use Rattle.std.proofs.Common.{refl, sym, ap, subst, ◌∙◌, add-one}
use Rattle.std.proofs.lemmas.List.{take_all}
use Rattle.std.specs.Prelude.{IsSomeAnd, Option, option_map, slice_get}
use Rattle.mc_plan.specs.Plans.{first_given}

module _ {A B : Type 0} (given : A → Option B) where
  -- one place further
  abbrev behind : Option (ℕ × B) → Option (ℕ × B)
  behind o = option_map (λ found. (suc found.0, found.1)) o

  -- what a member gives, or else what the others do
  abbrev first_or : Option B → List A → Option (ℕ × B)
  first_or None xs = behind (first_given given xs)
  first_or (Some y) xs = Some (0, y)

  opened : (x : A) (xs : List A) (o : Option B) → given x ≡ o
      → first_given given (x ∷ xs) ≡ first_or o xs
  unfolding first_given
  opened x xs None e = ap (λ o. elim o as (λ _. Option (ℕ × B)) [
    | Some it ↦ Some (0, it)
    | None ↦ option_map (λ found. (suc found.0, found.1)) (first_given given xs)
  ]) e
  opened x xs (Some y) e = ap (λ o. elim o as (λ _. Option (ℕ × B)) [
    | Some it ↦ Some (0, it)
    | None ↦ option_map (λ found. (suc found.0, found.1)) (first_given given xs)
  ]) e

  empty : first_given given [] ≡ None
  unfolding first_given
  empty = refl

  behind_none : (o : Option (ℕ × B)) → behind o ≡ None → o ≡ None
  behind_none None h = refl
  behind_none (Some found) h = absurd (cc)

  -- None of the first members gives something.
  pub record NoneYet (xs : List A) (i : ℕ) : Type 0 where
    pub none : first_given given (take i xs) ≡ None

  pub none_yet : (xs : List A) → NoneYet xs 0
  none_yet xs = record { none = empty }

  rest_none : (x : A) (xs : List A) (o : Option B) → given x ≡ o
      → first_given given (x ∷ xs) ≡ None → (o ≡ None) × (first_given given xs ≡ None)
  rest_none x xs None e h =
      (refl, behind_none (first_given given xs) (sym (opened x xs None e) ∙ h))
  rest_none x xs (Some y) e h =
      absurd (let k : first_or (Some y) xs ≡ None = sym (opened x xs (Some y) e) ∙ h in cc)

  more : (xs : List A) (i : ℕ) (x : A) → slice_get xs i ≡ Some x → given x ≡ None
      → first_given given (take i xs) ≡ None → first_given given (take (suc i) xs) ≡ None
  more [] i x e g h = absurd (cc)
  more (y ∷ xs) zero x e g h =
      let same : y ≡ x = cc in opened y [] None (ap given same ∙ g) ∙ ap behind empty
  more (y ∷ xs) (suc i) x e g h =
      let r = rest_none y (take i xs) (given y) refl h in
      opened y (take (suc i) xs) None r.0 ∙ ap behind (more xs i x e g r.1)

  here : (xs : List A) (i : ℕ) (x : A) (y : B) → slice_get xs i ≡ Some x → given x ≡ Some y
      → first_given given (take i xs) ≡ None → first_given given xs ≡ Some (i, y)
  here [] i x y e g h = absurd (cc)
  here (z ∷ xs) zero x y e g h =
      let same : z ≡ x = cc in opened z xs (Some y) (ap given same ∙ g)
  here (z ∷ xs) (suc i) x y e g h =
      let r = rest_none z (take i xs) (given z) refl h in
      opened z xs None r.0 ∙ ap behind (here xs i x y e g r.1)

  pub none_more : (xs : List A) (i : ℕ) (x : A) (o : Option B) → slice_get xs i ≡ Some x
      → o ≡ None → o ≡ given x → NoneYet xs i → NoneYet xs (i + 1)
  none_more xs i x o e n g h = subst (NoneYet xs) (sym (add-one i))
      (record { none = more xs i x e (sym g ∙ n) h.none })

  pub found_here : (xs : List A) (i number : ℕ) (x : A) (y : B) (o : Option B)
      → slice_get xs i ≡ Some x → number ≡ i → o ≡ Some y → o ≡ given x → NoneYet xs i
      → Some (number, y) ≡ first_given given xs
  found_here xs i number x y o e n s g h = ap (λ k. Some (k, y)) n
      ∙ sym (here xs i x y e (sym g ∙ s) h.none)

  pub none_found : (xs : List A) (i : ℕ) → length xs ≤ i → NoneYet xs i
      → None ≡ first_given given xs
  none_found xs i l h = sym (ap (first_given given) (sym (take_all i xs l)) ∙ h.none)

  some_behind : (o : Option (ℕ × B)) (found : ℕ × B) → behind o ≡ Some found
      → (it : ℕ × B) × (o ≡ Some it) × (suc it.0 ≡ found.0) × (it.1 ≡ found.1)
  some_behind None found h = absurd (cc)
  some_behind (Some it) found h =
      let k : (suc it.0, it.1) ≡ found = cc in
      (it, refl, ap (λ r. r.0) k, ap (λ r. r.1) k)

  -- The member at a place gives this.
  abbrev pub IsGivenAt : List A → ℕ × B → Type 0
  IsGivenAt xs found = IsSomeAnd (slice_get xs found.0) (λ x. given x ≡ Some found.1)

  given_by : (x : A) (xs : List A) (found : ℕ × B) (o : Option B) → given x ≡ o
      → first_or o xs ≡ Some found
      → ((it : ℕ × B) → first_given given xs ≡ Some it → IsGivenAt xs it)
      → IsGivenAt (x ∷ xs) found
  given_by x xs found (Some y) e h others =
      let p : (0, y) ≡ found = cc in subst (IsGivenAt (x ∷ xs)) p e
  given_by x xs found None e h others =
      let s = some_behind (first_given given xs) found h in
      subst (λ n. IsSomeAnd (slice_get (x ∷ xs) n) (λ z. given z ≡ Some found.1)) s.2
      (subst (λ y. IsSomeAnd (slice_get xs s.0.0) (λ z. given z ≡ Some y)) s.3
      (others s.0 s.1))

  -- What was found is given by the member at its place.
  pub is_given : (xs : List A) (found : ℕ × B) → first_given given xs ≡ Some found
      → IsGivenAt xs found
  is_given [] found h = let k : None ≡ Some found = sym empty ∙ h in absurd (cc)
  is_given (x ∷ xs) found h =
      given_by x xs found (given x) refl (sym (opened x xs (given x) refl) ∙ h) (is_given xs)
