-- What rows give at places, each of which stands among them.
use Rattle.std.proofs.Common.{◌≡◌, ℕ, zero, suc, ◌<◌, List, [], ◌∷◌, None, Some, refl}
use Rattle.std.proofs.Common.{sym, ap}
use Rattle.std.proofs.Common.{◌∙◌, inl, inr, get_or, length, map, arith}
use Rattle.std.specs.List.{AllByRecursion}
use Rattle.std.specs.Prelude.{Option, option_and_then, option_map}
use Rattle.mc_exec.proofs.Sorted.{In}
use Rattle.mc_exec.specs.Given.{all_of}

module _ {A B : Type 0} (given : A → Option B) (a : A) (b : B) where
  abbrev at_place : List A → ℕ → Option B
  at_place rows place = given (get_or rows place a)

  -- What the first gives and what the others give.
  parts : (x : A) (o : Option B) (p : Option (List B)) (items : List B)
      → option_and_then (λ first. option_map (λ others. first ∷ others) p) o ≡ Some items
      → (first : B) × ((others : List B) × (o ≡ Some first) × (p ≡ Some others)
      × (items ≡ first ∷ others))
  parts x None p items e = absurd (cc)
  parts x (Some first) None items e = absurd (cc)
  parts x (Some first) (Some others) items e = (first, (others, refl, refl, cc))

  gives_at : (rows : List A) (items : List B) → all_of given rows ≡ Some items → (place : ℕ)
      → place < length rows → at_place rows place ≡ Some (get_or items place b)
  unfolding all_of
  gives_at [] items e place h = absurd (omega arith)
  gives_at (x ∷ rows) items e zero h =
      let p = parts x (given x) (all_of given rows) items e in
      p.1.1 ∙ ap (λ l. Some (get_or l 0 b)) (sym p.1.3)
  gives_at (x ∷ rows) items e (suc place) h =
      let p = parts x (given x) (all_of given rows) items e in
      gives_at rows p.1.0 p.1.2 place (omega arith)
      ∙ ap (λ l. Some (get_or l (suc place) b)) (sym p.1.3)

  all_placed : (rows : List A) (items : List B) → all_of given rows ≡ Some items
      → (places : List ℕ) → AllByRecursion (λ place. place < length rows) places
      → all_of (at_place rows) places ≡ Some (map (λ place. get_or items place b) places)
  unfolding all_of
  all_placed rows items e [] h = refl
  all_placed rows items e (place ∷ places) h =
      ap (option_and_then
      (λ first. option_map (λ others. first ∷ others) (all_of (at_place rows) places)))
      (gives_at rows items e place h.0)
      ∙ ap (option_map (λ others. get_or items place b ∷ others))
      (all_placed rows items e places h.1)

  abbrev IsMissing : List A → Type 0
  IsMissing rows = (place : ℕ) × ((place < length rows) × (at_place rows place ≡ None))

  missing_in : (x : A) (rows : List A) (o : Option B) (p : Option (List B)) → given x ≡ o
      → (p ≡ None → IsMissing rows)
      → option_and_then (λ first. option_map (λ others. first ∷ others) p) o ≡ None
      → IsMissing (x ∷ rows)
  missing_in x rows None p f g k = (zero, (omega arith, f))
  missing_in x rows (Some first) None f g k =
      let m = g refl in let lt = m.1.0 in (suc m.0, (omega (arith, lt), m.1.1))
  missing_in x rows (Some first) (Some others) f g k = absurd (cc)

  missing : (rows : List A) → all_of given rows ≡ None → IsMissing rows
  unfolding all_of
  missing [] e = absurd (cc)
  missing (x ∷ rows) e =
      missing_in x rows (given x) (all_of given rows) refl (λ f. missing rows f) e

  ends_none : (o : Option B) (p : Option (List B)) → p ≡ None
      → option_and_then (λ first. option_map (λ others. first ∷ others) p) o ≡ None
  ends_none None p e = refl
  ends_none (Some first) p e = ap (option_map (λ others. first ∷ others)) e

  none_placed : (rows : List A) (place : ℕ) → at_place rows place ≡ None → (places : List ℕ)
      → In place places → all_of (at_place rows) places ≡ None
  unfolding all_of
  none_placed rows place e [] i = absurd i
  none_placed rows place e (q ∷ places) (inl f) =
      ap (option_and_then
      (λ first. option_map (λ others. first ∷ others) (all_of (at_place rows) places)))
      (ap (at_place rows) (sym f) ∙ e)
  none_placed rows place e (q ∷ places) (inr i) =
      ends_none (at_place rows q) (all_of (at_place rows) places)
      (none_placed rows place e places i)

  either : (rows : List A) (places : List ℕ)
      → AllByRecursion (λ place. place < length rows) places
      → ((place : ℕ) → place < length rows → In place places)
      → (o : Option (List B)) → all_of given rows ≡ o → all_of (at_place rows) places
      ≡ option_map (λ items. map (λ place. get_or items place b) places) o
  either rows places h f (Some items) e = all_placed rows items e places h
  either rows places h f None e =
      let m = missing rows e in none_placed rows m.0 m.1.1 places (f m.0 m.1.0)

  -- Places that are all of the rows' places, in any order.
  pub placed : (rows : List A) (places : List ℕ)
      → AllByRecursion (λ place. place < length rows) places
      → ((place : ℕ) → place < length rows → In place places)
      → all_of (at_place rows) places
      ≡ option_map (λ items. map (λ place. get_or items place b) places) (all_of given rows)
  placed rows places h f = either rows places h f (all_of given rows) refl
