-- The rows that a scan keeps.
use Rattle.std.proofs.Common.{◌≡◌, ℕ, ◌+◌, ◌≤◌, Bool, true, false, List, [], ◌∷◌, ◌++◌}
use Rattle.std.proofs.Common.{None, Some, refl, sym, ap, ◌∙◌, append_assoc, drop, cond, length}
use Rattle.std.proofs.Common.{arith}
use Rattle.std.proofs.lemmas.List.{drop_all, drop_more}
use Rattle.std.proofs.lemmas.Option.{get_or_from_slice_get, slice_get_within}
use Rattle.std.proofs.lemmas.List.Elements.{recursion_from_All}
use Rattle.std.specs.Prelude.{All, ◌||◌, Option, filter, option_and_then, option_map, slice_get}
use Rattle.std.specs.Prelude.{if◌then◌else◌}
use Rattle.std.specs.List.{AllByRecursion, list_any}
use Rattle.mc_eval.specs.declared.truth.Truth.{Truth}
use Rattle.mc_eval.specs.declared.truth.Truth.TheVariants.{No, Faulty, Unknown, Yes}
use Rattle.mc_exec.specs.Kept.{is_faulty, is_yes, kept}
use Rattle.mc_exec.specs.Steps.{GoesOn, kept_with, with_kept}

-- From the member at a place on.
pub drop_get : {A : Type 0} (xs : List A) (i : ℕ) (x : A) → slice_get xs i ≡ Some x
    → drop i xs ≡ x ∷ drop (i + 1) xs
drop_get xs i x h = drop_more xs i x (slice_get_within xs i x h)
    ∙ ap (λ y. y ∷ drop (i + 1) xs) (get_or_from_slice_get xs i x x h)

append_empty : {A : Type 0} (xs : List A) → xs ++ [] ≡ xs
append_empty [] = refl
append_empty (x ∷ xs) = ap (λ l. x ∷ l) (append_empty xs)

module _ {R : Type 0} (accepted : R → Truth) where
  abbrev any_faulty : List R → Bool
  any_faulty rows = list_any (λ row. is_faulty (accepted row)) rows

  abbrev yes : List R → List R
  yes rows = filter (λ row. is_yes (accepted row)) rows

  abbrev after : List R → Bool → List R → Option (List R)
  after found faulty more = option_map (λ rows. found ++ rows) (if faulty then None else Some more)

  moved : (found : List R) (row : R) (faulty : Bool) (more : List R)
      → after (found ++ row ∷ []) faulty more ≡ after found faulty (row ∷ more)
  moved found row true more = refl
  moved found row false more = simp append_assoc

  pub with_kept_is : (found rows : List R) → with_kept accepted found rows
      ≡ after found (any_faulty rows) (yes rows)
  unfolding with_kept
  with_kept_is found [] = ap (λ rows. Some rows) (sym (append_empty found))
  with_kept_is found (row ∷ rows) = elim (accepted row) as (λ t.
      option_and_then (λ more. with_kept accepted more rows) (kept_with t found row)
      ≡ after found (is_faulty t || any_faulty rows) (cond (is_yes t) (row ∷ yes rows)
      (yes rows))) [
        | No ↦ with_kept_is found rows
        | Faulty ↦ refl
        | Unknown ↦ with_kept_is found rows
        | Yes ↦ with_kept_is (found ++ row ∷ []) rows ∙ moved found row (any_faulty rows) (yes rows)
      ]

  bare : (faulty : Bool) (more : List R)
      → after [] faulty more ≡ (if faulty then None else Some more)
  bare true more = refl
  bare false more = refl

  pub all_kept : (rows : List R) → with_kept accepted [] rows ≡ kept accepted rows
  unfolding kept
  all_kept rows = with_kept_is [] rows ∙ bare (any_faulty rows) (yes rows)

  -- So far these rows are kept.
  pub record IsScanned (rows first : List R) (i : ℕ) (found : List R) : Type 0 where
    pub told : with_kept accepted found (drop i rows) ≡ with_kept accepted first rows

  opened : (found : List R) (row : R) (rest : List R) (o : Option (List R))
      → kept_with (accepted row) found row ≡ o
      → with_kept accepted found (row ∷ rest) ≡ option_and_then
      (λ more. with_kept accepted more rest) o
  unfolding with_kept
  opened found row rest o e = ap (option_and_then (λ more. with_kept accepted more rest)) e

  pub scan_more : (rows first : List R) (i : ℕ) (found more : List R) (row : R)
      → slice_get rows i ≡ Some row → IsScanned rows first i found
      → kept_with (accepted row) found row ≡ Some more → IsScanned rows first (i + 1) more
  scan_more rows first i found more row h s e = record {
    told = sym (ap (with_kept accepted found) (drop_get rows i row h)
        ∙ opened found row (drop (i + 1) rows) (Some more) e) ∙ s.told;
  }

  pub scan_none : (rows first : List R) (i : ℕ) (found : List R) (row : R)
      → slice_get rows i ≡ Some row → IsScanned rows first i found
      → kept_with (accepted row) found row ≡ None → with_kept accepted first rows ≡ None
  scan_none rows first i found row h s e = sym s.told
      ∙ (ap (with_kept accepted found) (drop_get rows i row h)
      ∙ opened found row (drop (i + 1) rows) None e)

  pub scan_end : (rows first : List R) (i : ℕ) (found : List R) → length rows ≤ i
      → IsScanned rows first i found → with_kept accepted first rows ≡ Some found
  unfolding with_kept
  scan_end rows first i found h s = sym s.told ∙ ap (with_kept accepted found) (drop_all i rows h)

-- A counter that went on twice.
pub goes_on : (like : Bool) (first old new : ℕ) → GoesOn like first old → GoesOn like old new
    → GoesOn like first new
goes_on like first old new a b = record {
  still = λ none. b.still none ∙ a.still none;
  later = omega (arith, a.later, b.later);
}

-- Rows that are rejected may be left out.

abbrev IsLeft : {R : Type 0} → (R → Truth) → (R → Bool) → R → Type 0
IsLeft accepted chosen row = chosen row ≡ false → accepted row ≡ No

faulty_left : {R : Type 0} (accepted : R → Truth) (chosen : R → Bool) (rows : List R)
    → AllByRecursion (IsLeft accepted chosen) rows
    → any_faulty accepted (filter chosen rows) ≡ any_faulty accepted rows
faulty_left accepted chosen [] h = refl
faulty_left accepted chosen (row ∷ rows) h =
    let more = faulty_left accepted chosen rows h.1 in
    elim (chosen row) as (λ b. (b ≡ false → accepted row ≡ No)
    → any_faulty accepted (cond b (row ∷ filter chosen rows) (filter chosen rows))
    ≡ (is_faulty (accepted row) || any_faulty accepted rows)) [
      | true ↦ λ e. ap (λ b. is_faulty (accepted row) || b) more
      | false ↦ λ e. more ∙ ap (λ t. is_faulty t || any_faulty accepted rows) (sym (e refl))
    ] h.0

yes_left : {R : Type 0} (accepted : R → Truth) (chosen : R → Bool) (rows : List R)
    → AllByRecursion (IsLeft accepted chosen) rows
    → yes accepted (filter chosen rows) ≡ yes accepted rows
yes_left accepted chosen [] h = refl
yes_left accepted chosen (row ∷ rows) h =
    let more = yes_left accepted chosen rows h.1 in
    elim (chosen row) as (λ b. (b ≡ false → accepted row ≡ No)
    → yes accepted (cond b (row ∷ filter chosen rows) (filter chosen rows))
    ≡ cond (is_yes (accepted row)) (row ∷ yes accepted rows) (yes accepted rows)) [
      | true ↦ λ e. ap (λ l. cond (is_yes (accepted row)) (row ∷ l) l) more
      | false ↦ λ e. more
          ∙ ap (λ t. cond (is_yes t) (row ∷ yes accepted rows) (yes accepted rows)) (sym (e refl))
    ] h.0

pub kept_left : {R : Type 0} (accepted : R → Truth) (chosen : R → Bool) (rows : List R)
    → All (IsLeft accepted chosen) rows
    → kept accepted (filter chosen rows) ≡ kept accepted rows
unfolding kept
kept_left accepted chosen rows h =
    let each = recursion_from_All (IsLeft accepted chosen) rows h in
    ap (λ b. if b then None else Some (yes accepted (filter chosen rows)))
    (faulty_left accepted chosen rows each)
    ∙ ap (λ l. if any_faulty accepted rows then None else Some l)
    (yes_left accepted chosen rows each)
