-- Rows that are lent, at a place and as the source of a statement.
use Rattle.std.proofs.Common.{◌≡◌, ℕ, ◌<◌, List, [], ◌∷◌, None, Some, refl, sym, ap, ◌∙◌}
use Rattle.std.proofs.Common.{subst}
use Rattle.std.proofs.Common.{arith, get_or, length, map}
use Rattle.std.proofs.lemmas.List.{get_or-map, get_or_default, length-map}
use Rattle.std.specs.Prelude.{All, Option, option_and_then, slice_get, unwrap_or}
use Rattle.mc_eval.specs.declared.truth.Truth.{Truth}
use Rattle.mc_gather.specs.Indexed.{rows_in}
use Rattle.mc_values.specs.declared.value.Value.{Value}
use Rattle.mc_exec.specs.Given.{Subject, alone}
use Rattle.mc_exec.specs.Kept.{kept}
use Rattle.mc_exec.specs.Steps.{kept_with, with_kept}
use Rattle.mc_exec.proofs.Scans.{all_kept}

-- What holds of each member holds of one at a place.
pub member : {A : Type 0} (P : A → Type 0) (xs : List A) → All P xs → (i : ℕ) (x : A)
    → i < length xs → x ≡ get_or xs i x → P x
member P xs h i x l e = subst P (sym e) (h i x l)

pub place_subject : (subjects : List Subject) (p : ℕ) (s : Subject) → p < length subjects
    → s ≡ get_or subjects p s → get_or subjects p (alone []) ≡ s
place_subject subjects p s h e = get_or_default subjects p (alone []) s h ∙ sym e

pub rows_are : (tables : List (List (List Value))) (place : ℕ) (rows : List (List Value))
    → slice_get tables place ≡ Some rows → rows_in tables place ≡ rows
rows_are tables place rows h = ap (λ o. unwrap_or o []) h

ended : {R : Type 0} (accepted : R → Truth) (o : Option (List R))
    → option_and_then (λ more. with_kept accepted more []) o ≡ o
unfolding with_kept
ended accepted None = refl
ended accepted (Some l) = refl

pub one_kept : {R : Type 0} (accepted : R → Truth) (row : R)
    → kept_with (accepted row) [] row ≡ kept accepted (row ∷ [])
unfolding with_kept
one_kept accepted row = sym (ended accepted (kept_with (accepted row) [] row))
    ∙ all_kept accepted (row ∷ [])

-- The same where it holds of members that are seen through a function.
pub member_seen : {A B : Type 0} (P : B → Type 0) (seen : A → B) (xs : List A)
    → All P (map seen xs) → (i : ℕ) (x : A) → i < length xs → x ≡ get_or xs i x → P (seen x)
member_seen P seen xs h i x l e =
    subst P (get_or-map seen xs i x (seen x) l ∙ ap seen (sym e))
    (h i (seen x) (omega (arith, l, length-map xs seen)))
