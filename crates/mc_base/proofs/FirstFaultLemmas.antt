-- The first fault of lines, found line by line, and as a function.
use Rattle.std.proofs.Common.{◌≡◌, ℕ, zero, suc, ◌<◌, ◌≤◌, List, [], ◌∷◌, ◌++◌, length, take, Option, Some, None, ◌⊎◌, inl, inr, refl, sym, ap, ◌∙◌, arith}
use Rattle.std.specs.List.{slice_get}
use Rattle.std.proofs.Math.Seq.{take-append_seam}
use Rattle.std.proofs.lemmas.Bool.{cases_lt}
use Rattle.std.proofs.lemmas.List.{take-append-le, length-append}
use Rattle.std.proofs.lemmas.Option.{slice_get_within}
use Rattle.std.specs.Option.{option_or}
use Rattle.mc_base.specs.FirstFault.{HasNoFault, IsFirstFault, first_fault}

-- A place in front of what is appended.
get-append : {L : Type 0} (xs ys : List L) (k : ℕ) → k < length xs → slice_get (xs ++ ys) k ≡ slice_get xs k
get-append [] ys k h = absurd (omega arith)
get-append (x ∷ xs) ys zero h = refl
get-append (x ∷ xs) ys (suc k) h = get-append xs ys k (omega arith)

-- The place where the two lists meet.
get-seam : {L : Type 0} (xs : List L) (y : L) (ys : List L) → slice_get (xs ++ y ∷ ys) (length xs) ≡ Some y
get-seam [] y ys = refl
get-seam (x ∷ xs) y ys = get-seam xs y ys

-- What stands at one place is one thing.
some-injective : {L : Type 0} (x y : L) → Some x ≡ Some y → x ≡ y
some-injective x y e = grind arith

-- Lines without a fault have no first one.
pub first_fault-none : {L F : Type 0} (fault_of : List L → L → Option F) (lines : List L)
    → HasNoFault fault_of lines → first_fault fault_of lines ≡ None
first_fault-none fault_of [] h = refl
first_fault-none fault_of (line ∷ lines) h =
    ap (λ o. option_or o (first_fault (λ before. fault_of (line ∷ before)) lines)) (h 0 line refl)
    ∙ first_fault-none (λ before. fault_of (line ∷ before)) lines (λ k next e. h (suc k) next e)

first_fault-at : {L F : Type 0} (fault_of : List L → L → Option F) (lines : List L) (k : ℕ) (line : L) (fault : F)
    → slice_get lines k ≡ Some line → HasNoFault fault_of (take k lines)
    → fault_of (take k lines) line ≡ Some fault → first_fault fault_of lines ≡ Some fault
first_fault-at fault_of [] k line fault e before here = absurd cc
first_fault-at fault_of (first ∷ lines) zero line fault e before here =
    ap (λ o. option_or o (first_fault (λ before. fault_of (first ∷ before)) lines))
    (ap (fault_of []) (some-injective first line e) ∙ here)
first_fault-at fault_of (first ∷ lines) (suc k) line fault e before here =
    ap (λ o. option_or o (first_fault (λ before. fault_of (first ∷ before)) lines)) (before 0 first refl)
    ∙ first_fault-at (λ before. fault_of (first ∷ before)) lines k line fault e
    (λ j next g. before (suc j) next g) here

-- The first fault of lines is the one of the first line that has one.
pub first_fault-some : {L F : Type 0} (fault_of : List L → L → Option F) (lines : List L) (fault : F)
    → IsFirstFault fault_of lines fault → first_fault fault_of lines ≡ Some fault
first_fault-some fault_of lines fault (k, line, e, before, here) =
    first_fault-at fault_of lines k line fault e before here

module _ {L F : Type 0} (fault_of : List L → L → Option F) where
  -- No lines have no fault.
  pub no_fault-none : HasNoFault fault_of []
  no_fault-none k line e =
      let none : List L = [] in
      absurd (omega (arith, slice_get_within none k line e))

  -- The last line is the one at its place.
  last : (lines : List L) (line next : L) (k : ℕ) → k ≡ length lines → slice_get (lines ++ line ∷ []) k ≡ Some next → fault_of lines line ≡ None → fault_of (take k (lines ++ line ∷ [])) next ≡ None
  last lines line next k place e here =
      let same : line ≡ next = some-injective line next (sym (get-seam lines line []) ∙ ap (slice_get (lines ++ line ∷ [])) (sym place) ∙ e) in
      rw (place, take-append_seam lines (line ∷ []), sym same) here

  more : (lines : List L) (line next : L) (k : ℕ) → HasNoFault fault_of lines → fault_of lines line ≡ None → slice_get (lines ++ line ∷ []) k ≡ Some next → (k < length lines) ⊎ (length lines ≤ k) → fault_of (take k (lines ++ line ∷ [])) next ≡ None
  more lines line next k before here e (inl h) =
      let there = sym (get-append lines (line ∷ []) k h) ∙ e in
      rw (take-append-le k lines (line ∷ []) (omega arith)) (before k next there)
  more lines line next k before here e (inr h) =
      let within = slice_get_within (lines ++ line ∷ []) k next e in
      let place : k ≡ length lines = omega (arith, within, length-append lines (line ∷ [])) in
      last lines line next k place e here

  -- Lines without a fault, and one more that has none beside them.
  pub no_fault-more : (lines : List L) (line : L) → HasNoFault fault_of lines → fault_of lines line ≡ None → HasNoFault fault_of (lines ++ line ∷ [])
  no_fault-more lines line before here k next e = more lines line next k before here e (cases_lt k (length lines))

  -- Lines without a fault, and one that has this fault beside them.
  pub first_fault-behind : (lines : List L) (line : L) (after : List L) (fault : F) → HasNoFault fault_of lines → fault_of lines line ≡ Some fault → IsFirstFault fault_of (lines ++ line ∷ after) fault
  first_fault-behind lines line after fault before here =
      let front = take-append_seam lines (line ∷ after) in
      (length lines, line, get-seam lines line after, rw front before, rw front here)
