-- That lines have one first fault at most, and list no code twice where they have none.
use Rattle.std.proofs.Common.{◌≡◌, ℕ, zero, suc, ◌<◌, ◌≤◌, Bool, true, false, Some, None, Option, List, [], ◌∷◌, ◌++◌, length, take, arith, IsTrue, if◌then◌else◌, refl, sym, ap, max, ◌↔◌, ◌∙◌, ◌⊎◌, inl, inr, append_assoc}
use Rattle.std.specs.List.{list_any, slice_get, cons_option}
use Rattle.std.proofs.Math.Seq.{take-append_seam}
use Rattle.std.proofs.lemmas.List.{take-take}
use Rattle.std.proofs.lemmas.Bool.{cases_lt}
use Rattle.mc_base.specs.FirstFault.{HasNoFault, IsFirstFault}
use Rattle.mc_table8.specs.Runs.{lists_code, is_overlap, weight_in}
use Rattle.mc_table8.specs.Listing.{Cell, weights_by, listed_weights, repeats}
use Rattle.mc_table8.specs.LineFaults.{said_by, fault_by, fault_of}
use Rattle.mc_table8.specs.WeightLines.{line_of}
use Rattle.mc_table8.specs.WeightFileLaws.{IsInBoth, ListedWeightsStand, IsOneFault}
use Rattle.mc_table8.proofs.ListingLemmas.{shared, shared_code, listed_weights-append, repeats_listed}
use Rattle.mc_table8.proofs.ReadLemmas.{said_by-push}
use Rattle.mc_table8.specs.declared.format.Format.{Format}
use Rattle.mc_table8.specs.declared.fault.TableFault.TheVariants.{BadLine, Repeated}
use Rattle.mc_table8.specs.declared.run.Run.{Run}
use Rattle.mc_table8.specs.declared.weight_line.WeightLine.{WeightLine}
use Rattle.mc_table8.specs.declared.weight_line.WeightLine.TheVariants.{Rest, Listed}

-- A place in a front.
get-take : {L : Type 0} (xs : List L) (n k : ℕ) → k < n → slice_get (take n xs) k ≡ slice_get xs k
get-take [] zero k h = refl
get-take [] (suc n) k h = refl
get-take (x ∷ xs) zero k h = absurd (omega arith)
get-take (x ∷ xs) (suc n) zero h = refl
get-take (x ∷ xs) (suc n) (suc k) h = get-take xs n k (omega arith)

-- The place where two lists meet.
get-seam : {L : Type 0} (xs : List L) (y : L) (ys : List L) →
    slice_get (xs ++ y ∷ ys) (length xs) ≡ Some y
get-seam [] y ys = refl
get-seam (x ∷ xs) y ys = get-seam xs y ys

module _ {L F : Type 0} (fault_at : List L → L → Option F) where
  some-injective : (fault other : F) → Some fault ≡ Some other → fault ≡ other
  some-injective fault other e = cc

  none_is_not_some : (fault : F) → None ≡ Some fault → ⊥
  none_is_not_some fault e = cc

  -- Lines without a fault have no first one.
  pub no_first_fault : (lines : List L) (fault : F) → HasNoFault fault_at lines →
      IsFirstFault fault_at lines fault → ⊥
  no_first_fault lines fault none (k, line, at_k, before, this) =
      none_is_not_some fault (sym (none k line at_k) ∙ this)

  -- A fault isn't behind an earlier one.
  not_behind : (lines : List L) (k n : ℕ) (line : L) (fault : F) → k < n →
      slice_get lines k ≡ Some line →
      fault_at (take k lines) line ≡ Some fault → HasNoFault fault_at (take n lines) → ⊥
  not_behind lines k n line fault h at_k this before =
      none_is_not_some fault
      (sym (before k line (get-take lines n k h ∙ at_k)) ∙ rw (take-take k n lines (omega arith)) this)

  same_place : (lines : List L) (k : ℕ) (line other : L) (fault its : F) →
      slice_get lines k ≡ Some line →
      slice_get lines k ≡ Some other → fault_at (take k lines) line ≡ Some fault →
      fault_at (take k lines) other ≡ Some its → fault ≡ its
  same_place lines k line other fault its at_k at_n this that =
      let same : line ≡ other = grind arith in
      some-injective fault its (sym this ∙ ap (fault_at (take k lines)) same ∙ that)

  one_by : (lines : List L) (k n : ℕ) (line other : L) (fault its : F) →
      slice_get lines k ≡ Some line →
      HasNoFault fault_at (take k lines) → fault_at (take k lines) line ≡ Some fault →
      slice_get lines n ≡ Some other →
      HasNoFault fault_at (take n lines) → fault_at (take n lines) other ≡ Some its →
      (k < n) ⊎ (n ≤ k) → (n < k) ⊎ (k ≤ n) → fault ≡ its
  one_by lines k n line other fault its at_k before_k this at_n before_n that (inl h) order =
      absurd (not_behind lines k n line fault h at_k this before_n)
  one_by lines k n line other fault its at_k before_k this at_n before_n that (inr h) (inl i) =
      absurd (not_behind lines n k other its i at_n that before_k)
  one_by lines k n line other fault its at_k before_k this at_n before_n that (inr h) (inr i) =
      let same : n ≡ k = omega arith in
      same_place lines k line other fault its at_k (rw same at at_n) this (rw same at that)

  -- Lines have one first fault.
  pub first_fault-one : (lines : List L) (fault its : F) → IsFirstFault fault_at lines fault →
      IsFirstFault fault_at lines its → fault ≡ its
  first_fault-one lines fault its (k, line, at_k, before_k, this) (n, other, at_n, before_n, that) =
      one_by lines k n line other fault its at_k before_k this at_n before_n that (cases_lt k n)
      (cases_lt n k)

-- Two runs overlap exactly where some code is in both.
pub overlap_iff : (one other : Run) →
    IsTrue (is_overlap one other) ↔ ((code : ℕ) × IsInBoth one other code)
overlap_iff one other = (
  (λ h. (max one.first other.first, shared_code one other h)),
  (λ (code, both). shared one other code both.0 both.1),
)

-- Each line behind the first ones repeats none before it.
abbrev IsFresh : List WeightLine → List WeightLine → Type 0
IsFresh earlier [] = Unit {0}
IsFresh earlier (line ∷ lines) =
    (list_any (repeats line) earlier ≡ false) × IsFresh (earlier ++ line ∷ []) lines

is_new : (again : Bool) (number : ℕ) → (if again then Some (Repeated number) else None) ≡ None →
    again ≡ false
is_new true number e = cc
is_new false number e = refl

no_bad_line : (number : ℕ) → Some (BadLine number) ≡ None → ⊥
no_bad_line number e = cc

fresh_step : (o : Option WeightLine) (earlier later : List WeightLine) (number : ℕ) →
    fault_by o earlier number ≡ None →
    ((line : WeightLine) → o ≡ Some line → IsFresh (earlier ++ line ∷ []) later) →
    IsFresh earlier (cons_option o later)
fresh_step None earlier later number none more = absurd (no_bad_line number none)
fresh_step (Some line) earlier later number none more =
    (is_new (list_any (repeats line) earlier) number none, more line refl)

-- Lines without a fault repeat nothing.
fresh_lines : (format : Format) (before after : List (ℕ × List ℕ)) →
    HasNoFault (fault_of format) (before ++ after) →
    IsFresh (said_by format before) (said_by format after)
fresh_lines format before [] h = tt
fresh_lines format before ((number, body) ∷ after) h =
    fresh_step (line_of format body) (said_by format before) (said_by format after) number
    (rw take-append_seam at (h (length before) (number, body) (get-seam before (number, body) after)))
    (λ line e. rw (said_by-push format before number body line e) at
    (fresh_lines format (before ++ (number, body) ∷ []) after (rw append_assoc h)))

listed_by : (listed : Bool) (weights given : ℕ × Option ℕ) →
    (if listed then Some weights else None) ≡ Some given → listed ≡ true
listed_by true weights given e = refl
listed_by false weights given e = cc

some_is_not_none : (weights : ℕ × Option ℕ) → Some weights ≡ None → ⊥
some_is_not_none weights e = cc

true_is_not_false : true ≡ false → ⊥
true_is_not_false e = cc

unlisted_by : (earlier : List WeightLine) (run : Run) (second : Option ℕ) (code : ℕ) →
    list_any (repeats (Listed run second)) earlier ≡ false → IsTrue (lists_code run code) →
    (cell : Cell) → listed_weights earlier code ≡ cell → listed_weights earlier code ≡ None
unlisted_by earlier run second code new h None e = e
unlisted_by earlier run second code new h (Some weights) e =
    let again = repeats_listed earlier run second code h
    (λ none. some_is_not_none weights (sym e ∙ none)) in
    absurd (true_is_not_false (sym again ∙ new))

line-injective : (one other : WeightLine) → Some one ≡ Some other → one ≡ other
line-injective one other e = cc

-- What a line that repeats nothing lists is listed by none before it.
unlisted : (earlier : List WeightLine) (line : WeightLine) (code : ℕ) (given : ℕ × Option ℕ) →
    list_any (repeats line) earlier ≡ false → weights_by line code ≡ Some given →
    listed_weights earlier code ≡ None
unlisted earlier Rest code given new e = cc
unlisted earlier (Listed run second) code given new e =
    unlisted_by earlier run second code new
    (listed_by (lists_code run code) (weight_in run code, second) given e)
    (listed_weights earlier code) refl

-- So each line's weights stand.
fresh_stands : (earlier lines : List WeightLine) (k : ℕ) (line : WeightLine) (code : ℕ)
    (given : ℕ × Option ℕ) →
    IsFresh earlier lines → slice_get lines k ≡ Some line → weights_by line code ≡ Some given →
    listed_weights (earlier ++ lines) code ≡ Some given
fresh_stands earlier [] k line code given fresh at_k e = cc
fresh_stands earlier (first ∷ lines) zero line code given fresh at_k e =
    let same : first ≡ line = line-injective first line at_k in
    let its : weights_by first code ≡ Some given = rw same e in
    listed_weights-append earlier (first ∷ lines) code ∙
    rw (unlisted earlier first code given fresh.0 its, its) refl
fresh_stands earlier (first ∷ lines) (suc k) line code given fresh at_k e =
    rw append_assoc at (fresh_stands (earlier ++ first ∷ []) lines k line code given fresh.1 at_k e)

pub listed_stand : (format : Format) (lines : List (ℕ × List ℕ)) →
    HasNoFault (fault_of format) lines → ListedWeightsStand format lines
listed_stand format lines h = λ k line code given at_k e.
    fresh_stands [] (said_by format lines) k line code given (fresh_lines format [] lines h) at_k e

-- Lines have one first fault at most, as the law says it.
pub one_fault : (format : Format) (lines : List (ℕ × List ℕ)) → IsOneFault format lines
one_fault format lines = λ fault other. first_fault-one (fault_of format) lines fault other
