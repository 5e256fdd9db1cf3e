-- The cells of a run, filled one after the other.
use Rattle.std.proofs.Common.{◌≡◌, ℕ, ◌+◌, ◌≤◌, ◌<◌, ◌≢◌, Some, None, Option, List, length, get_or, arith, refl, sym, ◌∙◌, get_or-set_other, get_or-set_same, below_more}
use Rattle.std.proofs.Math.ListN.{set}
use Rattle.std.proofs.lemmas.Bool.Decides.{nat_tests}
use Rattle.mc_table8.specs.Listing.{Cell}
use Rattle.mc_table8.specs.Runs.{weight_in}
use Rattle.mc_table8.specs.Cells.{IsFilled}
use Rattle.mc_table8.specs.declared.run.Run.{Run}

-- The cells of a run are filled below a code, and were empty; the others are as they were.
pub record IsFilledTo (run : Run) (second : Option ℕ) (before after : List Cell)
    (code : ℕ) : Type 0 where
  pub filled : (k : ℕ) → run.first ≤ k → k < code →
      get_or after k None ≡ Some (weight_in run k, second)
  pub free : (k : ℕ) → run.first ≤ k → k < code → get_or before k None ≡ None
  pub below : (k : ℕ) → k < run.first → get_or after k None ≡ get_or before k None
  pub above : (k : ℕ) → code ≤ k → get_or after k None ≡ get_or before k None

-- No cell is filled below the run's start.
pub filled_none : (run : Run) (second : Option ℕ) (before : List Cell) →
    IsFilledTo run second before before run.first
filled_none run second before = record {
  filled = λ k h i. absurd (omega arith);
  free = λ k h i. absurd (omega arith);
  below = λ k h. refl;
  above = λ k h. refl;
}

more_filled : (run : Run) (second : Option ℕ) (before after : List Cell) (code : ℕ) →
    IsFilledTo run second before after code → code < length after → (k : ℕ) → k < code + 1 →
    run.first ≤ k →
    get_or (set after code (Some (weight_in run code, second))) k None ≡ Some
    (weight_in run k, second)
more_filled run second before after code ih within =
    below_more (λ k. run.first ≤ k →
    get_or (set after code (Some (weight_in run code, second))) k None ≡ Some
    (weight_in run k, second)) code
    (λ k i h. let ne : k ≢ code = omega arith in rw get_or-set_other (ih.filled k h i))
    (λ h. rw get_or-set_same refl)

more_free : (run : Run) (second : Option ℕ) (before after : List Cell) (code : ℕ) →
    IsFilledTo run second before after code → get_or after code None ≡ None → (k : ℕ) →
    k < code + 1 → run.first ≤ k →
    get_or before k None ≡ None
more_free run second before after code ih empty =
    below_more (λ k. run.first ≤ k → get_or before k None ≡ None) code (λ k i h. ih.free k h i)
    (λ h. sym (ih.above code (omega arith)) ∙ empty)

-- One more cell.
pub filled_more : (run : Run) (second : Option ℕ) (before after : List Cell) (code : ℕ) →
    IsFilledTo run second before after code → run.first ≤ code → code < length after →
    get_or after code None ≡ None →
    IsFilledTo run second before (set after code (Some (weight_in run code, second))) (code + 1)
filled_more run second before after code ih start within empty = record {
  filled = λ k h i. more_filled run second before after code ih within k i h;
  free = λ k h i. more_free run second before after code ih empty k i h;
  below = λ k h. (let ne : k ≢ code = omega arith in rw get_or-set_other (ih.below k h));
  above =
      λ k h. (let ne : k ≢ code = omega arith in rw get_or-set_other (ih.above k (omega arith)));
}

-- The whole run.
pub filled_all : (run : Run) (second : Option ℕ) (before after : List Cell) →
    length after ≡ length before → IsFilledTo run second before after (run.last + 1) →
    IsFilled run second before after
filled_all run second before after sizes h = record {
  same_codes = sizes;
  were_empty = λ code i. grind (arith, nat_tests, h.free code);
  each_cell = λ code. grind (arith, nat_tests, h.filled code, h.below code, h.above code);
}
