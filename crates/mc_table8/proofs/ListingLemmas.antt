-- What lines list, line by line; and that a line repeats another exactly where both list some code.
use Rattle.std.proofs.Common.{◌≡◌, ◌≢◌, ℕ, ◌≤◌, Bool, true, false, not, ◌&&◌, ◌||◌, nat_le, max, Some, None, Option, List, [], ◌∷◌, ◌++◌, get_or, arith, IsTrue, refl, sym, ap, ◌∙◌, ◌⊎◌, inl, inr}
use Rattle.std.specs.Bool.{OnTrue, OnFalse}
use Rattle.std.specs.List.{list_any}
use Rattle.std.specs.Option.{option_or}
use Rattle.std.proofs.Math.Bool.{or-true, or-false}
use Rattle.std.proofs.lemmas.Bool.{cases_Bool, OnTrue_from}
use Rattle.std.proofs.lemmas.Bool.Decides.{nat_tests}
use Rattle.std.proofs.lemmas.List.Folds.{list_any-append}
use Rattle.mc_table8.specs.Runs.{lists_code, run_fits, weight_in, is_overlap}
use Rattle.mc_table8.specs.Formats.{greatest_of}
use Rattle.mc_table8.specs.WeightLines.{is_sound}
use Rattle.mc_table8.specs.declared.format.Format.{Format}
use Rattle.mc_table8.specs.Cells.{IsListing, IsFilled, IsTaken}
use Rattle.mc_table8.specs.Listing.{Cell, weights_by, listed_weights, is_rest, has_rest, repeats}
use Rattle.mc_table8.specs.declared.run.Run.{Run}
use Rattle.mc_table8.specs.declared.weight_line.WeightLine.{WeightLine}
use Rattle.mc_table8.specs.declared.weight_line.WeightLine.TheVariants.{Rest, Listed}

-- Two choices of a value are one choice of it.
or_assoc : (a b c : Cell) → option_or (option_or a b) c ≡ option_or a (option_or b c)
or_assoc None b c = refl
or_assoc (Some x) b c = refl

or_none : (a : Cell) → option_or a None ≡ a
or_none None = refl
or_none (Some x) = refl

none_right : (a b : Cell) → option_or a b ≡ None → b ≡ None
none_right None b e = e
none_right (Some x) b e = cc

some_is_not_none : (x : ℕ × Option ℕ) (b : Cell) → option_or (Some x) b ≡ None → ⊥
some_is_not_none x b e = cc

-- What lines and more lines list.
pub listed_weights-append : (xs ys : List WeightLine) (code : ℕ) →
    listed_weights (xs ++ ys) code ≡ option_or (listed_weights xs code) (listed_weights ys code)
listed_weights-append [] ys code = refl
listed_weights-append (x ∷ xs) ys code =
    ap (option_or (weights_by x code)) (listed_weights-append xs ys code) ∙
    sym (or_assoc (weights_by x code) (listed_weights xs code) (listed_weights ys code))

-- What lines and one more line list.
pub listed_weights-push : (xs : List WeightLine) (line : WeightLine) (code : ℕ) →
    listed_weights (xs ++ line ∷ []) code ≡ option_or (listed_weights xs code)
    (weights_by line code)
listed_weights-push xs line code =
    listed_weights-append xs (line ∷ []) code ∙
    ap (option_or (listed_weights xs code)) (or_none (weights_by line code))

-- A second default is one behind another.
pub repeats_rest : (lines : List WeightLine) → list_any (repeats Rest) lines ≡ has_rest lines
repeats_rest [] = refl
repeats_rest (Rest ∷ lines) = refl
repeats_rest (Listed run second ∷ lines) = repeats_rest lines

-- A code that two runs list is in both.
pub shared : (one other : Run) (code : ℕ) → IsTrue (lists_code one code) →
    IsTrue (lists_code other code) → is_overlap one other ≡ true
shared one other code h i = grind (arith, nat_tests)

-- Where the runs overlap, the greater of their starts is in both.
pub shared_code : (one other : Run) → is_overlap one other ≡ true →
    IsTrue (lists_code one (max one.first other.first)) ×
    IsTrue (lists_code other (max one.first other.first))
shared_code one other h = grind (arith, nat_tests)

listed_step : (other : Run) (its : Option ℕ) (lines : List WeightLine) (run : Run)
    (second : Option ℕ) (code : ℕ) →
    IsTrue (lists_code run code) → listed_weights (Listed other its ∷ lines) code ≢ None →
    (lists_code other code ≡ true) ⊎ (lists_code other code ≡ false) →
    (listed_weights lines code ≢ None → list_any (repeats (Listed run second)) lines ≡ true) →
    (is_overlap run other || list_any (repeats (Listed run second)) lines) ≡ true
listed_step other its lines run second code h taken (inl e) ih = rw (shared run other code h e) refl
listed_step other its lines run second code h taken (inr e) ih =
    rw (ih (rw e at taken)) (or-true (is_overlap run other))

-- A code of the run that a line lists makes the run a repetition.
pub repeats_listed : (lines : List WeightLine) (run : Run) (second : Option ℕ) (code : ℕ) →
    IsTrue (lists_code run code) →
    listed_weights lines code ≢ None → list_any (repeats (Listed run second)) lines ≡ true
repeats_listed [] run second code h taken = absurd (taken refl)
repeats_listed (Rest ∷ lines) run second code h taken = repeats_listed lines run second code h taken
repeats_listed (Listed other its ∷ lines) run second code h taken =
    listed_step other its lines run second code h taken (cases_Bool (lists_code other code))
    (repeats_listed lines run second code h)

free_step : (other : Run) (its : Option ℕ) (lines : List WeightLine) (run : Run)
    (second : Option ℕ) →
    ((code : ℕ) → IsTrue (lists_code run code) → listed_weights (Listed other its ∷ lines) code ≡ None) →
    (is_overlap run other ≡ true) ⊎ (is_overlap run other ≡ false) →
    (((code : ℕ) → IsTrue (lists_code run code) → listed_weights lines code ≡ None) → list_any (repeats (Listed run second)) lines ≡ false) →
    (is_overlap run other || list_any (repeats (Listed run second)) lines) ≡ false
free_step other its lines run second free (inl e) ih =
    let code_in = shared_code run other e in
    let nothing = free (max run.first other.first) code_in.0 in
    absurd (some_is_not_none (weight_in other (max run.first other.first), its)
    (listed_weights lines (max run.first other.first)) (rw code_in.1 at nothing))
free_step other its lines run second free (inr e) ih =
    rw e (ih (λ code h. none_right (weights_by (Listed other its) code) (listed_weights lines code) (free code h)))

-- A run of which no line lists a code is no repetition.
pub repeats_free : (lines : List WeightLine) (run : Run) (second : Option ℕ) →
    ((code : ℕ) → IsTrue (lists_code run code) → listed_weights lines code ≡ None) →
    list_any (repeats (Listed run second)) lines ≡ false
repeats_free [] run second free = refl
repeats_free (Rest ∷ lines) run second free = repeats_free lines run second free
repeats_free (Listed other its ∷ lines) run second free =
    free_step other its lines run second free (cases_Bool (is_overlap run other))
    (repeats_free lines run second)

-- Behind `default =` the cells stay, and the default stands.
pub listing-rest : (greatest : ℕ) (cells : List Cell) (rest : Bool) (lines : List WeightLine) →
    IsListing greatest cells rest lines → IsListing greatest cells true (lines ++ Rest ∷ [])
listing-rest greatest cells rest lines h = record {
  all_codes = h.all_codes;
  each_cell =
      λ code i. h.each_cell code i ∙
      sym (listed_weights-push lines Rest code ∙ or_none (listed_weights lines code));
  default_stands =
      sym (list_any-append is_rest lines (Rest ∷ []) ∙ or-true (list_any is_rest lines));
}

-- A run's codes are at most its end.
within_run : (run : Run) (code greatest : ℕ) → IsTrue (lists_code run code) → run.last ≤ greatest →
    code ≤ greatest
within_run run code greatest h within = grind (arith, nat_tests)

filled_cell : (greatest : ℕ) (before after : List Cell) (rest : Bool) (lines : List WeightLine)
    (run : Run) (second : Option ℕ) →
    IsListing greatest before rest lines → IsFilled run second before after → (code : ℕ) →
    code ≤ greatest →
    (lists_code run code ≡ true) ⊎ (lists_code run code ≡ false) →
    get_or after code None ≡ listed_weights (lines ++ Listed run second ∷ []) code
filled_cell greatest before after rest lines run second h filled code i (inl e) =
    let cell = rw e at (filled.each_cell code) in
    let empty = sym (h.each_cell code i) ∙ filled.were_empty code e in
    cell ∙ sym (listed_weights-push lines (Listed run second) code ∙ rw (empty, e) refl)
filled_cell greatest before after rest lines run second h filled code i (inr e) =
    let cell = rw e at (filled.each_cell code) in
    cell ∙ h.each_cell code i ∙
    sym (listed_weights-push lines (Listed run second) code ∙ rw e (or_none (listed_weights lines code)))

-- Behind a run the default stays, and the cells of the run are filled.
pub listing-listed : (greatest : ℕ) (before after : List Cell) (rest : Bool)
    (lines : List WeightLine) (run : Run) (second : Option ℕ) →
    IsListing greatest before rest lines → run.last ≤ greatest → IsFilled run second before after →
    IsListing greatest after rest (lines ++ Listed run second ∷ [])
listing-listed greatest before after rest lines run second h within filled = record {
  all_codes = filled.same_codes ∙ h.all_codes;
  each_cell =
      λ code i. filled_cell greatest before after rest lines run second h filled code i
      (cases_Bool (lists_code run code));
  default_stands = h.default_stands ∙
      sym (list_any-append is_rest lines (Listed run second ∷ []) ∙ or-false (list_any is_rest lines));
}

-- A run whose cells were empty is no repetition.
pub filled_is_new : (greatest : ℕ) (before after : List Cell) (rest : Bool)
    (lines : List WeightLine) (run : Run) (second : Option ℕ) →
    IsListing greatest before rest lines → run.last ≤ greatest → IsFilled run second before after →
    list_any (repeats (Listed run second)) lines ≡ false
filled_is_new greatest before after rest lines run second h within filled =
    repeats_free lines run second
    (λ code i. sym (h.each_cell code (within_run run code greatest i within)) ∙ filled.were_empty code i)

-- A run of which a cell was filled is a repetition.
pub taken_is_old : (greatest : ℕ) (before : List Cell) (rest : Bool) (lines : List WeightLine)
    (run : Run) (second : Option ℕ) →
    IsListing greatest before rest lines → run.last ≤ greatest → IsTaken run before →
    list_any (repeats (Listed run second)) lines ≡ true
taken_is_old greatest before rest lines run second h within taken =
    repeats_listed lines run second taken.0 taken.1
    (λ e. taken.2 (h.each_cell taken.0 (within_run run taken.0 greatest taken.1 within) ∙ e))

fits_last : (greatest : ℕ) (run : Run) → IsTrue (run_fits greatest run) → run.last ≤ greatest
fits_last greatest run h = grind (arith, nat_tests)

fits_last_of_three : (greatest : ℕ) (run : Run) (weight : ℕ) →
    IsTrue (run_fits greatest run && nat_le weight greatest && not (lists_code run 0x20)) →
    run.last ≤ greatest
fits_last_of_three greatest run weight h = grind (arith, nat_tests)

-- Taking `default =` behind lines.
pub added_rest : (greatest : ℕ) (cells : List Cell) (rest : Bool) (lines : List WeightLine)
    (line : WeightLine) →
    line ≡ Rest → IsListing greatest cells rest lines →
    (not rest ≡ not (list_any (repeats line) lines)) ×
    OnTrue (not rest) (IsListing greatest cells true (lines ++ line ∷ []))
added_rest greatest cells rest lines line e h =
    rw e (
      ap not (h.default_stands ∙ sym (repeats_rest lines)),
      OnTrue_from (not rest) (IsListing greatest cells true (lines ++ Rest ∷ []))
          (λ _. listing-rest greatest cells rest lines h),
    )

-- Taking a run behind lines.
pub added_listed : (greatest : ℕ) (before after : List Cell) (rest stays : Bool)
    (lines : List WeightLine)
    (line : WeightLine) (run : Run) (second : Option ℕ) (is_new : Bool) →
    line ≡ Listed run second → run.last ≤ greatest →
    OnTrue is_new (IsFilled run second before after) →
    OnFalse is_new (IsTaken run before) → stays ≡ rest → IsListing greatest before rest lines →
    (is_new ≡ not (list_any (repeats line) lines)) ×
    OnTrue is_new (IsListing greatest after stays (lines ++ line ∷ []))
added_listed greatest before after rest stays lines line run second true e within filled taken same h =
    rw (e, same) (
      sym (ap not (filled_is_new greatest before after rest lines run second h within filled)),
      listing-listed greatest before after rest lines run second h within filled,
    )
added_listed greatest before after rest stays lines line run second false e within filled taken same h =
    rw e (sym (ap not (taken_is_old greatest before rest lines run second h within taken)), tt)

sound_by : (format : Format) (run : Run) (second : Option ℕ) →
    IsTrue (is_sound format (Listed run second)) → run.last ≤ greatest_of format
sound_by format run None h = fits_last (greatest_of format) run h
sound_by format run (Some weight) h = fits_last_of_three (greatest_of format) run weight h

-- The run of a sound line ends at or below the greatest code.
pub sound_last : (format : Format) (line : WeightLine) (run : Run) (second : Option ℕ) →
    line ≡ Listed run second →
    IsTrue (is_sound format line) → run.last ≤ greatest_of format
sound_last format line run second e h = sound_by format run second (rw e at h)
