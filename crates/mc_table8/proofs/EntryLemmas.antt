-- The entries of a table, byte by byte, from the cells that the lines filled.
use Rattle.std.proofs.Common.{◌≡◌, ℕ, ◌≤◌, Bool, true, false, not, ◌&&◌, nat_le, Some, None, Option, List, [], ◌∷◌, arith, IsTrue, if◌then◌else◌, refl, sym, ap, subst, ◌⊎◌, inl, inr}
use Rattle.std.specs.List.{cons_option}
use Rattle.std.specs.Option.{option_or, option_and_then}
use Rattle.std.proofs.lemmas.Bool.{cases_Bool}
use Rattle.std.proofs.lemmas.Bool.Decides.{nat_tests}
use Rattle.mc_table8.specs.Formats.{greatest_of}
use Rattle.mc_table8.specs.Runs.{lists_code, run_fits, weight_in}
use Rattle.mc_table8.specs.WeightLines.{is_sound, form_of, line_of}
use Rattle.mc_table8.specs.Listing.{Cell, weights_by, listed_weights}
use Rattle.mc_table8.specs.LineFaults.{said_by}
use Rattle.mc_table8.specs.Cells.{IsSmall, cell_weights}
use Rattle.mc_table8.specs.declared.format.Format.{Format}
use Rattle.mc_table8.specs.declared.run.Run.{Run}
use Rattle.mc_table8.specs.declared.weight_line.WeightLine.{WeightLine}
use Rattle.mc_table8.specs.declared.weight_line.WeightLine.TheVariants.{Rest, Listed}

some-injective : (one other : WeightLine) → Some one ≡ Some other → one ≡ other
some-injective one other e = cc

none_is_not_some : (line : WeightLine) → None ≡ Some line → ⊥
none_is_not_some line e = cc

kept_by : (format : Format) (other line : WeightLine) →
    (is_sound format other ≡ true) ⊎ (is_sound format other ≡ false) →
    (if is_sound format other then Some other else None) ≡ Some line → IsTrue (is_sound format line)
kept_by format other line (inl h) e =
    subst (λ (kept : WeightLine). IsTrue (is_sound format kept)) (some-injective _ _ (rw h at e)) h
kept_by format other line (inr h) e = absurd (none_is_not_some line (rw h at e))

weights-injective : (one other : ℕ × Option ℕ) → Some one ≡ Some other → one ≡ other
weights-injective one other e = cc

-- What is taken of a line is sound.
kept_sound : (format : Format) (o : Option WeightLine) (line : WeightLine) →
    option_and_then (λ line. if is_sound format line then Some line else None) o ≡ Some line →
    IsTrue (is_sound format line)
kept_sound format None line e = cc
kept_sound format (Some other) line e =
    kept_by format other line (cases_Bool (is_sound format other)) e

-- What a line says is sound.
pub line_sound : (format : Format) (body : List ℕ) (line : WeightLine) →
    line_of format body ≡ Some line → IsTrue (is_sound format line)
line_sound format body line e = kept_sound format (form_of format body) line e

-- A weight in a run that fits is at most the greatest.
weight_small : (greatest : ℕ) (run : Run) (code : ℕ) → IsTrue (run_fits greatest run) →
    IsTrue (lists_code run code) →
    weight_in run code ≤ greatest
weight_small greatest run code h e = grind (arith, nat_tests)

weights_small : (greatest : ℕ) (run : Run) (second code : ℕ) →
    IsTrue (run_fits greatest run && nat_le second greatest && not (lists_code run 0x20)) →
    IsTrue (lists_code run code) →
    (weight_in run code ≤ greatest) × (second ≤ greatest)
weights_small greatest run second code h e = grind (arith, nat_tests)

run_small : (greatest : ℕ) (run : Run) (code : ℕ) → IsTrue (run_fits greatest run) →
    (lists_code run code ≡ true) ⊎ (lists_code run code ≡ false) →
    IsSmall greatest (weights_by (Listed run None) code)
run_small greatest run code h (inl e) = rw e (weight_small greatest run code h e)
run_small greatest run code h (inr e) = rw e tt

pair_small : (greatest : ℕ) (run : Run) (second code : ℕ) →
    IsTrue (run_fits greatest run && nat_le second greatest && not (lists_code run 0x20)) →
    (lists_code run code ≡ true) ⊎ (lists_code run code ≡ false) →
    IsSmall greatest (weights_by (Listed run (Some second)) code)
pair_small greatest run second code h (inl e) = rw e (weights_small greatest run second code h e)
pair_small greatest run second code h (inr e) = rw e tt

-- What a sound line gives a code is small.
sound_small : (format : Format) (line : WeightLine) (code : ℕ) → IsTrue (is_sound format line) →
    IsSmall (greatest_of format) (weights_by line code)
sound_small format Rest code h = tt
sound_small format (Listed run None) code h =
    run_small (greatest_of format) run code h (cases_Bool (lists_code run code))
sound_small format (Listed run (Some second)) code h =
    pair_small (greatest_of format) run second code h (cases_Bool (lists_code run code))

or_step : (P : Cell → Type 0) (a b : Cell) → P a → P b → P (option_or a b)
or_step P None b p q = q
or_step P (Some weights) b p q = p

said_step : (format : Format) (code : ℕ) (P : Cell → Type 0) →
    ((line : WeightLine) → IsTrue (is_sound format line) → P (weights_by line code)) →
    (o : Option WeightLine) →
    ((line : WeightLine) → o ≡ Some line → IsTrue (is_sound format line)) →
    (said : List WeightLine) → P (listed_weights said code) →
    P (listed_weights (cons_option o said) code)
said_step format code P each None sound said ih = ih
said_step format code P each (Some line) sound said ih =
    or_step P (weights_by line code) (listed_weights said code) (each line (sound line refl)) ih

-- What holds of nothing, and of what each sound line gives a code, holds of what lines give it.
pub listed_each : (format : Format) (code : ℕ) (P : Cell → Type 0) → P None →
    ((line : WeightLine) → IsTrue (is_sound format line) → P (weights_by line code)) →
    (lines : List (ℕ × List ℕ)) → P (listed_weights (said_by format lines) code)
listed_each format code P none each [] = none
listed_each format code P none each (line ∷ lines) =
    said_step format code P each (line_of format line.1) (line_sound format line.1)
    (said_by format lines)
    (listed_each format code P none each lines)

-- What lines give a code is small.
pub listed_small : (format : Format) (lines : List (ℕ × List ℕ)) (code : ℕ) →
    IsSmall (greatest_of format) (listed_weights (said_by format lines) code)
listed_small format lines code =
    listed_each format code (IsSmall (greatest_of format)) tt
    (λ line h. sound_small format line code h) lines

first_alone : (listed : Bool) (weight : ℕ) (weights : ℕ × Option ℕ) →
    (if listed then Some (weight, None) else None) ≡ Some weights → weights.1 ≡ None
first_alone true weight weights e =
    ap (λ (w : ℕ × Option ℕ). w.1) (sym (weights-injective (weight, None) weights e))
first_alone false weight weights e = cc

not_listed : (listed fits : Bool) (given weights : ℕ × Option ℕ) → IsTrue (fits && not listed) →
    (if listed then Some given else None) ≡ Some weights → weights.1 ≡ None
not_listed true true given weights h e = cc
not_listed true false given weights h e = cc
not_listed false fits given weights h e = cc

-- One weight at most.
IsSingle : Cell → Type 0
IsSingle given = (weights : ℕ × Option ℕ) → given ≡ Some weights → weights.1 ≡ None

sound_single : (format : Format) (line : WeightLine) → IsTrue (is_sound format line) →
    IsSingle (weights_by line 0x20)
unfolding IsSingle
sound_single format Rest h = λ weights e. cc
sound_single format (Listed run None) h =
    λ weights e. first_alone (lists_code run 0x20) (weight_in run 0x20) weights e
sound_single format (Listed run (Some second)) h =
    λ weights e. not_listed (lists_code run 0x20)
    (run_fits (greatest_of format) run && nat_le second (greatest_of format))
    (weight_in run 0x20, Some second) weights h e

single_or : (rest : Bool) (cell : Cell) → IsSingle cell → (weights : ℕ × Option ℕ) →
    cell_weights rest cell 0x20 ≡ Some weights → weights.1 ≡ None
unfolding IsSingle
single_or rest None h weights e = first_alone rest 0x20 weights e
single_or rest (Some given) h weights e = h weights e

-- The space has one weight.
pub space_single : (format : Format) (rest : Bool) (lines : List (ℕ × List ℕ))
    (weights : ℕ × Option ℕ) →
    cell_weights rest (listed_weights (said_by format lines) 0x20) 0x20 ≡ Some weights →
    weights.1 ≡ None
unfolding IsSingle
space_single format rest lines weights e =
    single_or rest (listed_weights (said_by format lines) 0x20)
    (listed_each format 0x20 IsSingle (λ weights e. cc) (λ line h. sound_single format line h) lines) weights e
