-- Texts that are converted without a loss are those that their characters spell.
use Rattle.std.proofs.Common.{◌≡◌, ℕ, zero, suc, ◌-◌, ◌<◌, ◌≤◌, ◌++◌, Bool, true, false, List, [], ◌∷◌, length, slice_index, Option, Some, None, Ok, Err, refl, sym, subst, arith, if◌then◌else◌}
use Rattle.std.proofs.lemmas.Bool.{false≢true}
use Rattle.std.specs.Prelude.{option_and_then, nat_le, nat_lt, MatchBool, map}
use Rattle.std.proofs.lemmas.Bool.Decides.{nat_tests}
use Rattle.std.specs.Option.{is_some}
use Rattle.mc_charset.specs.Chars.{chars, chars_behind, spell, spell_all, IsWellFormed, Spells}
use Rattle.mc_charset.specs.Rows.{first_in}
use Rattle.mc_charset.specs.Tables.{rows}
use Rattle.mc_charset.specs.declared.charset.Charset.{Charset}
use Rattle.mc_charset.specs.declared.charset.Charset.TheVariants.{Latin1, Ascii, Utf8mb3, Utf8mb4, Ucs2, Utf16, Utf32, Binary}
use Rattle.mc_convert.specs.Conversion.{fits, is_binary, stand_in, IsConverted, IsLossless, IsFirstLost}
use Rattle.mc_rows.specs.Fit.{fitted, taken_chars}
use Rattle.mc_rows.specs.declared.fit.FitFault.TheVariants.{Unfit, TooLong}

-- A text has no more characters than bytes.
one_char : (found : Option (ℕ × ℕ)) (rest : ℕ → List ℕ) (len : ℕ) → ((n : ℕ) → length (rest n) ≤ len)
    → length {A = ℕ} (elim found [ None ↦ [] | Some f ↦ f.0 ∷ rest (f.1 - 1) ]) ≤ suc len
one_char None rest len h = omega arith
one_char (Some f) rest len h = let le = h (f.1 - 1) in omega (arith, le)

behind_count : (set : Charset) (skipped : ℕ) (text : List ℕ) → length (chars_behind set skipped text) ≤ length text
unfolding chars_behind
behind_count set skipped [] = omega arith
behind_count set (suc skipped) (b ∷ bytes) = let h = behind_count set skipped bytes in omega (arith, h)
behind_count set zero (b ∷ bytes) =
    one_char (first_in (rows set) (b ∷ bytes)) (λ n. chars_behind set n bytes) (length bytes) (λ n. behind_count set n bytes)

pub chars_count : (set : Charset) (text : List ℕ) → length (chars set text) ≤ length text
unfolding chars
chars_count set text = behind_count set 0 text

pub taken_count : (from to : Charset) (text : List ℕ) → length (taken_chars from to text) ≤ length text
taken_count from to text = chars_count (if is_binary to then to else from) text

pub not_longer : (from to : Charset) (most : ℕ) (text : List ℕ) → length text ≤ most → false ≡ nat_lt most (length (taken_chars from to text))
not_longer from to most text h =
    let le = taken_count from to text in
    grind (arith, nat_tests, le)

-- Characters of which a set lacks one have no spelling.
two_parts : (front : Option (List ℕ)) (more : Option (List ℕ)) → more ≡ None
    → option_and_then (λ f. option_and_then (λ r. Some (f ++ r)) more) front ≡ None
two_parts None more e = refl
two_parts (Some f) more e = rw e refl

pub lacks : (set : Charset) (codes : List ℕ) (place : ℕ) → place < length codes → spell set (slice_index codes place) ≡ None → spell_all set codes ≡ None
unfolding spell_all
lacks set [] place h e = absurd (omega (arith, h))
lacks set (code ∷ codes) zero h e = rw e refl
lacks set (code ∷ codes) (suc place) h e = two_parts (spell set code) (spell_all set codes) (lacks set codes place (omega (arith, h)) e)

none_of : (found : Option (List ℕ)) → is_some found ≡ false → found ≡ None
none_of None e = refl
none_of (Some front) e = absurd (false≢true (sym e))

-- A character that doesn't fit has no spelling.
unfit_none : (from to : Charset) (code : ℕ) → is_binary from ≡ false → fits from to code ≡ false → spell to code ≡ None
unfit_none from to code chars_from e = none_of (spell to code) (rw chars_from at e)

pub lost_unfit : (from to : Charset) (most : ℕ) (text : List ℕ) (place : ℕ) → is_binary from ≡ false → IsFirstLost from to text place → fitted from to most text ≡ Err Unfit
unfolding fitted
lost_unfit from to most text place chars_from lost =
    let none = lacks to (chars from text) place lost.1.within (unfit_none from to (slice_index (chars from text) place) chars_from lost.1.unfit) in
    rw (lost.0, none) refl

-- A text that was converted without a loss

is_the_binary : (set : Charset) → is_binary set ≡ true → set ≡ Binary
is_the_binary Binary e = refl
is_the_binary Latin1 e = absurd (false≢true e)
is_the_binary Ascii e = absurd (false≢true e)
is_the_binary Utf8mb3 e = absurd (false≢true e)
is_the_binary Utf8mb4 e = absurd (false≢true e)
is_the_binary Ucs2 e = absurd (false≢true e)
is_the_binary Utf16 e = absurd (false≢true e)
is_the_binary Utf32 e = absurd (false≢true e)

module _ (encodes : (set : Charset) (text : List ℕ) → IsWellFormed set text → Spells set (chars set text) text)
    (same : (from to : Charset) (text converted : List ℕ) → is_binary to ≡ false → IsLossless from to text → IsConverted from to text converted → chars to converted ≡ chars from text)
    (from to : Charset) (text kept : List ℕ) (bytes : IsWellFormed Binary text) (well_formed : IsWellFormed to kept) (converted : IsConverted from to text kept) (lossless : IsLossless from to text) where
  spells_by : (b : Bool) → is_binary to ≡ b → MatchBool b (kept ≡ text) (Spells to (map (stand_in from to) (chars from text)) kept)
      → Spells to (chars (if b then to else from) text) kept
  spells_by true e h =
      let of_to : IsWellFormed to text = subst (λ set. IsWellFormed set text) (sym (is_the_binary to e)) bytes in
      subst (λ (t : List ℕ). Spells to (chars to text) t) (sym h) (encodes to text of_to)
  spells_by false e h = subst (λ (codes : List ℕ). Spells to codes kept) (same from to text kept e lossless converted) (encodes to kept well_formed)

  pub kept_spells : Spells to (taken_chars from to text) kept
  kept_spells = spells_by (is_binary to) refl converted

pub fitted_ok : (from to : Charset) (most : ℕ) (text kept : List ℕ) → Spells to (taken_chars from to text) kept → nat_lt most (length (taken_chars from to text)) ≡ false
    → fitted from to most text ≡ Ok kept
unfolding fitted
fitted_ok from to most text kept spells short =
    let le : nat_le (length (taken_chars from to text)) most ≡ true = grind (arith, nat_tests) in
    rw (spells, le) refl

pub fitted_long : (from to : Charset) (most : ℕ) (text kept : List ℕ) → Spells to (taken_chars from to text) kept → nat_lt most (length (taken_chars from to text)) ≡ true
    → fitted from to most text ≡ Err TooLong
unfolding fitted
fitted_long from to most text kept spells long =
    let gt : nat_le (length (taken_chars from to text)) most ≡ false = grind (arith, nat_tests) in
    rw (spells, gt) refl

pub kept_short : (from to : Charset) (most : ℕ) (text kept : List ℕ) → chars to kept ≡ taken_chars from to text → nat_lt most (length (taken_chars from to text)) ≡ false
    → length (chars to kept) ≤ most
kept_short from to most text kept e short =
    let le : length (taken_chars from to text) ≤ most = grind (arith, nat_tests) in
    subst (λ (codes : List ℕ). length codes ≤ most) (sym e) le
