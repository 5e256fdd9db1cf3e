-- A spelling has at most four bytes.
use Rattle.std.proofs.Common.{◌≡◌, ℕ, suc, ◌-◌, ◌*◌, ◌≤◌, Bool, true, false, List, [], ◌∷◌}
use Rattle.std.proofs.Common.{◌++◌, None, Some}
use Rattle.std.proofs.Common.{refl, sym, ap, ◌∙◌, length, length-append, arith}
use Rattle.std.proofs.lemmas.Bool.Decides.{nat_tests}
use Rattle.std.specs.List.{list_all}
use Rattle.std.specs.Prelude.{Option, nat_le, option_and_then, ◌&&◌, if◌then◌else◌}
use Rattle.mc_charset.specs.Chars.{Spells, spell, spell_all}
use Rattle.mc_charset.specs.Rows.{Range, Row, has_code, sequence, spelling_in}
use Rattle.mc_charset.specs.Tables.{rows}
use Rattle.mc_charset.specs.declared.charset.Charset.{Charset}
use Rattle.mc_charset.specs.declared.charset.Charset.TheVariants as set

abbrev is_short : Row → Bool
is_short row = nat_le (length row.bytes) 4

short_rows : (s : Charset) → list_all is_short (rows s) ≡ true
short_rows set.Latin1 = refl
short_rows set.Ascii = refl
short_rows set.Utf8mb3 = refl
short_rows set.Utf8mb4 = refl
short_rows set.Ucs2 = refl
short_rows set.Utf16 = refl
short_rows set.Utf32 = refl
short_rows set.Binary = refl

sequence_length : (rs : List Range) (n : ℕ) → length (sequence rs n) ≡ length rs
sequence_length [] n = refl
sequence_length (r ∷ rs) n = ap (λ m. suc m) (sequence_length rs _)

parts : (a b : Bool) → (a && b) ≡ true → (a ≡ true) × (b ≡ true)
parts true b e = (refl, e)
parts false b e = absurd (cc)

in_row : (row : Row) (code : ℕ) (text : List ℕ) (others : Option (List ℕ)) → is_short row ≡ true
    → (others ≡ Some text → length text ≤ 4) → (b : Bool)
    → (if b then Some (sequence row.bytes (code - row.first)) else others) ≡ Some text
    → length text ≤ 4
in_row row code text others here rest true f =
    let same : sequence row.bytes (code - row.first) ≡ text = cc in
    let len = sequence_length row.bytes (code - row.first) in
    let long : length text ≡ length row.bytes = ap length (sym same) ∙ len in
    grind (arith, nat_tests, here, long)
in_row row code text others here rest false f = rest f

in_rows : (rs : List Row) → list_all is_short rs ≡ true → (code : ℕ) (text : List ℕ)
    → spelling_in rs code ≡ Some text → length text ≤ 4
in_rows [] h code text e = absurd (cc)
in_rows (row ∷ rs) h code text e =
    let both = parts (is_short row) (list_all is_short rs) h in
    in_row row code text (spelling_in rs code) both.0 (λ f. in_rows rs both.1 code text f)
    (has_code row code) e

joined : (codes text : List ℕ) (a b : Option (List ℕ)) (code : ℕ)
    → ((front : List ℕ) → a ≡ Some front → length front ≤ 4)
    → ((rest : List ℕ) → b ≡ Some rest → length rest ≤ 4 * length codes)
    → option_and_then (λ front. option_and_then (λ rest. Some (front ++ rest)) b) a ≡ Some text
    → length text ≤ 4 * length (code ∷ codes)
joined codes text None b code f g h = absurd (cc)
joined codes text (Some front) None code f g h = absurd (cc)
joined codes text (Some front) (Some rest) code f g h =
    let one = f front refl in
    let others = g rest refl in
    let same : front ++ rest ≡ text = cc in
    let len = ap length (sym same) ∙ length-append front rest in
    omega (arith, one, others, len)

pub spelled_length : (s : Charset) (codes text : List ℕ) → Spells s codes text
    → length text ≤ 4 * length codes
unfolding spell_all spell
spelled_length s [] text e =
    let f : [] ≡ text = cc in let l = ap length (sym f) in omega (arith, l)
spelled_length s (code ∷ codes) text e =
    joined codes text (spelling_in (rows s) code) (spell_all s codes) code
    (λ front f. in_rows (rows s) (short_rows s) code front f)
    (λ rest f. spelled_length s codes rest f) e
