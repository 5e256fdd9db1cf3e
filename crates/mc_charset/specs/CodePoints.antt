-- Each character that a set spells is a code point: Unicode Standard, 2.4.
use Rattle.std.proofs.Common.{◌≡◌, ℕ, ◌+◌, ◌-◌, ◌<◌, Bool, true, false, cond}
use Rattle.std.proofs.Common.{ltb, leb, ◌&&◌, List}
use Rattle.std.proofs.Common.{[], ◌∷◌, Option, Some, refl, arith}
use Rattle.std.proofs.lemmas.Bool.Decides.{nat_tests}
use Rattle.mc_charset.specs.declared.charset.Charset.{Charset}
use Rattle.mc_charset.specs.declared.charset.Charset.TheVariants.{Latin1, Ascii, Utf8mb3, Utf8mb4}
use Rattle.mc_charset.specs.declared.charset.Charset.TheVariants.{Ucs2, Utf16, Utf32, Binary}
use Rattle.mc_charset.specs.Rows.{Row, count, sequence, has_code, spelling_in}
use Rattle.mc_charset.specs.Tables.{rows}
use Rattle.mc_charset.specs.Chars.{spell, code_points}

-- Each code point of the rows is below this number.
abbrev codes_end : ℕ → List Row → Bool
codes_end end [] = true
codes_end end (row ∷ rows) = leb (row.first + count row.bytes) end && codes_end end rows

both : (a b : Bool) → (a && b) ≡ true → (a ≡ true) × (b ≡ true)
both true b h = (refl, h)
both false b h = absurd (cc)

either_row : (t : Bool) (own front : List ℕ) (o : Option (List ℕ)) (P : Type 0)
    → (t ≡ true → P)
    → (o ≡ Some front → P) → cond t (Some own) o ≡ Some front → P
either_row true own front o P f g h = f refl
either_row false own front o P f g h = g h

below_end : (a m end code : ℕ) → leb (a + m) end ≡ true
    → (leb a code && ltb code (a + m)) ≡ true
    → code < end
below_end a m end code h k = grind (arith, nat_tests)

spelling_below : (rows : List Row) (end code : ℕ) (front : List ℕ)
    → codes_end end rows ≡ true
    → spelling_in rows code ≡ Some front → code < end
spelling_below [] end code front h k = absurd (cc)
spelling_below (row ∷ rows) end code front h k =
    let p = both (leb (row.first + count row.bytes) end) (codes_end end rows) h in
    either_row (has_code row code) (sequence row.bytes (code - row.first)) front
    (spelling_in rows code) (code < end)
    (λ e. below_end row.first (count row.bytes) end code p.0 e)
    (λ e. spelling_below rows end code front p.1 e) k

rows_below : (set : Charset) → codes_end code_points (rows set) ≡ true
rows_below Latin1 = refl
rows_below Ascii = refl
rows_below Utf8mb3 = refl
rows_below Utf8mb4 = refl
rows_below Ucs2 = refl
rows_below Utf16 = refl
rows_below Utf32 = refl
rows_below Binary = refl

-- What a set spells is a code point.
pub spelled_code_point : (set : Charset) (code : ℕ) (front : List ℕ)
    → spell set code ≡ Some front
    → code < code_points
unfolding spell
spelled_code_point set code front h =
    spelling_below (rows set) code_points code front (rows_below set) h
