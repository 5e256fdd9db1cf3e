-- Which code points rows of spellings and sets have.
use Rattle.std.proofs.Common.{◌≡◌, ℕ, ◌+◌, ◌-◌, ◌<◌, ◌≤◌, ◌⊎◌, Bool, true, false, cond, leb, ltb, ◌&&◌, ◌||◌, List, [], ◌∷◌, Option, Some, max, refl, sym, arith, inl, inr}
use Rattle.std.specs.Option.{is_some}
use Rattle.std.proofs.lemmas.Bool.{false≢true}
use Rattle.std.proofs.lemmas.Bool.Decides.{nat_tests}
use Rattle.mc_charset.specs.declared.charset.Charset.{Charset}
use Rattle.mc_charset.specs.declared.charset.Charset.TheVariants.{Latin1 as SetLatin1, Ascii as SetAscii, Utf8mb3, Utf8mb4, Ucs2, Utf16, Utf32, Binary}
use Rattle.mc_charset.specs.Rows.{Row, count, sequence, has_code, spelling_in}
use Rattle.mc_charset.specs.Tables.{rows}
use Rattle.mc_charset.specs.Chars.{spell}
use Rattle.mc_convert.specs.Classes.{rank, Has, cap_of}
use Rattle.mc_convert.specs.Conversion.{is_binary}
use Rattle.mc_convert.specs.declared.repertoire.Repertoire.{Repertoire}
use Rattle.mc_convert.specs.declared.repertoire.Repertoire.TheVariants.{Ascii, Latin1, Bmp, Unicode, Bytes}
use Rattle.mc_convert.proofs.Classes.{latin1_below}

-- Code points that rows have

-- How far the code points from `lo` on are had, once this row is added.
abbrev pub reach : ℕ → Row → ℕ
reach lo row = cond (leb row.first lo) (max lo (row.first + count row.bytes)) lo

-- The rows have the code points from one up to another, in ascending order.
abbrev pub covers : ℕ → ℕ → List Row → Bool
covers lo hi [] = leb hi lo
covers lo hi (row ∷ rows) = covers (reach lo row) hi rows

reach_below : (lo code : ℕ) (row : Row) → lo ≤ code → has_code row code ≡ false
    → reach lo row ≤ code
reach_below lo code row h k = grind (arith, nat_tests)

covered_step : (t : Bool) (front : List ℕ) (o : Option (List ℕ)) → (t ≡ false → is_some o ≡ true)
    → is_some (cond t (Some front) o) ≡ true
covered_step true front o h = refl
covered_step false front o h = h refl

covered : (lo hi : ℕ) (rows : List Row) (code : ℕ) → covers lo hi rows ≡ true → lo ≤ code
    → code < hi → is_some (spelling_in rows code) ≡ true
covered lo hi [] code h k l = let m : hi ≤ lo = grind (arith, nat_tests) in absurd (omega arith)
covered lo hi (row ∷ rows) code h k l =
    covered_step (has_code row code) (sequence row.bytes (code - row.first)) (spelling_in rows code)
    (λ e. covered (reach lo row) hi rows code h (reach_below lo code row k e) l)

-- Unicode's scalar values: the code points that are no surrogates.
abbrev pub IsScalar : ℕ → Type 0
IsScalar code = (code < 0xD800) ⊎ ((0xE000 ≤ code) × (code < 0x110000))

-- The rows have scalar values only.
abbrev pub are_scalar : List Row → Bool
are_scalar [] = true
are_scalar (row ∷ rows) =
    (leb (row.first + count row.bytes) 0xD800 ||
    (leb 0xE000 row.first && leb (row.first + count row.bytes) 0x110000)) && are_scalar rows

and_parts : (a b : Bool) → (a && b) ≡ true → (a ≡ true) × (b ≡ true)
and_parts true true h = (refl, refl)
and_parts true false h = absurd (cc)
and_parts false b h = absurd (cc)

or_parts : (a b : Bool) → (a || b) ≡ true → (a ≡ true) ⊎ (b ≡ true)
or_parts true b h = inl refl
or_parts false b h = inr h

row_scalar : (first end code : ℕ)
    → (leb end 0xD800 || (leb 0xE000 first && leb end 0x110000)) ≡ true
    → (leb first code && ltb code end) ≡ true → IsScalar code
row_scalar first end code h k =
    let p = and_parts (leb first code) (ltb code end) k in
    let f : first ≤ code = grind (arith, nat_tests) in
    let e : code < end = grind (arith, nat_tests) in
    elim (or_parts (leb end 0xD800) (leb 0xE000 first && leb end 0x110000) h) [
      | inl l ↦ let m : end ≤ 0xD800 = grind (arith, nat_tests) in inl (omega arith)
      | inr r ↦
          let q = and_parts (leb 0xE000 first) (leb end 0x110000) r in
          let m : 0xE000 ≤ first = grind (arith, nat_tests) in
          let n : end ≤ 0x110000 = grind (arith, nat_tests) in
          inr (omega arith, omega arith)
    ]

scalar_step : (t : Bool) (front : List ℕ) (o : Option (List ℕ)) (P : Type 0) → (t ≡ true → P)
    → (is_some o ≡ true → P) → is_some (cond t (Some front) o) ≡ true → P
scalar_step true front o P f g h = f refl
scalar_step false front o P f g h = g h

spelled_scalar : (rows : List Row) (code : ℕ) → are_scalar rows ≡ true
    → is_some (spelling_in rows code) ≡ true → IsScalar code
spelled_scalar [] code h k = absurd (false≢true k)
spelled_scalar (row ∷ rows) code h k =
    let p =
    and_parts (leb (row.first + count row.bytes) 0xD800 ||
    (leb 0xE000 row.first && leb (row.first + count row.bytes) 0x110000)) (are_scalar rows)
    h in
    scalar_step (has_code row code) (sequence row.bytes (code - row.first)) (spelling_in rows code)
    (IsScalar code)
    (λ t. row_scalar row.first (row.first + count row.bytes) code p.0 t)
    (λ t. spelled_scalar rows code p.1 t)
    k

-- Code points that sets have

-- The characters of all sets but binary are scalar values.
pub set_scalar : (set : Charset) (code : ℕ) → is_binary set ≡ false
    → is_some (spell set code) ≡ true → IsScalar code
unfolding spell
set_scalar SetLatin1 code h k = spelled_scalar (rows SetLatin1) code refl k
set_scalar SetAscii code h k = spelled_scalar (rows SetAscii) code refl k
set_scalar Utf8mb3 code h k = spelled_scalar (rows Utf8mb3) code refl k
set_scalar Utf8mb4 code h k = spelled_scalar (rows Utf8mb4) code refl k
set_scalar Ucs2 code h k = spelled_scalar (rows Ucs2) code refl k
set_scalar Utf16 code h k = spelled_scalar (rows Utf16) code refl k
set_scalar Utf32 code h k = spelled_scalar (rows Utf32) code refl k
set_scalar Binary code h k = absurd (false≢true (sym h))

-- Each set has what is below 80.
pub has_low : (set : Charset) (code : ℕ) → code < 0x80 → is_some (spell set code) ≡ true
unfolding spell
has_low SetLatin1 code h = covered 0 0x80 (rows SetLatin1) code refl (omega arith) h
has_low SetAscii code h = covered 0 0x80 (rows SetAscii) code refl (omega arith) h
has_low Utf8mb3 code h = covered 0 0x80 (rows Utf8mb3) code refl (omega arith) h
has_low Utf8mb4 code h = covered 0 0x80 (rows Utf8mb4) code refl (omega arith) h
has_low Ucs2 code h = covered 0 0x80 (rows Ucs2) code refl (omega arith) h
has_low Utf16 code h = covered 0 0x80 (rows Utf16) code refl (omega arith) h
has_low Utf32 code h = covered 0 0x80 (rows Utf32) code refl (omega arith) h
has_low Binary code h = covered 0 0x80 (rows Binary) code refl (omega arith) h

-- Rows that have all scalar values below an end.
covered_scalar : (end : ℕ) (rows : List Row) (code : ℕ) → covers 0 0xD800 rows ≡ true
    → covers 0xE000 end rows ≡ true → IsScalar code → code < end
    → is_some (spelling_in rows code) ≡ true
covered_scalar end rows code h k (inl l) m = covered 0 0xD800 rows code h (omega arith) l
covered_scalar end rows code h k (inr l) m = covered 0xE000 end rows code k l.0 m

scalar_below : (code : ℕ) → IsScalar code → code < 0x110000
scalar_below code (inl l) = omega arith
scalar_below code (inr l) = l.1

-- The classes up to Bmp have code points up to FFFF only.
pub class_bmp : (class : Repertoire) (code : ℕ) → rank class ≤ 2 → Has class code → code < 0x10000
class_bmp Ascii code h k = omega arith
class_bmp Latin1 code h k = latin1_below code k
class_bmp Bmp code h k = k
class_bmp Unicode code h k = absurd (omega arith)
class_bmp Bytes code h k = absurd (omega arith)

pub class_ascii : (class : Repertoire) (code : ℕ) → rank class ≤ 0 → Has class code → code < 0x80
class_ascii Ascii code h k = k
class_ascii Latin1 code h k = absurd (omega arith)
class_ascii Bmp code h k = absurd (omega arith)
class_ascii Unicode code h k = absurd (omega arith)
class_ascii Bytes code h k = absurd (omega arith)

pub latin1_has : (class : Repertoire) (code : ℕ) → Has class code → rank class ≤ 1
    → is_some (spell SetLatin1 code) ≡ true
latin1_has Ascii code h k = has_low SetLatin1 code h
latin1_has Latin1 code h k = h
latin1_has Bmp code h k = absurd (omega arith)
latin1_has Unicode code h k = absurd (omega arith)
latin1_has Bytes code h k = absurd (omega arith)

-- A set has the scalar values of each class up to its cap.
pub has_capped : (set : Charset) (class : Repertoire) (code : ℕ) → is_binary set ≡ false
    → IsScalar code → Has class code → rank class ≤ rank (cap_of set)
    → is_some (spell set code) ≡ true
unfolding spell
has_capped SetLatin1 class code b s h k = latin1_has class code h k
has_capped SetAscii class code b s h k = has_low SetAscii code (class_ascii class code k h)
has_capped Utf8mb3 class code b s h k =
    covered_scalar 0x10000 (rows Utf8mb3) code refl refl s (class_bmp class code k h)
has_capped Utf8mb4 class code b s h k =
    covered_scalar 0x110000 (rows Utf8mb4) code refl refl s (scalar_below code s)
has_capped Ucs2 class code b s h k =
    covered_scalar 0x10000 (rows Ucs2) code refl refl s (class_bmp class code k h)
has_capped Utf16 class code b s h k =
    covered_scalar 0x110000 (rows Utf16) code refl refl s (scalar_below code s)
has_capped Utf32 class code b s h k =
    covered_scalar 0x110000 (rows Utf32) code refl refl s (scalar_below code s)
has_capped Binary class code b s h k = absurd (false≢true (sym b))
