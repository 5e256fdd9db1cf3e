-- Where characters begin in a text, and what two texts share in front.
use Rattle.std.specs.Prelude.{◌≡◌, ◌≢◌, ℕ, ◌%◌, ◌==◌, ◌&&◌, ◌||◌}
use Rattle.std.specs.Prelude.{Bool, true, nat_lt, List, []}
use Rattle.std.specs.Prelude.{◌∷◌, ◌++◌, take, drop}
use Rattle.mc_charset.specs.declared.charset.Charset.{Charset}
use Rattle.mc_charset.specs.declared.charset.Charset.TheVariants.{Latin1, Ascii, Utf8mb3, Utf8mb4}
use Rattle.mc_charset.specs.declared.charset.Charset.TheVariants.{Ucs2, Utf16, Utf32, Binary}
use Rattle.mc_charset.specs.Chars.{chars, Spells}

-- The text is characters before this place and characters behind it.
abbrev pub IsBoundary : Charset → List ℕ → ℕ → Type 0
IsBoundary set text at =
    (front : List ℕ) × (rest : List ℕ) × Spells set front (take at text) × Spells set rest
    (drop at text)

-- The first bytes, so many, are the same characters in both texts.
abbrev pub SharesFront : Charset → List ℕ → List ℕ → ℕ → Type 0
SharesFront set a b at =
    (front : List ℕ) × (chars set a ≡ front ++ chars set (drop at a)) ×
    (chars set b ≡ front ++ chars set (drop at b)) ×
    Spells set front (take at a) × Spells set front (take at b)

-- One of the lists is empty, or their first members differ.
abbrev pub PartAtOnce : List ℕ → List ℕ → Type 0
PartAtOnce [] ys = Unit {0}
PartAtOnce (x ∷ xs) [] = Unit {0}
PartAtOnce (x ∷ xs) (y ∷ ys) = x ≢ y

-- A spelling may begin at this place of a text with this byte: no byte inside a spelling stands so.
abbrev pub may_begin : Charset → ℕ → ℕ → Bool
may_begin Utf8mb3 at byte = nat_lt byte 0x80 || nat_lt 0xBF byte
may_begin Utf8mb4 at byte = nat_lt byte 0x80 || nat_lt 0xBF byte
may_begin Ucs2 at byte = at % 2 == 0
may_begin Utf16 at byte = (at % 2 == 0) && (nat_lt byte 0xDC || nat_lt 0xDF byte)
may_begin Utf32 at byte = at % 4 == 0
may_begin Latin1 at byte = true
may_begin Ascii at byte = true
may_begin Binary at byte = true
