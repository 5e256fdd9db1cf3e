-- Sets between which each text keeps its bytes: MySQL 8.0 manual, 10.9 and 10.10.
use Rattle.std.specs.Prelude.{◌≡◌, Bool, true, false, ℕ, List}
use Rattle.mc_charset.specs.Chars.{IsWellFormed}
use Rattle.mc_charset.specs.declared.charset.Charset.{Charset}
use Rattle.mc_charset.specs.declared.charset.Charset.TheVariants.{Latin1, Ascii, Utf8mb3, Utf8mb4}
use Rattle.mc_charset.specs.declared.charset.Charset.TheVariants.{Ucs2, Utf16, Utf32, Binary}
use Rattle.mc_convert.specs.Conversion.{IsLossless, converted_text}

-- Each text of `from` has the same bytes in `to`.
abbrev pub KeepsEachText : Charset → Charset → Type 0
KeepsEachText from to =
    (text : List ℕ) → IsWellFormed from text → converted_text from to text ≡ text

-- The text has the same bytes in `to`, and no character is lost.
pub record IsKept (from to : Charset) (text : List ℕ) : Type 0 where
  pub same : converted_text from to text ≡ text
  pub lossless : IsLossless from to text

-- The set has the spellings of these: ascii's are those of most sets, utf8mb3's are utf8mb4's,
-- and ucs2's are utf16's. No public clause cites it.
abbrev pub has_spellings_of : Charset → Charset → Bool
has_spellings_of Latin1 Latin1 = true
has_spellings_of Latin1 Ascii = true
has_spellings_of Ascii Ascii = true
has_spellings_of Utf8mb3 Ascii = true
has_spellings_of Utf8mb3 Utf8mb3 = true
has_spellings_of Utf8mb4 Ascii = true
has_spellings_of Utf8mb4 Utf8mb3 = true
has_spellings_of Utf8mb4 Utf8mb4 = true
has_spellings_of Ucs2 Ucs2 = true
has_spellings_of Utf16 Ucs2 = true
has_spellings_of Utf16 Utf16 = true
has_spellings_of Utf32 Utf32 = true
has_spellings_of Binary from = true
has_spellings_of to from = false
