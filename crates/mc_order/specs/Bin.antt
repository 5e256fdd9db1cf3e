-- The binary collations (MySQL 8.0 manual, "The binary Collation Compared to _bin Collations").
use Rattle.std.specs.Prelude.{ℕ, ◌+◌, Bool, true, false, if◌then◌else◌, List, []}
use Rattle.std.specs.Prelude.{◌∷◌, Option, Some}
use Rattle.std.specs.Prelude.{map}
use Rattle.mc_charset.specs.declared.charset.Charset.{Charset}
use Rattle.mc_charset.specs.declared.charset.Charset.TheVariants.{Latin1, Ascii, Utf8mb3, Utf8mb4}
use Rattle.mc_charset.specs.declared.charset.Charset.TheVariants.{Ucs2, Utf16, Utf32, Binary}
use Rattle.mc_charset.specs.Chars.{spell}
use Rattle.mc_order.specs.declared.pad.Pad.{Pad}
use Rattle.mc_order.specs.declared.pad.Pad.TheVariants.{PadSpace, NoPad}
use Rattle.mc_order.specs.Meaning.{Meaning}

-- The set spells each character by one byte.
abbrev pub is_one_byte : Charset → Bool
is_one_byte Latin1 = true
is_one_byte Ascii = true
is_one_byte Binary = true
is_one_byte _ = false

-- The first byte of a spelling.
abbrev pub first_byte : Option (List ℕ) → ℕ
first_byte (Some (b ∷ bytes)) = b
first_byte _ = 0

-- The number of a character: its byte in a set of one-byte spellings, else its code point.
unfoldable pub bin_number : Charset → ℕ → ℕ
bin_number set code = if is_one_byte set then first_byte (spell set code) else code

-- The weight of U+0020 where lists are padded, else 0.
abbrev pub bin_space : Pad → ℕ
bin_space PadSpace = 0x20 + 1
bin_space NoPad = 0

-- One weight a character, its number plus 1; one level, no contractions.
abbrev pub bin_meaning : Charset × Pad → Meaning
bin_meaning (set, pad) = record {
  charset = set;
  pad = pad;
  space = bin_space pad;
  levels = 1;
  weight_width = if is_one_byte set then 1 else 3;
  added = 1;
  level_list = λ level codes. map (λ code. bin_number set code + 1) codes;
  contractions = [];
  tails = [];
  floor = λ k. k;
}

-- Set and padding of the built-in collations, by their numbers from 0 on.
abbrev pub built_in : List (Charset × Pad)
built_in =
    (Binary, NoPad) ∷ (Latin1, PadSpace) ∷ (Ascii, PadSpace) ∷ (Utf8mb3, PadSpace) ∷
    (Utf8mb4, PadSpace)
    ∷ (Ucs2, PadSpace) ∷ (Utf16, PadSpace) ∷ (Utf32, PadSpace) ∷ (Utf8mb4, NoPad) ∷ []
