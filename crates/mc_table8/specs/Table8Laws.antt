-- The table8 collations keep the laws.
use Rattle.std.proofs.Common.{◌≡◌, ◌≢◌, ℕ, ◌+◌, ◌<◌, ◌≤◌, true, List, [], ◌∷◌, ◌++◌, Option, Some}
use Rattle.std.proofs.Common.{None, length, take, drop, append-nil, refl, sym, ap, ◌∙◌, inl, arith}
use Rattle.std.specs.List.{All, flat_map}
use Rattle.std.proofs.lemmas.List.Elements.{All-nil, All-cons, All-append}
use Rattle.mc_charset.specs.declared.charset.Charset.{Charset}
use Rattle.mc_charset.specs.declared.charset.Charset.TheVariants.{Latin1, Ascii, Utf8mb3, Utf8mb4}
use Rattle.mc_charset.specs.declared.charset.Charset.TheVariants.{Ucs2, Utf16, Utf32, Binary}
use Rattle.mc_charset.specs.Chars.{spell}
use Rattle.mc_order.specs.Bin.{first_byte}
use Rattle.mc_order.specs.Meaning.{AreCharsOf}
use Rattle.mc_order.specs.Laws.{KeepsSettings, IsWeight, IsCut, HasWeightPerChar, IsLawful}
use Rattle.mc_order.specs.WithoutContractions.{without_tails, flat_map-split, flat_map-enough}
use Rattle.mc_table8.specs.Table8.{ByteTable, byte_entry}
use Rattle.mc_table8.specs.Table8Meaning.{is_byte_set, second_weight, entry_weights, char_weights}
use Rattle.mc_table8.specs.Table8Meaning.{table8_meaning, ByteCollation}

none_behind : (entry : ℕ × Option ℕ) → entry.1 ≡ None → entry_weights entry ≡ (entry.0 + 1) ∷ []
none_behind entry e = ap (λ second. (entry.0 + 1) ∷ second_weight second) e

space_byte : (set : Charset) → is_byte_set set ≡ true → first_byte (spell set 0x20) ≡ 0x20
unfolding spell
space_byte Latin1 e = refl
space_byte Ascii e = refl
space_byte Utf8mb3 e = absurd cc
space_byte Utf8mb4 e = absurd cc
space_byte Ucs2 e = absurd cc
space_byte Utf16 e = absurd cc
space_byte Utf32 e = absurd cc
space_byte Binary e = absurd cc

space_weights : (set : Charset) (table : ByteTable) → is_byte_set set ≡ true →
    char_weights set table.entries 0x20 ≡ ((byte_entry table.entries 0x20).0 + 1) ∷ []
unfolding char_weights
space_weights set table e =
    ap (λ byte. entry_weights (byte_entry table.entries byte)) (space_byte set e)
    ∙ none_behind (byte_entry table.entries 0x20) table.one_for_space

settings : (set : Charset) (table : ByteTable) → is_byte_set set ≡ true →
    KeepsSettings (table8_meaning set table)
settings set table e = record {
  some_level = omega arith;
  three_levels = omega arith;
  levels_unpadded = λ more. absurd (omega arith);
  some_width = omega arith;
  three_wide = omega arith;
  one_added = omega arith;
  space_weight = append-nil (char_weights set table.entries 0x20) ∙ space_weights set table e;
}

weight_fits : (set : Charset) (table : ByteTable) (number : ℕ) → number < 256 →
    IsWeight (table8_meaning set table) (number + 1)
weight_fits set table number less = (omega arith, omega arith, omega arith, omega arith)

second_fits : (set : Charset) (table : ByteTable) (second : Option ℕ) →
    ((number : ℕ) → second ≡ Some number → number < 256) →
    All (IsWeight (table8_meaning set table)) (second_weight second)
second_fits set table None fits = All-nil (IsWeight (table8_meaning set table))
second_fits set table (Some number) fits =
    All-cons (IsWeight (table8_meaning set table)) (number + 1) [] (weight_fits set table number
    (fits number refl)) (All-nil (IsWeight (table8_meaning set table)))

char_fits : (set : Charset) (table : ByteTable) (code : ℕ) →
    All (IsWeight (table8_meaning set table)) (char_weights set table.entries code)
unfolding char_weights
char_fits set table code =
    let entry = byte_entry table.entries (first_byte (spell set code)) in
    let fits = table.fits (first_byte (spell set code)) in
    All-cons (IsWeight (table8_meaning set table)) (entry.0 + 1) (second_weight entry.1)
    (weight_fits set table entry.0 fits.0) (second_fits set table entry.1 fits.1)

bounds : (set : Charset) (table : ByteTable) (codes : List ℕ) →
    All (IsWeight (table8_meaning set table)) (flat_map (char_weights set table.entries) codes)
bounds set table [] = All-nil (IsWeight (table8_meaning set table))
bounds set table (c ∷ cs) =
    All-append (IsWeight (table8_meaning set table)) (char_weights set table.entries c) (flat_map
    (char_weights set table.entries) cs) (char_fits set table c) (bounds set table cs)

-- Each character has a weight.
some_weights : (set : Charset) (entries : List (ℕ × Option ℕ)) (code : ℕ) →
    char_weights set entries code ≢ []
unfolding char_weights
some_weights set entries code none = cc

all_some : (set : Charset) (entries : List (ℕ × Option ℕ)) (codes : List ℕ) →
    All (λ code. char_weights set entries code ≢ []) codes
all_some set entries [] = All-nil (λ code. char_weights set entries code ≢ [])
all_some set entries (c ∷ cs) =
    All-cons (λ code. char_weights set entries code ≢ []) c cs (some_weights set entries c)
    (all_some set entries cs)

cut : (set : Charset) (table : ByteTable) (k : ℕ) (codes : List ℕ) →
    IsCut (table8_meaning set table) k codes
cut set table k codes =
    let f : ℕ → List ℕ = char_weights set table.entries in record {
      kept = flat_map f (take k codes);
      tail = [];
      rest = flat_map f (drop k codes);
      front = sym (append-nil (flat_map f (take k codes)));
      whole = flat_map-split f k codes;
      none_or_tail = inl refl;
      enough = flat_map-enough f k codes (all_some set table.entries codes);
    }

per_char : (set : Charset) (table : ByteTable) → HasWeightPerChar (table8_meaning set table)
per_char set table = (
  refl,
  λ code c e. some_weights set table.entries code
      (sym (append-nil (char_weights set table.entries code)) ∙ e),
)

pub table8_lawful : (c : ByteCollation) → IsLawful (table8_meaning c.charset c.table)
table8_lawful c = record {
  settings = settings c.charset c.table c.on_bytes;
  bounds = λ level codes some within chars. bounds c.charset c.table codes;
  empty = λ level some within. refl;
  cut = λ k codes chars. cut c.charset c.table k codes;
  head = λ level code codes some within chars head. ap (λ weights. weights ++ flat_map
      (char_weights c.charset c.table.entries) codes) (sym (append-nil
      (char_weights c.charset c.table.entries code)));
  floor_of = λ k. ((λ weights. refl), λ none. absurd (none (per_char c.charset c.table)));
  contractions_of = All-nil (λ codes. (2 ≤ length codes) × AreCharsOf c.charset codes);
  tails_of = without_tails (table8_meaning c.charset c.table) refl refl;
}
