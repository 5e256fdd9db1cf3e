-- What a table8 collation means: MySQL 8.0 manual, 10.14.3, and 10.8.5 on trailing spaces.
use Rattle.std.specs.Prelude.{ℕ, ◌+◌, Bool, true, false, IsTrue, List, [], ◌∷◌, Option, Some, None}
use Rattle.std.specs.List.{flat_map}
use Rattle.mc_charset.specs.declared.charset.Charset.{Charset}
use Rattle.mc_charset.specs.declared.charset.Charset.TheVariants.{Latin1, Ascii}
use Rattle.mc_charset.specs.Chars.{spell}
use Rattle.mc_order.specs.declared.pad.Pad.TheVariants.{PadSpace}
use Rattle.mc_order.specs.Bin.{first_byte}
use Rattle.mc_order.specs.Meaning.{Meaning}
use Rattle.mc_table8.specs.Table8.{ByteTable, byte_entry}

-- The sets that such a table stands on: latin1 and ascii.
abbrev pub is_byte_set : Charset → Bool
is_byte_set Latin1 = true
is_byte_set Ascii = true
is_byte_set _ = false

-- The weight of a number that there may be: the number plus 1.
abbrev pub second_weight : Option ℕ → List ℕ
second_weight None = []
second_weight (Some number) = (number + 1) ∷ []

-- The weights of an entry, one or two: its numbers, each plus 1.
abbrev pub entry_weights : ℕ × Option ℕ → List ℕ
entry_weights entry = (entry.0 + 1) ∷ second_weight entry.1

-- The weights of a character: those of the byte that spells it.
unfoldable pub char_weights : Charset → List (ℕ × Option ℕ) → ℕ → List ℕ
char_weights set entries code = entry_weights (byte_entry entries (first_byte (spell set code)))

-- The weights of bytes, one behind the other.
abbrev pub bytes_weights : List (ℕ × Option ℕ) → List ℕ → List ℕ
bytes_weights entries bytes = flat_map (λ byte. entry_weights (byte_entry entries byte)) bytes

-- One or two weights a character; one level, no contractions, texts padded with spaces.
abbrev pub entries_meaning : Charset → List (ℕ × Option ℕ) → Meaning
entries_meaning set entries = record {
  charset = set;
  pad = PadSpace;
  space = (byte_entry entries 0x20).0 + 1;
  levels = 1;
  weight_width = 1;
  added = 1;
  level_list = λ level codes. flat_map (char_weights set entries) codes;
  contractions = [];
  tails = [];
  floor = λ k. k;
}

-- A table means what its entries do.
abbrev pub table8_meaning : Charset → ByteTable → Meaning
table8_meaning set table = entries_meaning set table.entries

-- A table on a set of one-byte spellings.
pub record ByteCollation : Type 0 where
  pub charset : Charset
  pub table : ByteTable
  pub on_bytes : IsTrue (is_byte_set charset)
