-- The weights of the bytes of a one-byte set: MySQL 8.0 manual, 10.14.3.
use Rattle.std.specs.Prelude.{◌≡◌, ℕ, ◌<◌, List, Option, Some, None, length, slice_index_or}

-- The weight of a byte in the table's entries, and the second one where it has two.
abbrev pub byte_entry : List (ℕ × Option ℕ) → ℕ → ℕ × Option ℕ
byte_entry entries byte = slice_index_or entries byte (0, None)

-- Each weight is a byte's.
abbrev pub IsByteEntry : ℕ × Option ℕ → Type 0
IsByteEntry entry = (entry.0 < 256) × ((second : ℕ) → entry.1 ≡ Some second → second < 256)

-- A table: one or two weights for each of the 256 bytes, and one alone for the space, 20.
pub record ByteTable : Type 0 where
  pub entries : List (ℕ × Option ℕ)
  pub all_bytes : length entries ≡ 256
  pub fits : (byte : ℕ) → IsByteEntry (byte_entry entries byte)
  pub one_for_space : (byte_entry entries 0x20).1 ≡ None
