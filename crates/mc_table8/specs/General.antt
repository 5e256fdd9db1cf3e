-- The weights of the code points of a Unicode set: MySQL 8.0 manual, 10.10.1.
use Rattle.std.specs.Prelude.{◌≡◌, ℕ, ◌≤◌, List, length, nat_lt, slice_index_or, if◌then◌else◌}

-- The weight of a code point: a code point above FFFF has that of U+FFFD.
abbrev pub code_weight : List ℕ → ℕ → ℕ
code_weight weights code = slice_index_or weights (if nat_lt code 0x10000 then code else 0xFFFD) 0

-- A table: a weight of at most FFFF for each code point up to FFFF.
pub record CodeTable : Type 0 where
  pub weights : List ℕ
  pub all_codes : length weights ≡ 0x10000
  pub fits : (code : ℕ) → slice_index_or weights code 0 ≤ 0xFFFF
