-- Texts one after the other, and how a function's characters are its value: MySQL 8.0 manual, 12.8,
-- CONCAT and CONCAT_WS.
use Rattle.std.specs.Prelude.{ℕ, List, Option, Some, None, nat_le, option_and_then}
use Rattle.std.specs.Prelude.{if◌then◌else◌}
use Rattle.std.specs.List.{flat_map, join_by}
use Rattle.mc_charset.specs.Chars.{spell_all}
use Rattle.mc_charset.specs.declared.charset.Charset.{Charset}
use Rattle.mc_values.specs.Values.{greatest_string, within_limit}

-- the value that these characters spell: NULL where it would be too long
abbrev pub spelled_within : Charset → List ℕ → Option (List ℕ)
spelled_within set codes = option_and_then within_limit (spell_all set codes)

-- the parts in order
abbrev pub joined : List (List ℕ) → List ℕ
joined parts = flat_map (λ part. part) parts

-- the parts in order, the separator between two
abbrev pub joined_with : List ℕ → List (List ℕ) → List ℕ
joined_with separator parts = join_by (λ part. part) separator parts

-- a length, where a string may have it
abbrev pub allowed_length : ℕ → Option ℕ
allowed_length len = if nat_le len greatest_string then Some len else None
