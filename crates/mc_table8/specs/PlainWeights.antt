-- What a table keeps beside its entries, so that texts compare byte by byte while each byte has one
-- weight. It is of no standard: no meaning of a collation rests on it.
use Rattle.std.specs.Prelude.{ℕ, ◌≡◌, ◌+◌, ◌<◌, List, Option, Some, None, slice_index_or}
use Rattle.mc_table8.specs.Table8.{byte_entry}

-- The weight of a byte that has one weight: its number plus 1. Where it has two: 0, no weight.
abbrev pub plain_weight : ℕ × Option ℕ → ℕ
plain_weight (first, None) = first + 1
plain_weight (first, Some second) = 0

-- A number for each of the 256 bytes: its plain weight.
abbrev pub ArePlain : List ℕ → List (ℕ × Option ℕ) → Type 0
ArePlain plain entries =
    (byte : ℕ) → byte < 256 → slice_index_or plain byte 0 ≡ plain_weight (byte_entry entries byte)
