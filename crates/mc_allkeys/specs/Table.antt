-- A table of collation elements: UTS #10, 3 and 10.1.3.
use Rattle.std.specs.Prelude.{ℕ, ◌-◌, ◌&&◌, ◌==◌, Bool, nat_le, List, length, Option}
use Rattle.std.specs.Prelude.{option_map}
use Rattle.std.specs.FinMap as map
use Rattle.std.specs.FinMap.{FinMap}
use Rattle.std.specs.List.{find}
use Rattle.std.specs.Option.{option_map_or}
use Rattle.mc_allkeys.specs.Texts.{text_cmp}
use Rattle.mc_allkeys.specs.declared.element.Element.{Element}
use Rattle.mc_allkeys.specs.declared.range.Range.{Range}

-- the entries of texts
abbrev pub Entries : Type 0
Entries = FinMap text_cmp (List Element)

-- a table as its file says it: the entries of texts, and the ranges of implicit weights in file
-- order
pub record ElementTable : Type 0 where
  pub entries : Entries
  pub ranges : List Range

-- whether a text is of two codes or more
abbrev pub is_long : List ℕ → Bool
is_long text = nat_le 2 (length text)

-- the contractions, in the order of their texts: the texts of two codes or more that have an entry
abbrev pub contractions_of : Entries → List (List ℕ)
contractions_of entries = map.keys (map.retain_keys entries is_long)

-- whether a range covers a code point
abbrev pub covers : ℕ → Range → Bool
covers code range = nat_le range.first code && nat_le code range.last

-- where the numbering of a base starts: at the first code point of its first range, else at another
-- one
abbrev pub start_of : List Range → ℕ → ℕ → ℕ
start_of ranges base other =
    option_map_or (λ range. range.first) (find (λ range. range.base == base) ranges) other

-- the base of a code point, and its number from the start of that base: its first range decides
abbrev pub implicit_of : List Range → ℕ → Option (ℕ × ℕ)
implicit_of ranges code =
    option_map (λ range. (range.base, code - start_of ranges range.base range.first))
    (find (covers code) ranges)
