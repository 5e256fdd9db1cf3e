-- Entries as they are held, with whole keys.
use Rattle.std.specs.Prelude.{◌≡◌, ℕ, Bool, List, map}
use Rattle.std.specs.List.{All}
use Rattle.std.specs.Ordering.{nat_cmp, on, then_cmp}
use Rattle.std.specs.declared.cmp.Ordering.{Ordering}
use Rattle.mc_order.specs.declared.pad.Pad.{Pad}
use Rattle.mc_order.specs.Order.{list_order}
use Rattle.mc_key.specs.Keys.{SeenBound}
use Rattle.mc_index.specs.declared.entry.Entry.{Entry}
use Rattle.mc_index.specs.declared.side.Side.{Side}
use Rattle.mc_index.specs.Entries.{SeenEntry, SeenIndex, entry_order}
use Rattle.mc_index.specs.Places.{is_before}

-- what contracts see of an entry
abbrev pub seen : Entry → SeenEntry
seen entry = record { weights = entry.key.weights; row = entry.row }

-- what they see of entries with keys of one padding and space
abbrev pub seen_index : Pad → ℕ → List Entry → SeenIndex
seen_index pad space entries =
    record { pad = pad; space = space; entries = map seen entries }

-- The key has this padding and this space.
abbrev pub IsKeyed : Pad → ℕ → Entry → Type 0
IsKeyed pad space entry = (entry.key.pad ≡ pad) × (entry.key.space ≡ space)

-- All keys have.
abbrev pub AreKeyed : Pad → ℕ → List Entry → Type 0
AreKeyed pad space entries = All (IsKeyed pad space) entries

-- whether the key of an entry is below a bound, or (After) not above it
abbrev pub holds_before : SeenBound → Side → Entry → Bool
holds_before bound side entry =
    is_before side (list_order bound.pad bound.space entry.key.weights bound.numbers)

-- the order of two entries, by their fronts where those differ
abbrev pub fronts_first : Pad → ℕ → Entry → Entry → Ordering
fronts_first pad space =
    then_cmp (on (λ entry. entry.front) nat_cmp) (on seen (entry_order pad space))
