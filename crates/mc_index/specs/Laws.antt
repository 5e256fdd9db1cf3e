-- The entries of an interval stand side by side, from the place of one end to that of the other.
use Rattle.std.specs.Prelude.{◌≡◌, ◌≢◌, ◌↔◌, ℕ, ◌<◌, ◌≤◌, ◌-◌, List, Option, Some, None, ⊤}
use Rattle.std.specs.Prelude.{length, slice_index_or}
use Rattle.std.specs.declared.cmp.Ordering.TheVariants.{Less, Greater}
use Rattle.mc_order.specs.Order.{list_order}
use Rattle.mc_index.specs.Entries.{SeenEntry, SeenIndex}
use Rattle.mc_index.specs.Places.{count_between, end_place, first_place}

-- The key of an entry is not below a lower end, which may be open.
abbrev pub IsFrom : SeenIndex → (low : Option (List ℕ)) → SeenEntry → Type 0
IsFrom index None entry = ⊤
IsFrom index (Some low) entry = list_order index.pad index.space entry.weights low ≢ Less

-- The key of an entry is not above an upper end, which may be open.
abbrev pub IsUpTo : SeenIndex → (high : Option (List ℕ)) → SeenEntry → Type 0
IsUpTo index None entry = ⊤
IsUpTo index (Some high) entry =
    list_order index.pad index.space entry.weights high ≢ Greater

-- The key of an entry lies in the interval, whose ends count.
abbrev pub IsBetween : SeenIndex → (low high : Option (List ℕ)) → SeenEntry → Type 0
IsBetween index low high entry = IsFrom index low entry × IsUpTo index high entry

-- The entries whose keys lie in an interval are those from the place where the entries begin that
-- are not below its lower end, to the place where those have ended that are not above its upper
-- end.
abbrev pub PlacesAreBetween : SeenIndex → Type 0
PlacesAreBetween index =
    (low high : Option (List ℕ)) (place : ℕ) (d : SeenEntry) → place < length index.entries →
    ((first_place index low ≤ place) × (place < end_place index high))
    ↔ IsBetween index low high (slice_index_or index.entries place d)

-- So there are as many as places.
abbrev pub CountsPlaces : SeenIndex → Type 0
CountsPlaces index =
    (low high : Option (List ℕ)) →
    count_between index low high ≡ end_place index high - first_place index low

-- None lies in an interval whose lower end is above its upper end.
abbrev pub NoneBetweenTurned : SeenIndex → Type 0
NoneBetweenTurned index =
    (low high : List ℕ) → list_order index.pad index.space low high ≡ Greater →
    count_between index (Some low) (Some high) ≡ 0
