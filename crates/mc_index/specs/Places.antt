-- Where the ends of an interval stand among entries: MySQL 8.0 manual, 8.2.1.2, Range Optimization.
use Rattle.std.specs.Prelude.{◌≡◌, ℕ, Bool, true, not, ◌&&◌, List, Option, Some, None, length}
use Rattle.std.specs.Prelude.{count_by}
use Rattle.std.specs.Borrow.{Bor}
use Rattle.std.specs.Option.{option_map}
use Rattle.std.specs.Ordering.{is_gt, is_le, is_lt}
use Rattle.std.specs.declared.cmp.Ordering.{Ordering}
use Rattle.mc_order.specs.Order.{list_order}
use Rattle.mc_key.specs.Keys.{SeenBound}
use Rattle.mc_index.specs.declared.side.Side.{Side}
use Rattle.mc_index.specs.declared.side.Side.TheVariants.{Before, After}
use Rattle.mc_index.specs.Entries.{SeenEntry, SeenIndex}

-- The bound has the padding and the space of the index's keys.
abbrev pub IsBoundOf : SeenIndex → SeenBound → Type 0
IsBoundOf index bound = (bound.pad ≡ index.pad) × (bound.space ≡ index.space)

-- the numbers of a bound that may be absent
abbrev pub numbers : Option (Bor SeenBound) → Option (List ℕ)
numbers end = option_map (λ bound. bound.now.numbers) end

-- whether what has this order to a bound is below it, or (After) not above it
abbrev pub is_before : Side → Ordering → Bool
is_before Before order = is_lt order
is_before After order = is_le order

-- whether the key of an entry is below a bound, or (After) not above it
abbrev pub is_passed : SeenIndex → (bound : List ℕ) → Side → SeenEntry → Bool
is_passed index bound side entry =
    is_before side (list_order index.pad index.space entry.weights bound)

-- the number of entries whose key is below a bound, or (After) not above it
abbrev pub place_of : SeenIndex → (bound : List ℕ) → Side → ℕ
place_of index bound side = count_by (is_passed index bound side) index.entries

-- where the entries begin that are not below a lower end, which may be open
abbrev pub first_place : SeenIndex → (low : Option (List ℕ)) → ℕ
first_place index None = 0
first_place index (Some low) = place_of index low Before

-- where the entries have ended that are not above an upper end, which may be open
abbrev pub end_place : SeenIndex → (high : Option (List ℕ)) → ℕ
end_place index None = length index.entries
end_place index (Some high) = place_of index high After

-- whether the key of an entry is not below a lower end
abbrev pub is_from : SeenIndex → (low : Option (List ℕ)) → SeenEntry → Bool
is_from index None entry = true
is_from index (Some low) entry =
    not (is_lt (list_order index.pad index.space entry.weights low))

-- whether the key of an entry is not above an upper end
abbrev pub is_up_to : SeenIndex → (high : Option (List ℕ)) → SeenEntry → Bool
is_up_to index None entry = true
is_up_to index (Some high) entry =
    not (is_gt (list_order index.pad index.space entry.weights high))

-- whether the key of an entry lies in an interval, whose ends count
abbrev pub is_between : SeenIndex → (low high : Option (List ℕ)) → SeenEntry → Bool
is_between index low high entry = is_from index low entry && is_up_to index high entry

-- the number of entries in an interval
abbrev pub count_between : SeenIndex → (low high : Option (List ℕ)) → ℕ
count_between index low high = count_by (is_between index low high) index.entries
