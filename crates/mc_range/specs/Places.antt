-- A candidate as it is held while ends are sought, without a list of its own.
use Rattle.std.specs.Prelude.{ℕ, Bool, List, ◌++◌, take}
use Rattle.std.specs.List.{best_of}
use Rattle.std.specs.Ordering.{is_lt, is_gt}
use Rattle.std.specs.declared.cmp.Ordering.{Ordering}
use Rattle.mc_order.specs.Meaning.{Meaning}
use Rattle.mc_order.specs.Order.{list_order}
use Rattle.mc_range.specs.declared.place.Place.{Place}
use Rattle.mc_range.specs.declared.place.Side.{Side}
use Rattle.mc_range.specs.declared.place.Side.TheVariants.{Low, High}

-- the list: a front of the constant's list, a tail, and what is behind it
abbrev pub place_list : List ℕ → Place → List ℕ
place_list weights place = (take place.size weights ++ place.tail.now) ++ place.behind.now

-- whether a list of this order against the best so far takes its place
abbrev pub wins : Side → Ordering → Bool
wins Low order = is_lt order
wins High order = is_gt order

-- the best of a list and others, of equal ones the first
abbrev pub best_on : Meaning → Side → List ℕ → List (List ℕ) → List ℕ
best_on m side list others =
    best_of (λ one best. wins side (list_order m.pad m.space one best)) list others
