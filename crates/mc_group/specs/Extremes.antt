-- MIN and MAX: MySQL 8.0 manual, 12.20.1. NULL counts for nothing.
use Rattle.std.specs.Prelude.{◌≡◌, ℕ, Bool, List, Option, MatchOption}
use Rattle.std.specs.Prelude.{length, slice_index_or}
use Rattle.std.specs.List.{All, IsFirstBest}
use Rattle.std.specs.Ordering.{is_lt, nat_cmp, on, then_cmp}
use Rattle.std.specs.declared.cmp.Ordering.{Ordering}
use Rattle.mc_values.specs.declared.value.Value.{Value}
use Rattle.mc_values.specs.declared.value.Value.TheVariants as value

-- NULL stands behind all other values.
abbrev pub absence : Value → ℕ
absence value.Null = 1
absence it = 0

-- One value stands before another, NULL behind all.
abbrev pub stands_before : (Value → Value → Ordering) → Value → Value → Bool
stands_before order one other = is_lt (then_cmp (on absence nat_cmp) order one other)

-- The place of the first value that no other one stands before; none where all are NULL.
abbrev pub IsFirstPlace : (Value → Value → Ordering) → List Value → Option ℕ → Type 0
IsFirstPlace order values place =
    MatchOption place (All (λ it. it ≡ value.Null) values)
    (λ i. (absence (slice_index_or values i value.Null) ≡ 0)
    × IsFirstBest (stands_before order) values (length values) i)
