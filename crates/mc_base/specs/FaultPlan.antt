-- The plan of faults of a device in memory: which calls fail, counted from 0.
use Rattle.std.specs.Prelude.{ℕ, ◌+◌, ◌-◌, ◌^◌, min, List, Bool, ◌==◌, if◌then◌else◌}
use Rattle.std.specs.List.{list_any}

-- the numbers of the failing calls, how many calls were made, and how many of them failed
pub record Plan : Type 0 where
  pub fail : List ℕ
  pub calls : ℕ
  pub faults : ℕ

-- one more, up to the greatest u64
abbrev pub next_count : ℕ → ℕ
next_count n = min (n + 1) (2 ^ 64 - 1)

-- whether the next call fails: its number is among those that do
abbrev pub fails_now : Plan → Bool
fails_now plan = list_any (λ n. n == plan.calls) plan.fail

-- the plan after the next call: the call is counted, and its fault where it fails
abbrev pub counted : Plan → Plan
counted plan = record {
  fail = plan.fail;
  calls = next_count plan.calls;
  faults = if fails_now plan then next_count plan.faults else plan.faults;
}
