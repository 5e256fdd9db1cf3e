-- The faults of a device: a count that never falls and stands still at the greatest u64.
use Rattle.std.specs.Prelude.{◌≡◌, ◌<◌, ◌-◌, ◌^◌, ◌⊎◌, ℕ}

-- The count rose in a call: it is greater after it, or stands at its greatest number.
abbrev pub Rose : ℕ → ℕ → Type 0
Rose before after = (before < after) ⊎ (after ≡ 2 ^ 64 - 1)
