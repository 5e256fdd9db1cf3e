-- The range that decides on each code point, as steps in the order of the code points: UTS #10,
-- 9.2.
use Rattle.std.specs.Prelude.{◌≡◌, ℕ, ◌+◌, ◌≤◌, ◌<◌, ◌^◌, Bool, true, false, ⊤, nat_le, List, []}
use Rattle.std.specs.Prelude.{◌∷◌, length, Option, None, if◌then◌else◌}
use Rattle.std.specs.List.{find}
use Rattle.std.specs.List.Sorted.{IsNonDecreasingBy}
use Rattle.std.specs.Option.{option_or}
use Rattle.mc_allkeys.specs.Table.{covers}
use Rattle.mc_allkeys.specs.declared.range.Range.{Range}
use Rattle.mc_allkeys.specs.declared.steps.Layers.{Layers}
use Rattle.mc_allkeys.specs.declared.steps.Step.{Step}

-- the range at a code point: that of the last of the first steps that start at it or below it, else
-- another one
abbrev pub range_at : List Step → ℕ → Option Range → Option Range
range_at [] code before = before
range_at (step ∷ steps) code before =
    if nat_le step.start code then range_at steps code step.range else before

-- The steps start at a code point or above it, each at or above the one before it.
abbrev pub AreFrom : ℕ → List Step → Type 0
AreFrom start [] = ⊤
AreFrom start (step ∷ steps) = (start ≤ step.start) × AreFrom step.start steps

-- Steps in order: at each number of four bytes they have the first of these ranges that covers it.
pub record AreStepsOf (ranges : List Range) (steps : List Step) : Type 0 where
  pub in_order : IsNonDecreasingBy (λ (step : Step). step.start) steps
  pub first : (code : ℕ) → code < 2 ^ 32 → range_at steps code None ≡ find (covers code) ranges

-- whether the first of some steps comes before others, or with them
abbrev pub is_before : List Step → List Step → Bool
is_before front [] = true
is_before [] (other ∷ others) = false
is_before (step ∷ steps) (other ∷ others) = nat_le step.start other.start

-- The steps have the ranges of the first steps, and where these have none, those of the second
-- ones; so behind a range of the first ones and a range of the second ones.
pub record IsOverlay (front behind : List Step) (first second : Option Range) (steps : List Step) :
    Type 0 where
  pub in_order : (start : ℕ) → AreFrom start front → AreFrom start behind → AreFrom start steps
  pub ranges : (code : ℕ) → range_at steps code (option_or first second)
      ≡ option_or (range_at front code first) (range_at behind code second)

-- These steps are still to come.
abbrev pub IsLeft : Layers → List Step → Type 0
IsLeft left steps = IsOverlay left.front.now left.behind.now left.first left.second steps

-- how many steps are still to come
abbrev pub steps_left : Layers → ℕ
steps_left left = length left.front.now + length left.behind.now
