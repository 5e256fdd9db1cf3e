-- Keys and bounds: weight lists, kept so that equal keys are one list (MySQL 8.0 manual, 10.8.5).
use Rattle.std.specs.Prelude.{◌≡◌, ◌==◌, ◌||◌, ◌≤◌, ℕ, nat_le, Bool, IsTrue}
use Rattle.std.specs.Prelude.{List, [], ◌∷◌, if◌then◌else◌}
use Rattle.std.specs.List.{All}
use Rattle.mc_order.specs.declared.pad.Pad.{Pad}
use Rattle.mc_order.specs.declared.pad.Pad.TheVariants.{PadSpace, NoPad}
use Rattle.mc_order.specs.Laws.{greatest_weight}

-- a weight in front of a list, where a space in front of nothing falls away
abbrev pub in_front : ℕ → ℕ → List ℕ → List ℕ
in_front space weight [] = if weight == space then [] else weight ∷ []
in_front space weight (next ∷ more) = weight ∷ next ∷ more

-- a list without the spaces at its end
unfoldable pub without_spaces : ℕ → List ℕ → List ℕ
without_spaces space [] = []
without_spaces space (weight ∷ weights) = in_front space weight (without_spaces space weights)

-- what a key keeps of a list: with padding not the spaces at its end, which decide nothing
abbrev pub kept_list : Pad → ℕ → List ℕ → List ℕ
kept_list NoPad space list = list
kept_list PadSpace space list = without_spaces space list

-- The list is kept whole.
abbrev pub IsKept : Pad → ℕ → List ℕ → Type 0
IsKept pad space list = kept_list pad space list ≡ list

-- a key: the weights that it keeps, its padding and its space
pub record SeenKey : Type 0 where
  pub weights : List ℕ
  pub pad : Pad
  pub space : ℕ
  pub is_kept : IsKept pad space weights

-- the number above every weight: the greatest u32
abbrev pub top : ℕ
top = 4294967295

-- whether a number of a bound is the one above every weight, a weight, or 0
abbrev pub is_bound_number : ℕ → Bool
is_bound_number number = (number == top) || nat_le number greatest_weight

-- The numbers are those of a bound.
abbrev pub AreBoundNumbers : List ℕ → Type 0
AreBoundNumbers numbers = All (λ number. IsTrue (is_bound_number number)) numbers

-- a bound: its numbers, its padding and its space, which is no greater than a weight may be
pub record SeenBound : Type 0 where
  pub numbers : List ℕ
  pub pad : Pad
  pub space : ℕ
  pub are_numbers : AreBoundNumbers numbers
  pub space_bounded : space ≤ greatest_weight
