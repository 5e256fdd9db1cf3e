-- What follows from the laws of a collation, for the ranges and patterns that rest on them.
use Rattle.std.specs.Prelude.{◌≡◌, ◌≢◌, ◌==◌, ◌⊎◌, ◌↔◌, ℕ, ◌≤◌}
use Rattle.std.specs.Prelude.{List, [], ◌∷◌, ◌++◌, take, drop}
use Rattle.std.specs.Prelude.{if◌then◌else◌}
use Rattle.std.specs.List.{All, AllZip, Contains}
use Rattle.mc_charset.specs.declared.charset.Charset.{Charset}
use Rattle.mc_charset.specs.Chars.{chars, IsWellFormed}
use Rattle.mc_order.specs.declared.pad.Pad.TheVariants.{PadSpace}
use Rattle.mc_order.specs.Laws.{greatest_weight, IsWeight, HasWeightPerChar}
use Rattle.mc_order.specs.Meaning.{Meaning, separator, joined_levels, flat_list, IsCharOf}
use Rattle.mc_order.specs.Meaning.{AreCharsOf, IsHead, IsSafe}
use Rattle.mc_order.specs.Tails.{tails_of}

-- What stands before the first separator.
abbrev pub before_separator : List ℕ → List ℕ
before_separator [] = []
before_separator (number ∷ numbers) =
    if number == separator then [] else number ∷ before_separator numbers

-- The first list of a text is its flat list up to the first separator.
abbrev pub FirstListBegins : Meaning → Type 0
FirstListBegins m =
    (codes : List ℕ) → AreCharsOf m.charset codes →
    before_separator (flat_list m codes) ≡ m.level_list 1 codes

-- No number of a flat list is above the greatest weight.
abbrev pub FlatListsAreBounded : Meaning → Type 0
FlatListsAreBounded m =
    (codes : List ℕ) → AreCharsOf m.charset codes →
    All (λ number. number ≤ greatest_weight) (flat_list m codes)

-- Where lists are padded the space is a weight.
abbrev pub SpaceIsWeight : Meaning → Type 0
SpaceIsWeight m = m.pad ≡ PadSpace → (1 ≤ m.space) × (m.space ≤ greatest_weight)

-- The two characters have one flat list.
abbrev pub IsSameChar : Meaning → ℕ → ℕ → Type 0
IsSameChar m literal code = flat_list m (literal ∷ []) ≡ flat_list m (code ∷ [])

-- Characters like these safe ones have their first list before that of what follows.
abbrev pub SafeFrontStands : Meaning → Type 0
SafeFrontStands m =
    (literals codes rest : List ℕ) → AreCharsOf m.charset literals →
    AreCharsOf m.charset (codes ++ rest) →
    All (IsSafe m) literals → AllZip (IsSameChar m) literals codes →
    m.level_list 1 (codes ++ rest) ≡ m.level_list 1 literals ++ m.level_list 1 rest

-- The tails are those of the contractions, by computation.
abbrev pub TailsAreComputed : Meaning → Type 0
TailsAreComputed m = m.tails ≡ tails_of (m.level_list 1) m.contractions

-- A tail has weights, and weights alone.
abbrev pub TailsAreWeights : Meaning → Type 0
TailsAreWeights m =
    (tail : List ℕ) → Contains m.tails tail → (tail ≢ []) × All (IsWeight m) tail

-- Each character has a weight of its own and the floor of k is k, or not and the floor is 0.
abbrev pub FloorIsAllOrNone : Meaning → Type 0
FloorIsAllOrNone m =
    (HasWeightPerChar m × ((k : ℕ) → m.floor k ≡ k))
    ⊎ ((HasWeightPerChar m → ⊥) × ((k : ℕ) → m.floor k ≡ 0))

-- Beside a tail the floor is 0.
abbrev pub NoFloorBesideTails : Meaning → Type 0
NoFloorBesideTails m = m.tails ≢ [] → (k : ℕ) → m.floor k ≡ 0

-- What begins a contraction is a character of the set.
abbrev pub HeadsAreChars : Meaning → Type 0
HeadsAreChars m = (code : ℕ) → IsHead m code → IsCharOf m.charset code

-- The flat list of no characters has separators alone.
abbrev pub EmptyHasNoWeights : Meaning → Type 0
EmptyHasNoWeights m = flat_list m [] ≡ joined_levels m.levels (λ level. [])

-- Characters of a set, cut at a place.
abbrev pub CharsAreCut : Charset → Type 0
CharsAreCut set =
    (k : ℕ) (codes : List ℕ) → AreCharsOf set codes →
    AreCharsOf set (take k codes) × AreCharsOf set (drop k codes)

-- Two lists joined are characters of a set exactly where both are.
abbrev pub CharsAreJoined : Charset → Type 0
CharsAreJoined set =
    (codes more : List ℕ) →
    AreCharsOf set (codes ++ more) ↔ (AreCharsOf set codes × AreCharsOf set more)

-- The characters of a well formed text are some of the set.
abbrev pub TextsAreChars : Charset → Type 0
TextsAreChars set = (text : List ℕ) → IsWellFormed set text → AreCharsOf set (chars set text)
