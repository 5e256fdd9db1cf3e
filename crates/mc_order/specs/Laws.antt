-- What every collation keeps, so that indexes, ranges and patterns rest on these laws alone.
use Rattle.std.specs.Prelude.{◌≡◌, ◌⊎◌, ◌↔◌, ◌≢◌, ℕ, ◌-◌, ◌^◌}
use Rattle.std.specs.Prelude.{◌<◌, ◌≤◌, List, [], ◌∷◌, ◌++◌}
use Rattle.std.specs.Prelude.{length, take, slice_index_or}
use Rattle.std.specs.List.{All, Contains}
use Rattle.std.specs.declared.cmp.Ordering.TheVariants.{Less}
use Rattle.mc_order.specs.declared.pad.Pad.{Pad}
use Rattle.mc_order.specs.declared.pad.Pad.TheVariants.{PadSpace, NoPad}
use Rattle.mc_order.specs.Order.{list_order}
use Rattle.mc_order.specs.Meaning.{Meaning, IsCharOf, AreCharsOf, IsHead, IsTail}

-- U+0020 has one weight where lists are padded, the space's; else the space counts for nothing.
abbrev pub KeepsSpace : Pad → Meaning → Type 0
KeepsSpace PadSpace m = m.level_list 1 (0x20 ∷ []) ≡ m.space ∷ []
KeepsSpace NoPad m = m.space ≡ 0

-- One to three weight levels, more than one only without padding; weights of one to three bytes.
pub record KeepsSettings (m : Meaning) : Type 0 where
  pub some_level : 1 ≤ m.levels
  pub three_levels : m.levels ≤ 3
  pub levels_unpadded : 1 < m.levels → m.pad ≡ NoPad
  pub some_width : 1 ≤ m.weight_width
  pub three_wide : m.weight_width ≤ 3
  pub one_added : m.added ≤ 1
  pub space_weight : KeepsSpace m.pad m

-- The greatest weight: the code point 10FFFF plus 1.
abbrev pub greatest_weight : ℕ
greatest_weight = 1114112

-- A weight is from 1 to the greatest one, and less `added` it fits the weights' bytes.
abbrev pub IsWeight : Meaning → ℕ → Type 0
IsWeight m weight = (1 ≤ weight) × (weight ≤ greatest_weight) × (m.added ≤ weight) ×
    (weight - m.added < 256 ^ m.weight_width)

-- Each list of each weight level has weights alone.
abbrev pub KeepsBounds : Meaning → Type 0
KeepsBounds m =
    (level : ℕ) (codes : List ℕ) → 1 ≤ level → level ≤ m.levels
    → AreCharsOf m.charset codes →
    All (IsWeight m) (m.level_list level codes)

-- No characters have no weights.
abbrev pub KeepsEmpty : Meaning → Type 0
KeepsEmpty m = (level : ℕ) → 1 ≤ level → level ≤ m.levels → m.level_list level [] ≡ []

-- A contraction has two characters or more, all of them of the set.
abbrev pub KeepsContractions : Meaning → Type 0
KeepsContractions m =
    All (λ codes. (2 ≤ length codes) × AreCharsOf m.charset codes) m.contractions

-- The first k characters have a prefix of the text's first list, and behind it nothing or a tail.
pub record IsCut (m : Meaning) (k : ℕ) (codes : List ℕ) : Type 0 where
  -- what both lists begin with
  pub kept : List ℕ
  -- what the first k characters add to it
  pub tail : List ℕ
  -- what the text goes on with
  pub rest : List ℕ
  pub front : m.level_list 1 (take k codes) ≡ kept ++ tail
  pub whole : m.level_list 1 codes ≡ kept ++ rest
  pub none_or_tail : (tail ≡ []) ⊎ Contains m.tails tail
  pub enough : (m.floor k ≤ length kept) ⊎ (rest ≡ [])

-- Cut law: k characters keep `floor k` first weights or more, or all, and add a tail at most.
abbrev pub KeepsCut : Meaning → Type 0
KeepsCut m = (k : ℕ) (codes : List ℕ) → AreCharsOf m.charset codes → IsCut m k codes

-- Head law: what begins no contraction has its own weights before those of what follows.
abbrev pub KeepsHead : Meaning → Type 0
KeepsHead m =
    (level code : ℕ) (codes : List ℕ) → 1 ≤ level → level ≤ m.levels →
    AreCharsOf m.charset (code ∷ codes) → (IsHead m code → ⊥) →
    m.level_list level (code ∷ codes) ≡ m.level_list level (code ∷ [])
    ++ m.level_list level codes

-- There are no contractions, and each character of the set has a first weight.
abbrev pub HasWeightPerChar : Meaning → Type 0
HasWeightPerChar m = (m.contractions ≡ []) × ((code : ℕ) → IsCharOf m.charset code →
    m.level_list 1 (code ∷ []) ≢ [])

-- The floor of k is k where each character has a weight of its own, else 0.
abbrev pub KeepsFloor : Meaning → Type 0
KeepsFloor m =
    (k : ℕ) → (HasWeightPerChar m → m.floor k ≡ k) × ((HasWeightPerChar m → ⊥) →
    m.floor k ≡ 0)

-- Lists in lexicographic order, each once.
abbrev pub IsAscending : List (List ℕ) → Type 0
IsAscending lists =
    (i j : ℕ) → i < j → j < length lists →
    list_order NoPad 0 (slice_index_or lists i []) (slice_index_or lists j []) ≡ Less

-- The tails are the first lists of the contractions' proper prefixes, ascending.
pub record KeepsTails (m : Meaning) : Type 0 where
  pub each : (weights : List ℕ) → Contains m.tails weights ↔ IsTail m weights
  pub ordered : IsAscending m.tails

-- All the laws together.
pub record IsLawful (m : Meaning) : Type 0 where
  pub settings : KeepsSettings m
  pub bounds : KeepsBounds m
  pub empty : KeepsEmpty m
  pub cut : KeepsCut m
  pub head : KeepsHead m
  pub floor_of : KeepsFloor m
  pub contractions_of : KeepsContractions m
  pub tails_of : KeepsTails m
