-- What a collation means, by its weight lists (UTS #10; MySQL 8.0 manual, 10.10).
use Rattle.std.specs.Prelude.{◌≡◌, ℕ, zero, suc, List, [], ◌∷◌, ◌++◌, ◌≢◌}
use Rattle.std.specs.Prelude.{Option, Some, None, take}
use Rattle.std.specs.List.{Contains}
use Rattle.mc_charset.specs.declared.charset.Charset.{Charset}
use Rattle.mc_charset.specs.Chars.{spell, Spells}
use Rattle.mc_order.specs.declared.pad.Pad.{Pad}

-- What a collation means. Characters are code points of its set.
pub record Meaning : Type 0 where
  pub charset : Charset
  pub pad : Pad
  -- the weight of U+0020 where lists are padded, else 0
  pub space : ℕ
  -- how many weight levels it compares
  pub levels : ℕ
  -- how many bytes hold a weight less `added`
  pub weight_width : ℕ
  -- by how much a weight is greater than the number in the collation's table
  pub added : ℕ
  -- the weights of a weight level, from 1 on, that characters have
  pub level_list : ℕ → List ℕ → List ℕ
  -- the characters, two or more, that have weights of their own together
  pub contractions : List (List ℕ)
  -- the first lists of the proper prefixes of contractions
  pub tails : List (List ℕ)
  -- how many weights the first k characters keep at least
  pub floor : ℕ → ℕ

-- What stands between the lists of two weight levels: no weight.
abbrev pub separator : ℕ
separator = 0

-- The lists of the weight levels, one behind the other, a separator between two.
abbrev pub joined_levels : ℕ → (ℕ → List ℕ) → List ℕ
joined_levels zero list = list 1
joined_levels (suc zero) list = list 1
joined_levels (suc (suc zero)) list = list 1 ++ separator ∷ list 2
joined_levels (suc (suc (suc more))) list = list 1 ++ separator ∷ list 2 ++ separator ∷ list 3

-- The flat list of characters: what is compared.
abbrev pub flat_list : Meaning → List ℕ → List ℕ
flat_list m codes = joined_levels m.levels (λ level. m.level_list level codes)

-- The set has this character.
abbrev pub IsCharOf : Charset → ℕ → Type 0
IsCharOf set code = (text : List ℕ) × (spell set code ≡ Some text)

-- The set has all of these characters: some text is spelled by them.
abbrev pub AreCharsOf : Charset → List ℕ → Type 0
AreCharsOf set codes = (text : List ℕ) × Spells set codes text

-- The characters up to a number of them, or all where none is given.
abbrev pub first_chars : Option ℕ → List ℕ → List ℕ
first_chars None codes = codes
first_chars (Some k) codes = take k codes

-- A contraction begins with this character.
abbrev pub IsHead : Meaning → ℕ → Type 0
IsHead m code = (rest : List ℕ) × Contains m.contractions (code ∷ rest)

-- No character that begins a contraction has the weights of this one.
abbrev pub IsSafe : Meaning → ℕ → Type 0
IsSafe m code =
    (head : ℕ) → IsHead m head → flat_list m (code ∷ []) ≢ flat_list m (head ∷ [])

-- The weights are the first list of a proper prefix of a contraction, and there are some.
pub record IsTail (m : Meaning) (weights : List ℕ) : Type 0 where
  pub front : List ℕ
  pub rest : List ℕ
  pub some_weights : weights ≢ []
  pub some_front : front ≢ []
  pub some_rest : rest ≢ []
  pub joined : Contains m.contractions (front ++ rest)
  pub first_list : m.level_list 1 front ≡ weights
