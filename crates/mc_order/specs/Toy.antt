-- A small kind of collation for the tests, of two weight levels over bytes, in Hungarian's manner.
use Rattle.std.specs.Prelude.{ℕ, zero, suc, ◌+◌, ◌-◌, ◌==◌, ◌&&◌, Bool, false}
use Rattle.std.specs.Prelude.{nat_le, List, []}
use Rattle.std.specs.Prelude.{◌∷◌, ◌++◌, if◌then◌else◌}
use Rattle.mc_charset.specs.declared.charset.Charset.TheVariants.{Binary}
use Rattle.mc_order.specs.declared.pad.Pad.TheVariants.{NoPad}
use Rattle.mc_order.specs.Meaning.{Meaning}

-- A small letter counts as its capital.
abbrev pub folded : ℕ → ℕ
folded code = if nat_le 0x61 code && nat_le code 0x7A then code - 0x20 else code

-- The weights of a capital: - has none, & those of ET, á (E1) the first of a and its own second.
abbrev pub capital_weights : ℕ → ℕ → List ℕ
capital_weights level code =
    if code == 0x2D then [] else
    if code == 0x26 then (if level == 1 then 0x46 ∷ 0x55 ∷ [] else 1 ∷ 1 ∷ []) else
    if code == 0xE1 then (if level == 1 then 0x42 ∷ [] else 2 ∷ []) else
    (if level == 1 then code + 1 else 1) ∷ []

-- The contraction dzs begins the characters.
abbrev pub begins_dzs : List ℕ → Bool
begins_dzs (a ∷ b ∷ c ∷ codes) = (a == 0x64) && (b == 0x7A) && (c == 0x73)
begins_dzs _ = false

-- The weights of dzs together.
abbrev pub dzs_weights : ℕ → List ℕ
dzs_weights level = (if level == 1 then 0x100 else 1) ∷ []

-- The weights of a level, behind `skipped` characters.
unfoldable pub toy_list : ℕ → ℕ → List ℕ → List ℕ
toy_list skipped level [] = []
toy_list (suc skipped) level (code ∷ codes) = toy_list skipped level codes
toy_list zero level (code ∷ codes) =
    if begins_dzs (code ∷ codes) then dzs_weights level ++ toy_list 2 level codes
    else capital_weights level (folded code) ++ toy_list 0 level codes

-- dzs is the contraction, d and dz its proper prefixes.
abbrev pub toy_meaning : Meaning
toy_meaning = record {
  charset = Binary;
  pad = NoPad;
  space = 0;
  levels = 2;
  weight_width = 3;
  added = 0;
  level_list = toy_list 0;
  contractions = (0x64 ∷ 0x7A ∷ 0x73 ∷ []) ∷ [];
  tails = (0x45 ∷ []) ∷ (0x45 ∷ 0x5B ∷ []) ∷ [];
  floor = λ k. 0;
}
