-- The jamo of a Hangul syllable: Unicode Standard, 3.12, "Hangul Syllable Decomposition".
use Rattle.std.specs.Prelude.{ℕ, ◌+◌, ◌/◌, ◌%◌, ◌==◌, Bool, List, [], ◌∷◌, if◌then◌else◌}
use Rattle.mc_rules.specs.Bases.{is_from}

-- whether a code point is a Hangul syllable
abbrev pub is_syllable : ℕ → Bool
is_syllable code = is_from 0xAC00 0xD7A3 code

-- the trailing jamo of a syllable's number, if it has one
abbrev pub trailing_of : ℕ → List ℕ
trailing_of number = if number % 28 == 0 then [] else (0x11A7 + number % 28) ∷ []

-- the jamo of a syllable's number
abbrev pub jamo_of : ℕ → List ℕ
jamo_of number = (0x1100 + number / 588) ∷ (0x1161 + number % 588 / 28) ∷ trailing_of number
