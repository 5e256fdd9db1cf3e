-- Characters and their spellings in a set; the characters of a text.
use Rattle.std.specs.Prelude.{◌≡◌, ℕ, ◌-◌, Bool, false, List, [], ◌∷◌, ◌++◌}
use Rattle.std.specs.Prelude.{Option, Some, None}
use Rattle.std.specs.Prelude.{zero, suc, option_and_then}
use Rattle.std.specs.Option.{option_map_or}
use Rattle.std.specs.Str.{bytes_eq}
use Rattle.mc_charset.specs.declared.charset.Charset.{Charset}
use Rattle.mc_charset.specs.Rows.{spelling_in, first_in}
use Rattle.mc_charset.specs.Tables.{rows}

-- the one spelling of a code point in a set, where the set has it
unfoldable pub spell : Charset → ℕ → Option (List ℕ)
spell set code = spelling_in (rows set) code

-- the spellings of these code points, joined, where the set has them all
unfoldable pub spell_all : Charset → List ℕ → Option (List ℕ)
spell_all set [] = Some []
spell_all set (code ∷ codes) =
    option_and_then (λ front. option_and_then (λ rest. Some (front ++ rest))
    (spell_all set codes))
    (spell set code)

-- The text is spelled by these characters and no others.
abbrev pub Spells : Charset → List ℕ → List ℕ → Type 0
Spells set codes text = spell_all set codes ≡ Some text

-- Some characters spell the text.
abbrev pub IsWellFormed : Charset → List ℕ → Type 0
IsWellFormed set text = (codes : List ℕ) × Spells set codes text

-- the characters of what is behind the first `skipped` bytes
unfoldable pub chars_behind : Charset → ℕ → List ℕ → List ℕ
chars_behind set skipped [] = []
chars_behind set (suc skipped) (b ∷ bytes) = chars_behind set skipped bytes
chars_behind set zero (b ∷ bytes) = elim (first_in (rows set) (b ∷ bytes)) [
  | None ↦ []
  | Some found ↦ found.0 ∷ chars_behind set (found.1 - 1) bytes
]

-- the characters of a text: those that spell it where it is well formed (the law of `chars` says
-- so), else those before the first place where no spelling begins
unfoldable pub chars : Charset → List ℕ → List ℕ
chars set text = chars_behind set 0 text

-- The characters of the text spell it.
unfoldable pub is_spelled : Charset → List ℕ → Bool
is_spelled set text = option_map_or (bytes_eq text) (spell_all set (chars set text)) false

-- the end of Unicode's code points, the numbers below it: Unicode Standard, 2.4
abbrev pub code_points : ℕ
code_points = 0x110000
