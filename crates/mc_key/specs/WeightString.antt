-- WEIGHT_STRING: MySQL 8.0 manual, 14.8, String Functions and Operators.
use Rattle.std.specs.Prelude.{ℕ, ◌-◌, List, [], ◌∷◌, ◌++◌, Option, length, take}
use Rattle.std.specs.Int.{bytes_high_first}
use Rattle.std.specs.List.{flat_map, repeat}
use Rattle.mc_charset.specs.Chars.{chars}
use Rattle.mc_order.specs.Meaning.{Meaning, flat_list}
use Rattle.mc_values.specs.Values.{within_limit}
use Rattle.mc_key.specs.declared.weight_form.WeightForm.{WeightForm}
use Rattle.mc_key.specs.declared.weight_form.WeightForm.TheVariants.{Plain, Chars, Bytes}

-- the first n members, and behind them as many fillers as are missing
abbrev pub fitted : ℕ → ℕ → List ℕ → List ℕ
fitted n filler list = take n list ++ repeat (n - length list) (filler ∷ [])

-- a weight less `added`, in so many bytes, the greatest first; a separator is zero bytes
abbrev pub weight_bytes : (width added weight : ℕ) → List ℕ
weight_bytes width added weight = bytes_high_first width (weight - added)

-- the bytes of weights, one behind the other
unfoldable pub list_bytes : (width added : ℕ) → List ℕ → List ℕ
list_bytes width added weights = flat_map (weight_bytes width added) weights

-- the bytes of the flat list of characters
abbrev pub flat_bytes : Meaning → List ℕ → List ℕ
flat_bytes m codes = list_bytes m.weight_width m.added (flat_list m codes)

-- the code point of the space
abbrev pub space_code : ℕ
space_code = 0x20

-- the bytes of each form
abbrev pub form_bytes : Meaning → WeightForm → List ℕ → List ℕ
form_bytes m Plain text = flat_bytes m (chars m.charset text)
form_bytes m (Chars n) text = flat_bytes m (fitted n space_code (chars m.charset text))
form_bytes m (Bytes n) text = fitted n 0 text

-- the weight string of a text; NULL where it would be too long
abbrev pub weight_string : Meaning → WeightForm → List ℕ → Option (List ℕ)
weight_string m form text = within_limit (form_bytes m form text)
