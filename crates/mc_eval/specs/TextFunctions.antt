-- String functions over the texts and numbers of a call, characters in and characters out: MySQL
-- 8.0 manual, 12.8.
use Rattle.std.specs.Prelude.{not, List, [], ◌∷◌, map, filter, Some, None, option_and_then, reverse}
use Rattle.std.specs.List.{repeat}
use Rattle.mc_charset.specs.declared.charset.Charset.{Charset}
use Rattle.mc_key.specs.WeightString.{space_code}
use Rattle.mc_strfun.specs.Joins.{joined, joined_with, spelled_within}
use Rattle.mc_strfun.specs.Numbers.{natural}
use Rattle.mc_strfun.specs.Pads.{left_padded, right_padded}
use Rattle.mc_strfun.specs.Replaced.{replaced}
use Rattle.mc_strfun.specs.Slices.{left_of, right_of, substring_of}
use Rattle.mc_strfun.specs.Trimmed.{trimmed}
use Rattle.mc_strfun.specs.declared.trimming.Side.{Side}
use Rattle.mc_values.specs.declared.value.Value.{Value}
use Rattle.mc_values.specs.declared.value.Value.TheVariants as value
use Rattle.mc_eval.specs.Texts.{chars_in, is_null, number_in, spelled, text_or_null}

-- SUBSTRING, with a length or without one.
abbrev pub substring_value : Charset → List Value → Value
substring_value set (x ∷ first ∷ []) =
    spelled set (substring_of (number_in first) None (chars_in set x))
substring_value set (x ∷ first ∷ count ∷ []) =
    spelled set (substring_of (number_in first) (Some (number_in count)) (chars_in set x))
substring_value set values = value.Null

-- LEFT, RIGHT and REPEAT.
abbrev pub left_value : Charset → List Value → Value
left_value set (x ∷ n ∷ []) = spelled set (left_of (number_in n) (chars_in set x))
left_value set values = value.Null

abbrev pub right_value : Charset → List Value → Value
right_value set (x ∷ n ∷ []) = spelled set (right_of (number_in n) (chars_in set x))
right_value set values = value.Null

abbrev pub repeat_value : Charset → List Value → Value
repeat_value set (x ∷ n ∷ []) =
    spelled set (repeat (natural (number_in n)) (chars_in set x))
repeat_value set values = value.Null

-- TRIM: of spaces, or of the text that stands first.
abbrev pub trim_value : Side → Charset → List Value → Value
trim_value side set (x ∷ []) = spelled set (trimmed side (space_code ∷ []) (chars_in set x))
trim_value side set (removed ∷ x ∷ []) =
    spelled set (trimmed side (chars_in set removed) (chars_in set x))
trim_value side set values = value.Null

-- LPAD and RPAD.
abbrev pub lpad_value : Charset → List Value → Value
lpad_value set (x ∷ n ∷ pad ∷ []) = text_or_null set (option_and_then (spelled_within set)
    (left_padded (number_in n) (chars_in set pad) (chars_in set x)))
lpad_value set values = value.Null

abbrev pub rpad_value : Charset → List Value → Value
rpad_value set (x ∷ n ∷ pad ∷ []) = text_or_null set (option_and_then (spelled_within set)
    (right_padded (number_in n) (chars_in set pad) (chars_in set x)))
rpad_value set values = value.Null

-- REVERSE and REPLACE.
abbrev pub reverse_value : Charset → List Value → Value
reverse_value set (x ∷ []) = spelled set (reverse (chars_in set x))
reverse_value set values = value.Null

abbrev pub replace_value : Charset → List Value → Value
replace_value set (x ∷ from ∷ to ∷ []) =
    spelled set (replaced (chars_in set from) (chars_in set to) (chars_in set x))
replace_value set values = value.Null

-- CONCAT, and CONCAT_WS, which leaves out what is NULL behind the separator.
abbrev pub concat_value : Charset → List Value → Value
concat_value set values = spelled set (joined (map (chars_in set) values))

abbrev pub given : List Value → List Value
given values = filter (λ it. not (is_null it)) values

abbrev pub concat_ws_value : Charset → List Value → Value
concat_ws_value set [] = value.Null
concat_ws_value set (separator ∷ values) = spelled set
    (joined_with (chars_in set separator) (map (chars_in set) (given values)))
