-- A line of a range of implicit weights: UTS #10, 9.2, `@implicitweights 17000..18AFF; FB00`.
use Rattle.std.specs.Prelude.{ℕ, ◌==◌, ◌-◌, List, [], ◌∷◌, length, take, codes, slice_index, Option}
use Rattle.std.specs.Prelude.{Some, None, option_map, if◌then◌else◌}
use Rattle.std.specs.Option.{option_and_then}
use Rattle.std.specs.Str.{bytes_eq}
use Rattle.mc_base.specs.Fields.{fields_of}
use Rattle.mc_allkeys.specs.Cuts.{cut_at}
use Rattle.mc_allkeys.specs.Listed.{code_of, small_of}
use Rattle.mc_allkeys.specs.declared.range.Range.{Range}

-- the word that begins such a line
abbrev pub range_word : List ℕ
range_word = codes "@implicitweights"

-- what stands before a `;` at the end
abbrev pub before_semicolon : List ℕ → Option (List ℕ)
before_semicolon text =
    if slice_index text (length text - 1) == 59 then Some (take (length text - 1) text) else None

-- what stands behind a dot
abbrev pub behind_dot : List ℕ → Option (List ℕ)
behind_dot [] = None
behind_dot (byte ∷ bytes) = if byte == 46 then Some bytes else None

-- the code points from one to another one, which ends in `;`
abbrev pub ends_of : List ℕ → List ℕ → Option (ℕ × ℕ)
ends_of first last =
    option_and_then
    (λ from. option_map (λ to. (from, to)) (option_and_then code_of (before_semicolon last)))
    (code_of first)

-- the ends of a field `C..D;`
abbrev pub span_of : List ℕ → Option (ℕ × ℕ)
span_of field =
    option_and_then (λ cut. option_and_then (ends_of cut.0) (behind_dot cut.1)) (cut_at 46 field)

-- a range by its ends and its base
abbrev pub range_by : Option (ℕ × ℕ) → Option ℕ → Option Range
range_by span base =
    option_and_then
    (λ ends. option_map (λ b. record { first = ends.0; last = ends.1; base = b }) base) span

-- a range by the fields of its line
abbrev pub range_of_fields : List (List ℕ) → Option Range
range_of_fields (word ∷ span ∷ base ∷ []) =
    if bytes_eq word range_word then range_by (span_of span) (small_of base) else None
range_of_fields _ = None

-- the range that a line says
abbrev pub range_line : List ℕ → Option Range
range_line body = range_of_fields (fields_of body)
