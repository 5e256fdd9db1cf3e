-- The elements of a character that has no entry: UTS #10, 10.1.3.
use Rattle.std.specs.Prelude.{ℕ, ◌+◌, ◌-◌, ◌/◌, ◌%◌, ◌&&◌, Bool, false, not, nat_lt, List, []}
use Rattle.std.specs.Prelude.{◌∷◌, if◌then◌else◌}
use Rattle.std.specs.FinMap as map
use Rattle.std.specs.List.{flat_map}
use Rattle.std.specs.Option.{option_map_or, is_some}
use Rattle.mc_allkeys.specs.Table.{ElementTable, Entries, implicit_of}
use Rattle.mc_allkeys.specs.declared.element.Element.{Element}
use Rattle.mc_rules.specs.Bases.{old_base, new_base}
use Rattle.mc_rules.specs.Jamo.{is_syllable, jamo_of}
use Rattle.mc_rules.specs.declared.family.UcaFamily.{UcaFamily}
use Rattle.mc_rules.specs.declared.family.UcaFamily.TheVariants.{Uca4, Uca520, Uca9}

-- two elements with these primary weights
abbrev pub pair : ℕ → ℕ → List Element
pair first second =
    record { p = first; s = 0x20; t = 2 } ∷ record { p = second; s = 0; t = 0 } ∷ []

-- the elements of a number with a base
abbrev pub implicit : ℕ → ℕ → List Element
implicit base number = pair (base + number / 0x8000) (number % 0x8000 + 0x8000)

-- the elements of a jamo: those of its entry, else implicit ones
abbrev pub jamo_elements : Entries → ℕ → List Element
jamo_elements entries jamo =
    option_map_or (λ elements. elements) (map.get entries (jamo ∷ [])) (implicit 0xFBC0 jamo)

-- the elements of a code point that no range covers, in version 9.0.0
abbrev pub uncovered : Entries → ℕ → List Element
uncovered entries code =
    if is_syllable code then flat_map (jamo_elements entries) (jamo_of (code - 0xAC00))
    else implicit (new_base code) code

-- the elements of a code point in version 9.0.0: by its range, else by its script
abbrev pub outside_new : ElementTable → ℕ → List Element
outside_new table code =
    option_map_or (λ covered. pair covered.0 (covered.1 % 0x8000 + 0x8000))
    (implicit_of table.ranges code) (uncovered table.entries code)

-- the elements of a code point in version 4.0.0: those of U+FFFD above FFFF
abbrev pub outside_old : ℕ → List Element
outside_old code =
    if nat_lt 0xFFFF code then record { p = 0xFFFD; s = 0x20; t = 2 } ∷ []
    else implicit (old_base code) code

-- the elements of a code point without an entry
unfoldable pub outside_of : ElementTable → UcaFamily → ℕ → List Element
outside_of table Uca4 code = outside_old code
outside_of table Uca520 code = implicit (old_base code) code
outside_of table Uca9 code = outside_new table code

-- whether a code point without an entry takes the elements of its jamo: a syllable that no range
-- covers, in version 9.0.0
abbrev pub takes_jamo : ElementTable → UcaFamily → ℕ → Bool
takes_jamo table Uca9 code = not (is_some (implicit_of table.ranges code)) && is_syllable code
takes_jamo table _ code = false
