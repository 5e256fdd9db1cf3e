-- The bases of implicit weights: UTS #10, 10.1.3, with the project's own lists of ideographs.
use Rattle.std.specs.Prelude.{ℕ, ◌==◌, ◌&&◌, ◌||◌, Bool, nat_le, List, [], ◌∷◌, if◌then◌else◌}
use Rattle.std.specs.List.{list_any}

-- whether a code point is in a run
abbrev pub is_from : ℕ → ℕ → ℕ → Bool
is_from first last code = nat_le first code && nat_le code last

-- the base of a code point in the versions 4.0.0 and 5.2.0
abbrev pub old_base : ℕ → ℕ
old_base code =
    if is_from 0x3400 0x4DB5 code then 0xFB80
    else if is_from 0x4E00 0x9FA5 code then 0xFB40
    else 0xFBC0

-- the unified ideographs among the compatibility ideographs
abbrev pub lone_ideographs : List ℕ
lone_ideographs =
    0xFA0E ∷ 0xFA0F ∷ 0xFA11 ∷ 0xFA13 ∷ 0xFA14 ∷ 0xFA1F ∷ 0xFA21 ∷ 0xFA23 ∷ 0xFA24 ∷ 0xFA27 ∷ 0xFA28
    ∷ 0xFA29 ∷ []

-- whether a code point is an ideograph of the first blocks
abbrev pub is_ideograph : ℕ → Bool
is_ideograph code = is_from 0x4E00 0x9FD5 code || list_any (λ one. one == code) lone_ideographs

-- whether a code point is an ideograph of an extension
abbrev pub is_extension : ℕ → Bool
is_extension code =
    is_from 0x3400 0x4DB5 code || is_from 0x20000 0x2A6D6 code || is_from 0x2A700 0x2B734 code
    || is_from 0x2B740 0x2B81D code || is_from 0x2B820 0x2CEA1 code

-- the base of a code point in version 9.0.0
abbrev pub new_base : ℕ → ℕ
new_base code =
    if is_ideograph code then 0xFB40 else if is_extension code then 0xFB80 else 0xFBC0
