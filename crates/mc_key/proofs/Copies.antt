-- Copies of bytes, and of a space behind a text.
use Rattle.std.proofs.Common.{◌≡◌, ℕ, zero, suc, ◌+◌, List, [], ◌∷◌, ◌++◌, Some, append_assoc, append-nil, refl, sym, ap, ◌∙◌, arith}
use Rattle.std.specs.List.{repeat}
use Rattle.mc_charset.specs.declared.charset.Charset.{Charset}
use Rattle.mc_charset.specs.declared.charset.Charset.TheVariants.{Latin1, Ascii, Utf8mb3, Utf8mb4}
use Rattle.mc_charset.specs.declared.charset.Charset.TheVariants.{Ucs2, Utf16, Utf32, Binary}
use Rattle.mc_charset.specs.Chars.{Spells, spell, spell_all}
use Rattle.mc_key.specs.WeightString.{space_code}

repeat_last : (n : ℕ) (xs : List ℕ) → repeat n xs ++ xs ≡ repeat (suc n) xs
repeat_last zero xs = sym (append-nil xs)
repeat_last (suc n) xs =
    append_assoc xs (repeat n xs) xs ∙ ap (λ ys. xs ++ ys) (repeat_last n xs)

-- One copy more at the end.
pub repeat_more : (n : ℕ) (xs : List ℕ) → repeat n xs ++ xs ≡ repeat (n + 1) xs
repeat_more n xs =
    let e : suc n ≡ n + 1 = omega arith in repeat_last n xs ∙ ap (λ k. repeat k xs) e

-- Copies of a character are spelled by copies of its spelling.
pub repeated_spelling : (set : Charset) (code n : ℕ) (text : List ℕ) → spell set code ≡ Some text →
    Spells set (repeat n (code ∷ [])) (repeat n text)
unfolding spell_all
repeated_spelling set code zero text e = refl
repeated_spelling set code (suc n) text e = rw (e, repeated_spelling set code n text e) refl

-- the bytes of a space in a set
abbrev pub space_bytes : Charset → List ℕ
space_bytes Latin1 = 0x20 ∷ []
space_bytes Ascii = 0x20 ∷ []
space_bytes Utf8mb3 = 0x20 ∷ []
space_bytes Utf8mb4 = 0x20 ∷ []
space_bytes Ucs2 = 0 ∷ 0x20 ∷ []
space_bytes Utf16 = 0 ∷ 0x20 ∷ []
space_bytes Utf32 = 0 ∷ 0 ∷ 0 ∷ 0x20 ∷ []
space_bytes Binary = 0x20 ∷ []

pub space_spelled : (set : Charset) → spell set space_code ≡ Some (space_bytes set)
unfolding spell
space_spelled Latin1 = refl
space_spelled Ascii = refl
space_spelled Utf8mb3 = refl
space_spelled Utf8mb4 = refl
space_spelled Ucs2 = refl
space_spelled Utf16 = refl
space_spelled Utf32 = refl
space_spelled Binary = refl
