-- The definitions at worked examples, computed.
use Rattle.std.proofs.Common.{◌≡◌, [], ◌∷◌, Some, None, codes, refl}
use Rattle.std.specs.Prelude.{pos, negsuc}
use Rattle.std.specs.Fmt.{digits, signed_decimal}
use Rattle.mc_charset.specs.Chars.{chars, chars_behind, is_spelled, spell, spell_all, Spells}
use Rattle.mc_charset.specs.declared.charset.Charset.TheVariants.{Latin1, Utf8mb4, Utf16, Utf32, Binary}
use Rattle.mc_convert.specs.Conversion.{converted_text, taken_for}
use Rattle.mc_values.specs.Conversion.{conversion}
use Rattle.mc_values.specs.Hexadecimal.{hex_digits, number_digits}
use Rattle.mc_values.specs.Shown.{shown}
use Rattle.mc_values.specs.Shown.Shown.{text}
use Rattle.mc_values.specs.declared.value.Value.TheVariants.{Str}

-- -7 in utf16 and in latin1, 0 in utf32.
minus_seven : Spells Utf16 (signed_decimal (negsuc 6)) (0x00 ∷ 0x2D ∷ 0x00 ∷ 0x37 ∷ [])
unfolding digits spell spell_all
minus_seven = refl

one_byte_each : Spells Latin1 (signed_decimal (negsuc 6)) (codes "-7")
unfolding digits spell spell_all
one_byte_each = refl

zero_in_utf32 : Spells Utf32 (signed_decimal (pos 0)) (0x00 ∷ 0x00 ∷ 0x00 ∷ 0x30 ∷ [])
unfolding digits spell spell_all
zero_in_utf32 = refl

-- One character of latin1 and of utf16.
e_acute : shown (Str Latin1 (0xE9 ∷ [])) ≡ text Latin1 (0xE9 ∷ [])
unfolding chars chars_behind
e_acute = refl

ya : shown (Str Utf16 (0x04 ∷ 0x4F ∷ [])) ≡ text Utf16 (0x044F ∷ [])
unfolding chars chars_behind
ya = refl

-- HEX('abc') of the MySQL 8.0 manual, 12.8, and the digits above 9.
hex_of_abc : hex_digits (codes "abc") ≡ codes "616263"
unfolding hex_digits
hex_of_abc = refl

hex_letters : hex_digits (0x0F ∷ 0xA0 ∷ 0x9B ∷ []) ≡ codes "0FA09B"
unfolding hex_digits
hex_letters = refl

-- HEX(255) of the MySQL 8.0 manual, 12.8; HEX(0) and HEX(-2).
hex_of_255 : number_digits (pos 255) ≡ codes "FF"
unfolding digits number_digits
hex_of_255 = refl

hex_of_0 : number_digits (pos 0) ≡ codes "0"
unfolding digits number_digits
hex_of_0 = refl

hex_of_minus_2 : number_digits (negsuc 1) ≡ codes "FFFFFFFFFFFFFFFE"
unfolding digits number_digits
hex_of_minus_2 = refl

-- CONVERT(X'C3A9' USING utf8mb4) takes the bytes for a text; X'E9' is none, so it is NULL.
taken : conversion Binary Utf8mb4 (0xC3 ∷ 0xA9 ∷ []) ≡ Some (0xC3 ∷ 0xA9 ∷ [])
unfolding chars chars_behind spell spell_all is_spelled taken_for conversion
taken = refl

no_text : conversion Binary Utf8mb4 (0xE9 ∷ []) ≡ None
unfolding chars chars_behind spell spell_all is_spelled taken_for conversion
no_text = refl

-- CONVERT(_utf16 X'044F' USING latin1) is `?`, and to binary the bytes stay.
lost : conversion Utf16 Latin1 (0x04 ∷ 0x4F ∷ []) ≡ Some (codes "?")
unfolding chars chars_behind spell converted_text conversion
lost = refl

bytes_stay : conversion Utf16 Binary (0x04 ∷ 0x4F ∷ []) ≡ Some (0x04 ∷ 0x4F ∷ [])
unfolding converted_text conversion
bytes_stay = refl
