-- The definitions at worked examples, computed.
use Rattle.std.proofs.Common.{◌≡◌, [], ◌∷◌, ◌++◌, codes, refl}
use Rattle.std.specs.Prelude.{pos, negsuc}
use Rattle.std.specs.Fmt.{digits}
use Rattle.mc_charset.specs.Chars.{chars, chars_behind, spell}
use Rattle.mc_charset.specs.declared.charset.Charset.TheVariants.{Latin1, Utf8mb4, Utf16, Binary}
use Rattle.mc_convert.specs.Conversion.{converted_text}
use Rattle.mc_print.specs.Cells.{cell}
use Rattle.mc_print.specs.Escapes.{as_written, read_back}
use Rattle.mc_print.specs.Lines.{answer_text, refusal_text}
use Rattle.mc_values.specs.Hexadecimal.{hex_digits}
use Rattle.mc_values.specs.declared.value.Value.TheVariants.{Null, Int, Str}

-- NULL, and the string of these four letters, are written alike.
null : cell Null ≡ codes "NULL"
unfolding cell
null = refl

word_null : cell (Str Utf8mb4 (codes "NULL")) ≡ codes "NULL"
unfolding cell chars chars_behind spell converted_text as_written
word_null = refl

-- The least and the greatest number of 64 bits.
least : cell (Int (negsuc 9223372036854775807)) ≡ codes "-9223372036854775808"
unfolding cell digits
least = refl

greatest : cell (Int (pos 9223372036854775807)) ≡ codes "9223372036854775807"
unfolding cell digits
greatest = refl

-- A binary string without bytes, and one whose bytes would be escaped in a text.
no_bytes : cell (Str Binary []) ≡ codes "0x"
unfolding cell hex_digits
no_bytes = refl

bytes : cell (Str Binary (0x00 ∷ 0x09 ∷ 0x5C ∷ 0xAB ∷ [])) ≡ codes "0x00095CAB"
unfolding cell hex_digits
bytes = refl

-- U+044F in utf16 and U+00E9 in latin1 are written in UTF-8.
wide : cell (Str Utf16 (0x04 ∷ 0x4F ∷ [])) ≡ 0xD1 ∷ 0x8F ∷ []
unfolding cell chars chars_behind spell converted_text as_written
wide = refl

accented : cell (Str Latin1 (0xE9 ∷ [])) ≡ 0xC3 ∷ 0xA9 ∷ []
unfolding cell chars chars_behind spell converted_text as_written
accented = refl

-- The four escapes; a CR and a quote stand as they are.
escapes : as_written (0x61 ∷ 0x00 ∷ 0x09 ∷ 0x0A ∷ 0x5C ∷ 0x0D ∷ 0x27 ∷ []) ≡ codes "a\\0\\t\\n\\\\" ++ 0x0D ∷ 0x27 ∷ []
unfolding as_written
escapes = refl

-- A backslash and `n` in a text are no line feed.
apart : as_written (codes "\\n") ≡ codes "\\\\n"
unfolding as_written
apart = refl

back : read_back (codes "\\\\n") ≡ codes "\\n"
back = refl

-- Two columns and one row; one column without rows.
rows : answer_text (record { header = codes "a" ∷ codes "b" ∷ []; rows = (Int (pos 0) ∷ Null ∷ []) ∷ [] }) ≡ codes "a\tb\n0\tNULL\n"
unfolding answer_text cell as_written digits
rows = refl

no_rows : answer_text (record { header = codes "id" ∷ []; rows = [] }) ≡ codes "id\n"
unfolding answer_text as_written
no_rows = refl

refused : refusal_text (record { number = 1690; text = codes "BIGINT value is out of range" }) ≡ codes "ERROR 1690: BIGINT value is out of range\n"
unfolding as_written digits
refused = refl

refused_name : refusal_text (record { number = 1054; text = codes "Unknown column 'a\tb'" }) ≡ codes "ERROR 1054: Unknown column 'a\\tb'\n"
unfolding as_written digits
refused_name = refl
