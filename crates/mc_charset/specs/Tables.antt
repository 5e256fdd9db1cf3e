-- The spellings of each character set, as rows.
use Rattle.std.specs.Prelude.{ℕ, List, [], ◌∷◌, ◌++◌}
use Rattle.mc_charset.specs.declared.charset.Charset.{Charset}
use Rattle.mc_charset.specs.declared.charset.Charset.TheVariants.{Latin1, Ascii, Utf8mb3, Utf8mb4}
use Rattle.mc_charset.specs.declared.charset.Charset.TheVariants.{Ucs2, Utf16, Utf32, Binary}
use Rattle.mc_charset.specs.Rows.{Range, Row}

abbrev pub from_to : ℕ → ℕ → Range
from_to least greatest = record { least = least; greatest = greatest }

abbrev pub only : ℕ → Range
only byte = from_to byte byte

abbrev pub from_code : ℕ → List Range → Row
from_code first bytes = record { first = first; bytes = bytes }

-- Unicode Standard, Table 3-7, its first six rows: the code points up to FFFF.
abbrev pub utf8_short_rows : List Row
utf8_short_rows =
    from_code 0x0000 (from_to 0x00 0x7F ∷ [])
    ∷ from_code 0x0080 (from_to 0xC2 0xDF ∷ from_to 0x80 0xBF ∷ [])
    ∷ from_code 0x0800 (only 0xE0 ∷ from_to 0xA0 0xBF ∷ from_to 0x80 0xBF ∷ [])
    ∷ from_code 0x1000 (from_to 0xE1 0xEC ∷ from_to 0x80 0xBF ∷ from_to 0x80 0xBF ∷ [])
    ∷ from_code 0xD000 (only 0xED ∷ from_to 0x80 0x9F ∷ from_to 0x80 0xBF ∷ [])
    ∷ from_code 0xE000 (from_to 0xEE 0xEF ∷ from_to 0x80 0xBF ∷ from_to 0x80 0xBF ∷ [])
    ∷ []

-- the bytes behind the first one in UTF-8
abbrev pub behind : Range
behind = from_to 0x80 0xBF

-- Unicode Standard, Table 3-7, its last three rows: the code points from 10000 on.
abbrev pub utf8_long_rows : List Row
utf8_long_rows =
    from_code 0x10000 (only 0xF0 ∷ from_to 0x90 0xBF ∷ behind ∷ behind ∷ [])
    ∷ from_code 0x40000 (from_to 0xF1 0xF3 ∷ behind ∷ behind ∷ behind ∷ [])
    ∷ from_code 0x100000 (only 0xF4 ∷ from_to 0x80 0x8F ∷ behind ∷ behind ∷ [])
    ∷ []

-- two bytes, the greater one first: the code points up to FFFF without the surrogates D800 to DFFF
abbrev pub two_byte_rows : List Row
two_byte_rows =
    from_code 0x0000 (from_to 0x00 0xD7 ∷ from_to 0x00 0xFF ∷ [])
    ∷ from_code 0xE000 (from_to 0xE0 0xFF ∷ from_to 0x00 0xFF ∷ [])
    ∷ []

-- Unicode Standard, Table 3-5: a high surrogate, D800 to DBFF, and a low one, DC00 to DFFF.
abbrev pub surrogate_pair_rows : List Row
surrogate_pair_rows =
    from_code 0x10000
    (from_to 0xD8 0xDB ∷ from_to 0x00 0xFF ∷ from_to 0xDC 0xDF ∷ from_to 0x00 0xFF ∷ [])
    ∷ []

-- four bytes, the greatest one first: the code points up to 10FFFF without the surrogates
abbrev pub four_byte_rows : List Row
four_byte_rows =
    from_code 0x0000 (only 0x00 ∷ only 0x00 ∷ from_to 0x00 0xD7 ∷ from_to 0x00 0xFF ∷ [])
    ∷ from_code 0xE000
    (only 0x00 ∷ only 0x00 ∷ from_to 0xE0 0xFF ∷ from_to 0x00 0xFF ∷ [])
    ∷ from_code 0x10000
    (only 0x00 ∷ from_to 0x01 0x10 ∷ from_to 0x00 0xFF ∷ from_to 0x00 0xFF ∷ [])
    ∷ []

-- one byte of its own for a code point
abbrev pub byte : ℕ → ℕ → Row
byte b code = from_code code (only b ∷ [])

-- MySQL's latin1 from 80 to 9F: Windows code page 1252, and control characters at its five gaps.
abbrev pub latin1_rows_80_to_9f : List Row
latin1_rows_80_to_9f =
    byte 0x80 0x20AC ∷ byte 0x81 0x0081 ∷ byte 0x82 0x201A ∷ byte 0x83 0x0192
    ∷ byte 0x84 0x201E ∷ byte 0x85 0x2026 ∷ byte 0x86 0x2020 ∷ byte 0x87 0x2021
    ∷ byte 0x88 0x02C6 ∷ byte 0x89 0x2030 ∷ byte 0x8A 0x0160 ∷ byte 0x8B 0x2039
    ∷ byte 0x8C 0x0152 ∷ byte 0x8D 0x008D ∷ byte 0x8E 0x017D ∷ byte 0x8F 0x008F
    ∷ byte 0x90 0x0090 ∷ byte 0x91 0x2018 ∷ byte 0x92 0x2019 ∷ byte 0x93 0x201C
    ∷ byte 0x94 0x201D ∷ byte 0x95 0x2022 ∷ byte 0x96 0x2013 ∷ byte 0x97 0x2014
    ∷ byte 0x98 0x02DC ∷ byte 0x99 0x2122 ∷ byte 0x9A 0x0161 ∷ byte 0x9B 0x203A
    ∷ byte 0x9C 0x0153 ∷ byte 0x9D 0x009D ∷ byte 0x9E 0x017E ∷ byte 0x9F 0x0178
    ∷ []

-- the rows of a character set: MySQL 8.0 manual, 10.9 and 10.10
abbrev pub rows : Charset → List Row
rows Latin1 =
    from_code 0x00 (from_to 0x00 0x7F ∷ []) ∷ from_code 0xA0 (from_to 0xA0 0xFF ∷ [])
    ∷ latin1_rows_80_to_9f
rows Ascii = from_code 0x00 (from_to 0x00 0x7F ∷ []) ∷ []
rows Utf8mb3 = utf8_short_rows
rows Utf8mb4 = utf8_short_rows ++ utf8_long_rows
rows Ucs2 = two_byte_rows
rows Utf16 = two_byte_rows ++ surrogate_pair_rows
rows Utf32 = four_byte_rows
rows Binary = from_code 0x00 (from_to 0x00 0xFF ∷ []) ∷ []
