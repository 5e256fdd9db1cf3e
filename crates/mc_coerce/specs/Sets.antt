-- Character sets beside each other: MySQL 8.0 manual, 10.8.4 and 10.9.
use Rattle.std.specs.Prelude.{ℕ, Bool, true, false, not, ◌&&◌, ◌||◌}
use Rattle.mc_charset.specs.Names.{is_unicode_set}
use Rattle.mc_charset.specs.declared.charset.Charset.{Charset}
use Rattle.mc_charset.specs.declared.charset.Charset.TheVariants.{Latin1, Ascii, Utf8mb3, Utf8mb4}
use Rattle.mc_charset.specs.declared.charset.Charset.TheVariants.{Ucs2, Utf16, Utf32, Binary}
use Rattle.mc_convert.specs.Conversion.{is_binary}

-- The number of a set's binary collation.
abbrev pub bin_collation_of : Charset → ℕ
bin_collation_of Binary = 0
bin_collation_of Latin1 = 1
bin_collation_of Ascii = 2
bin_collation_of Utf8mb3 = 3
bin_collation_of Utf8mb4 = 4
bin_collation_of Ucs2 = 5
bin_collation_of Utf16 = 6
bin_collation_of Utf32 = 7

-- The two sets, in this order, are utf8mb4 and utf8mb3, utf16 and ucs2, or latin1 and ascii.
abbrev pub extends : Charset → Charset → Bool
extends Utf8mb4 Utf8mb3 = true
extends Utf16 Ucs2 = true
extends Latin1 Ascii = true
extends set other = false

-- The set is Unicode, and the other one is neither Unicode nor binary.
abbrev pub is_unicode_beside_other : Charset → Charset → Bool
is_unicode_beside_other set other =
    is_unicode_set set && (not (is_unicode_set other) && not (is_binary other))

-- Both sets are Unicode, and in neither order they are one of the pairs of `extends`.
abbrev pub are_unicode_apart : Charset → Charset → Bool
are_unicode_apart set other =
    (is_unicode_set set && is_unicode_set other) && not (extends set other || extends other set)
