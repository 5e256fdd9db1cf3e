-- The chain of classes, and the cap of a set as the least class that has all of its characters.
use Rattle.std.proofs.Common.{ℕ, ◌≤◌, refl, arith}
use Rattle.std.specs.Option.{IsSome}
use Rattle.std.proofs.lemmas.Bool.{false≢true}
use Rattle.mc_charset.specs.declared.charset.Charset.{Charset}
use Rattle.mc_charset.specs.declared.charset.Charset.TheVariants.{Latin1 as SetLatin1, Ascii as SetAscii, Utf8mb3, Utf8mb4, Ucs2, Utf16, Utf32, Binary}
use Rattle.mc_charset.specs.Tables.{rows}
use Rattle.mc_charset.specs.Chars.{spell}
use Rattle.mc_convert.specs.Classes.{rank, Has, HasIn, cap_of}
use Rattle.mc_convert.specs.declared.repertoire.Repertoire.{Repertoire}
use Rattle.mc_convert.specs.declared.repertoire.Repertoire.TheVariants.{Ascii, Latin1, Bmp, Unicode, Bytes}
use Rattle.mc_convert.proofs.Classes.{below_end, some_is}
use Rattle.mc_convert.proofs.CodePoints.{class_ascii, latin1_has, class_bmp}
use Rattle.mc_convert.proofs.Lossless.{byte_low}

class_chain : (class other : Repertoire) (code : ℕ) → rank class ≤ rank other → Has class code
    → Has other code
class_chain class Ascii code h k = class_ascii class code h k
class_chain class Latin1 code h k = some_is (spell SetLatin1 code) (latin1_has class code k h)
class_chain class Bmp code h k = class_bmp class code h k
class_chain class Unicode code h k = tt
class_chain class Bytes code h k = tt

byte_chain : (class other : Repertoire) (byte : ℕ) → rank class ≤ rank other
    → HasIn Binary class byte → HasIn Binary other byte
byte_chain class Ascii byte h k = byte_low class byte (omega arith) k
byte_chain class Latin1 byte h k = byte_low class byte (omega arith) k
byte_chain class Bmp byte h k = byte_low class byte (omega arith) k
byte_chain class Unicode byte h k = byte_low class byte (omega arith) k
byte_chain class Bytes byte h k = tt

-- Each class has what the earlier ones have.
pub chain : (set : Charset) (class other : Repertoire) (code : ℕ) → rank class ≤ rank other
    → HasIn set class code → HasIn set other code
chain SetLatin1 class other code h k = class_chain class other code h k
chain SetAscii class other code h k = class_chain class other code h k
chain Utf8mb3 class other code h k = class_chain class other code h k
chain Utf8mb4 class other code h k = class_chain class other code h k
chain Ucs2 class other code h k = class_chain class other code h k
chain Utf16 class other code h k = class_chain class other code h k
chain Utf32 class other code h k = class_chain class other code h k
chain Binary class other code h k = byte_chain class other code h k

-- The cap of a set has all of its characters.
pub cap_has_all : (set : Charset) (code : ℕ) → IsSome (spell set code) → HasIn set (cap_of set) code
unfolding spell
cap_has_all SetLatin1 code h = h
cap_has_all SetAscii code h = below_end 0x80 (rows SetAscii) code refl h
cap_has_all Utf8mb3 code h = below_end 0x10000 (rows Utf8mb3) code refl h
cap_has_all Utf8mb4 code h = tt
cap_has_all Ucs2 code h = below_end 0x10000 (rows Ucs2) code refl h
cap_has_all Utf16 code h = tt
cap_has_all Utf32 code h = tt
cap_has_all Binary code h = tt

above_ascii : (class : Repertoire) → Has class 0xFF → 1 ≤ rank class
above_ascii Ascii h = absurd (omega arith)
above_ascii Latin1 h = omega arith
above_ascii Bmp h = omega arith
above_ascii Unicode h = omega arith
above_ascii Bytes h = omega arith

above_latin1 : (class : Repertoire) → Has class 0xFFFF → 2 ≤ rank class
unfolding spell
above_latin1 Ascii h = absurd (omega arith)
above_latin1 Latin1 h = absurd (false≢true h)
above_latin1 Bmp h = omega arith
above_latin1 Unicode h = omega arith
above_latin1 Bytes h = omega arith

above_bmp : (class : Repertoire) → Has class 0x10FFFF → 3 ≤ rank class
unfolding spell
above_bmp Ascii h = absurd (omega arith)
above_bmp Latin1 h = absurd (false≢true h)
above_bmp Bmp h = absurd (omega arith)
above_bmp Unicode h = omega arith
above_bmp Bytes h = omega arith

above_unicode : (class : Repertoire) → HasIn Binary class 0xFF → 4 ≤ rank class
above_unicode Ascii h = absurd (omega arith)
above_unicode Latin1 h = absurd (omega arith)
above_unicode Bmp h = absurd (omega arith)
above_unicode Unicode h = absurd (omega arith)
above_unicode Bytes h = omega arith

-- A class that has all characters of a set, and so its last one, is the cap or above it.
pub cap_is_least : (set : Charset) (other : Repertoire)
    → ((code : ℕ) → IsSome (spell set code) → HasIn set other code) → rank (cap_of set) ≤ rank other
unfolding spell
cap_is_least SetLatin1 other h = above_ascii other (h 0xFF refl)
cap_is_least SetAscii other h = omega arith
cap_is_least Utf8mb3 other h = above_latin1 other (h 0xFFFF refl)
cap_is_least Utf8mb4 other h = above_bmp other (h 0x10FFFF refl)
cap_is_least Ucs2 other h = above_latin1 other (h 0xFFFF refl)
cap_is_least Utf16 other h = above_bmp other (h 0x10FFFF refl)
cap_is_least Utf32 other h = above_bmp other (h 0x10FFFF refl)
cap_is_least Binary other h = above_unicode other (h 0xFF refl)
