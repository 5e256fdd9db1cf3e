-- Repertoires, a chain of classes of characters: MySQL 8.0 manual, 10.2.1.
use Rattle.std.specs.Prelude.{ℕ, ◌<◌, ◌≤◌, List, [], ◌∷◌, IsSome}
use Rattle.mc_charset.specs.declared.charset.Charset.{Charset}
use Rattle.mc_charset.specs.declared.charset.Charset.TheVariants.{Latin1 as SetLatin1}
use Rattle.mc_charset.specs.declared.charset.Charset.TheVariants.{Ascii as SetAscii, Utf8mb3}
use Rattle.mc_charset.specs.declared.charset.Charset.TheVariants.{Utf8mb4, Ucs2, Utf16, Utf32}
use Rattle.mc_charset.specs.declared.charset.Charset.TheVariants.{Binary}
use Rattle.mc_charset.specs.Chars.{spell, chars}
use Rattle.mc_convert.specs.declared.repertoire.Repertoire.{Repertoire}
use Rattle.mc_convert.specs.declared.repertoire.Repertoire.TheVariants.{Ascii, Latin1, Bmp, Unicode}
use Rattle.mc_convert.specs.declared.repertoire.Repertoire.TheVariants.{Bytes}

-- the place of a class in the chain
abbrev pub rank : Repertoire → ℕ
rank Ascii = 0
rank Latin1 = 1
rank Bmp = 2
rank Unicode = 3
rank Bytes = 4

-- The class has the character: Ascii those below U+0080, Latin1 the 256 of latin1,
-- Bmp those up to U+FFFF, the others all.
abbrev pub Has : Repertoire → ℕ → Type 0
Has Ascii code = code < 0x80
Has Latin1 code = IsSome (spell SetLatin1 code)
Has Bmp code = code < 0x10000
Has Unicode code = Unit
Has Bytes code = Unit

-- The class has this character of a text in the set.
-- Of bytes, Bytes has all and the other classes those below 80.
abbrev pub HasIn : Charset → Repertoire → ℕ → Type 0
HasIn Binary Bytes byte = Unit
HasIn Binary class byte = byte < 0x80
HasIn set class code = Has class code

-- The class has each of these characters of the set.
abbrev pub HasAll : Charset → Repertoire → List ℕ → Type 0
HasAll set class [] = Unit
HasAll set class (code ∷ codes) = HasIn set class code × HasAll set class codes

-- The class is the repertoire of the text: the least one that has each of its characters.
pub record IsRepertoire (set : Charset) (text : List ℕ) (class : Repertoire) : Type 0 where
  pub has_all : HasAll set class (chars set text)
  pub least : (other : Repertoire) → HasAll set other (chars set text)
      → rank class ≤ rank other

-- the cap of a set: the class of all its characters
abbrev pub cap_of : Charset → Repertoire
cap_of SetAscii = Ascii
cap_of SetLatin1 = Latin1
cap_of Utf8mb3 = Bmp
cap_of Ucs2 = Bmp
cap_of Utf8mb4 = Unicode
cap_of Utf16 = Unicode
cap_of Utf32 = Unicode
cap_of Binary = Bytes
