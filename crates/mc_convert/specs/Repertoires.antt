-- The repertoire of a text as a function: MySQL 8.0 manual, 10.2.1.
use Rattle.std.specs.Prelude.{ℕ, Bool, true, List, [], ◌∷◌, nat_lt, unwrap_or}
use Rattle.std.specs.List.{find, list_all}
use Rattle.std.specs.Option.{is_some}
use Rattle.mc_charset.specs.Chars.{chars, spell}
use Rattle.mc_charset.specs.declared.charset.Charset.{Charset}
use Rattle.mc_charset.specs.declared.charset.Charset.TheVariants.{Binary}
use Rattle.mc_charset.specs.declared.charset.Charset.TheVariants.{Latin1 as SetLatin1}
use Rattle.mc_convert.specs.declared.repertoire.Repertoire.{Repertoire}
use Rattle.mc_convert.specs.declared.repertoire.Repertoire.TheVariants.{Ascii, Latin1, Bmp, Unicode}
use Rattle.mc_convert.specs.declared.repertoire.Repertoire.TheVariants.{Bytes}

-- The class has this character.
abbrev pub class_has : Repertoire → ℕ → Bool
class_has Ascii code = nat_lt code 0x80
class_has Latin1 code = is_some (spell SetLatin1 code)
class_has Bmp code = nat_lt code 0x10000
class_has class code = true

-- The class has this character of a text in the set.
-- Of bytes, Bytes has all and the other classes those below 80.
abbrev pub class_has_in : Charset → Repertoire → ℕ → Bool
class_has_in Binary Bytes byte = true
class_has_in Binary class byte = nat_lt byte 0x80
class_has_in set class code = class_has class code

-- The repertoire of a text: the first class of the chain that has each of its characters
unfoldable pub repertoire : Charset → List ℕ → Repertoire
repertoire set text =
    unwrap_or (find (λ class. list_all (class_has_in set class) (chars set text))
    (Ascii ∷ Latin1 ∷ Bmp ∷ Unicode ∷ [])) Bytes
