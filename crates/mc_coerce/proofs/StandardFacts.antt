-- The definitions at the worked mixes: a column of latin1_swedish_ci, one of latin1_german1_ci, one
-- of utf16_bin, one of utf8mb4_unicode_ci, and literals of utf8mb4_0900_ai_ci.
use Rattle.std.proofs.Common.{◌≡◌, ℕ, false, [], ◌∷◌, refl}
use Rattle.mc_charset.specs.Names.{same_set}
use Rattle.mc_charset.specs.declared.charset.Charset.{Charset}
use Rattle.mc_charset.specs.declared.charset.Charset.TheVariants.{Latin1 as SetLatin1}
use Rattle.mc_charset.specs.declared.charset.Charset.TheVariants.{Utf8mb4, Utf16, Binary}
use Rattle.mc_convert.specs.declared.repertoire.Repertoire.{Repertoire}
use Rattle.mc_convert.specs.declared.repertoire.Repertoire.TheVariants.{Ascii, Latin1, Bmp}
use Rattle.mc_convert.specs.declared.repertoire.Repertoire.TheVariants.{Unicode, Bytes}
use Rattle.mc_coerce.specs.declared.operand.Operand.{Operand}
use Rattle.mc_coerce.specs.declared.operand.Purpose.TheVariants.{Compare, Text}
use Rattle.mc_coerce.specs.declared.operand.Agg.TheVariants.{Uses, Mix}
use Rattle.mc_coerce.specs.Aggregate.{of_bin, aggregate}

-- An operand of a declared collation.
abbrev declared : Charset → ℕ → ℕ → Repertoire → Operand
declared set number level class = record {
  charset = set;
  collation = record { 0 = number };
  bin = false;
  level = level;
  repertoire = class;
}

abbrev swedish : Operand
swedish = declared SetLatin1 14 2 Latin1

abbrev german : Operand
german = declared SetLatin1 15 2 Latin1

abbrev utf16 : Operand
utf16 = of_bin Utf16 2 Unicode

abbrev unicode : Operand
unicode = declared Utf8mb4 11 2 Unicode

abbrev literal : Repertoire → Operand
literal class = declared Utf8mb4 9 4 class

-- a = 'x'
column_beats_literal : aggregate (swedish ∷ literal Ascii ∷ []) Compare ≡ Uses swedish
unfolding aggregate same_set
column_beats_literal = refl

-- a = 'я'
set_lacks_a_letter : aggregate (swedish ∷ literal Bmp ∷ []) Compare ≡ Mix
unfolding aggregate same_set
set_lacks_a_letter = refl

-- a = b
two_columns : aggregate (swedish ∷ german ∷ []) Compare ≡ Mix
unfolding aggregate same_set
two_columns = refl

-- CONCAT(a, b)
one_set_is_shared : aggregate (swedish ∷ german ∷ []) Text ≡ Uses (of_bin SetLatin1 1 Latin1)
unfolding aggregate same_set
one_set_is_shared = refl

-- CONCAT(a, b) = 'x'
no_collation_to_compare : aggregate (of_bin SetLatin1 1 Latin1 ∷ literal Ascii ∷ []) Compare ≡ Mix
unfolding aggregate same_set
no_collation_to_compare = refl

-- CONCAT(a, b, e)
unicode_beats_latin1 : aggregate (swedish ∷ german ∷ utf16 ∷ []) Text ≡ Uses utf16
unfolding aggregate same_set
unicode_beats_latin1 = refl

-- CONCAT(a, e, f)
two_unicode_sets : aggregate (swedish ∷ utf16 ∷ unicode ∷ []) Text ≡ Mix
unfolding aggregate same_set
two_unicode_sets = refl

-- a = X'FF'
byte_above_7f : aggregate (swedish ∷ of_bin Binary 4 Bytes ∷ []) Compare ≡ Mix
unfolding aggregate same_set
byte_above_7f = refl

-- CONCAT(X'41', 'é')
letters_beside_bytes : aggregate (of_bin Binary 4 Ascii ∷ literal Latin1 ∷ []) Text
    ≡ Uses (of_bin Binary 4 Bytes)
unfolding aggregate same_set
letters_beside_bytes = refl
