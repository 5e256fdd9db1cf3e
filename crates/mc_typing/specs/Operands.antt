-- Expressions as operands of an operation on texts: MySQL 8.0 manual, 10.8.4 and 10.2.1.
use Rattle.std.specs.Prelude.{◌≡◌, ℕ, ◌<◌, Bool, true, false, List, [], ◌∷◌}
use Rattle.std.specs.Prelude.{Option, Some, None, length, map, nat_lt, nat_le, unwrap_or}
use Rattle.std.specs.Prelude.{if◌then◌else◌, All}
use Rattle.std.specs.List.{find, list_all}
use Rattle.std.specs.Option.{is_some}
use Rattle.mc_charset.specs.Chars.{chars, spell}
use Rattle.mc_charset.specs.Names.{bin_number, same_set}
use Rattle.mc_charset.specs.declared.charset.Charset.{Charset}
use Rattle.mc_charset.specs.declared.charset.Charset.TheVariants.{Binary}
use Rattle.mc_charset.specs.declared.charset.Charset.TheVariants.{Latin1 as SetLatin1}
use Rattle.mc_charset.specs.declared.collation_id.CollId.{CollId}
use Rattle.mc_convert.specs.Classes.{rank}
use Rattle.mc_convert.specs.declared.repertoire.Repertoire.{Repertoire}
use Rattle.mc_convert.specs.declared.repertoire.Repertoire.TheVariants.{Ascii, Latin1, Bmp}
use Rattle.mc_convert.specs.declared.repertoire.Repertoire.TheVariants.{Unicode, Bytes}
use Rattle.mc_coerce.specs.Aggregate.{of_bin}
use Rattle.mc_coerce.specs.Levels.{numeric, ignorable}
use Rattle.mc_coerce.specs.Operand.{IsOperand, built_in_count}
use Rattle.mc_coerce.specs.declared.operand.Operand.{Operand}
use Rattle.mc_catalog.specs.LookUp.{collation_set, number_of, set_at, usual_name}
use Rattle.mc_catalog.specs.declared.catalog.CollDecl.{CollDecl}
use Rattle.mc_catalog.specs.declared.catalog.Catalog.{Catalog}
use Rattle.mc_typing.specs.declared.scope.Scope.{Scope}
use Rattle.mc_typing.specs.declared.typed.Ty.{Ty}
use Rattle.mc_typing.specs.declared.typed.Ty.TheVariants.{Null, Int, Str}
use Rattle.mc_typing.specs.declared.typed.TypedExpr.{TypedExpr}
use Rattle.mc_typing.specs.Scope.{connection_set}

-- The class has this character.
abbrev pub has : Repertoire → ℕ → Bool
has Ascii code = nat_lt code 0x80
has Latin1 code = is_some (spell SetLatin1 code)
has Bmp code = nat_lt code 0x10000
has class code = true

-- The class has this character of a text in the set. Of bytes, Bytes has all and the other classes
-- those below 80.
abbrev pub has_in : Charset → Repertoire → ℕ → Bool
has_in Binary Bytes byte = true
has_in Binary class byte = nat_lt byte 0x80
has_in set class code = has class code

-- The repertoire of a text: the first class of the chain that has each of its characters.
unfoldable pub repertoire_in : Charset → List ℕ → Repertoire
repertoire_in set text =
    unwrap_or (find (λ class. list_all (has_in set class) (chars set text))
    (Ascii ∷ Latin1 ∷ Bmp ∷ Unicode ∷ [])) Bytes

-- The number of a set's usual collation: the one of the usual name, where it has that set, else the
-- binary one.
abbrev pub usual_at : Charset → ℕ → Option Charset → ℕ
usual_at set place None = bin_number set
usual_at set place (Some found) = if same_set found set then place else bin_number set

abbrev pub usual_in : List CollDecl → Charset → Option ℕ → ℕ
usual_in collations set None = bin_number set
usual_in collations set (Some place) = usual_at set place (set_at collations place)

unfoldable pub usual : Catalog → Charset → ℕ
usual c set = usual_in c.collations set (number_of c.collations (usual_name set))

-- An operand of a collation.
abbrev pub of_collation : Charset → CollId → ℕ → Repertoire → Operand
of_collation set id level class = record {
  charset = set;
  collation = id;
  bin = nat_lt id.0 built_in_count;
  level = level;
  repertoire = class;
}

-- An operand of a set's usual collation.
abbrev pub of_usual : Catalog → Charset → ℕ → Repertoire → Operand
of_usual c set level class = of_collation set (record { 0 = usual c set }) level class

-- An operand of the connection's collation.
abbrev pub of_connection : Catalog → Scope → ℕ → Repertoire → Operand
of_connection c s level class = of_collation (connection_set c s) s.connection level class

-- NULL as an operand, which takes no part.
abbrev pub of_null : Operand
of_null = of_bin Binary ignorable Ascii

-- A number as an operand.
abbrev pub of_number : Catalog → Scope → Operand
of_number c s = of_connection c s numeric Ascii

-- The operand that an expression of a type is, as CHARSET and its kin show it.
abbrev pub operand_of : Catalog → Scope → Ty → Operand
operand_of c s Null = of_null
operand_of c s Int = of_number c s
operand_of c s (Str operand) = operand

-- The operand that an expression is to its operation. A number that isn't taken for a text has no
-- say, as NULL.
abbrev pub text_operand : Ty → Operand
text_operand (Str operand) = operand
text_operand ty = of_null

abbrev pub text_operands : List TypedExpr → List Operand
text_operands xs = map (λ x. text_operand x.ty) xs

abbrev pub is_null : Ty → Bool
is_null Null = true
is_null ty = false

abbrev pub is_number : Ty → Bool
is_number Int = true
is_number ty = false

abbrev pub is_text : Ty → Bool
is_text (Str operand) = true
is_text ty = false

-- The lesser class of two in the chain.
abbrev pub lesser : Repertoire → Repertoire → Repertoire
lesser class other = if nat_le (rank class) (rank other) then class else other

-- The collation of a text is one of the catalog, and its set is that collation's.
pub record IsTextOf (c : Catalog) (operand : Operand) : Type 0 where
  pub within : operand.collation.0 < length c.collations
  pub set : operand.charset ≡ collation_set c.collations operand.collation.0
  pub lawful : IsOperand operand

-- A text has a collation of the catalog, of its set.
abbrev pub IsTyOf : Catalog → Ty → Type 0
IsTyOf c (Str operand) = IsTextOf c operand
IsTyOf c ty = Unit {0}

-- Each of the expressions has such a type.
abbrev pub AreTyped : Catalog → List TypedExpr → Type 0
AreTyped c xs = All (λ x. IsTyOf c x.ty) xs
