-- A field of a file of rows as the value of a column: this engine's own convention, by the types of
-- the MySQL 8.0 manual, 11.1.2, 11.3.2 and 11.3.3.
use Rattle.std.specs.Prelude.{◌≡◌, ℕ, ℤ, ⊤, ◌≤◌, ◌==◌, List, [], ◌∷◌, length, nat_le, codes}
use Rattle.std.specs.Prelude.{Option, Some, None, Result, Ok, Err, if◌then◌else◌}
use Rattle.std.specs.Result.{result_map_both}
use Rattle.std.specs.Str.{bytes_eq}
use Rattle.mc_charset.specs.Chars.{chars, IsWellFormed}
use Rattle.mc_charset.specs.declared.charset.Charset.{Charset}
use Rattle.mc_charset.specs.declared.charset.Charset.TheVariants.{Utf8mb4, Binary as SetBinary}
use Rattle.mc_catalog.specs.LookUp.{collation_set}
use Rattle.mc_catalog.specs.declared.catalog.CollDecl.{CollDecl}
use Rattle.mc_catalog.specs.declared.catalog.ColumnType.{ColumnType}
use Rattle.mc_catalog.specs.declared.catalog.ColumnType.TheVariants.{BigInt, Char, VarChar, Binary}
use Rattle.mc_catalog.specs.declared.catalog.ColumnType.TheVariants.{VarBinary}
use Rattle.mc_values.specs.declared.value.Value.{Value}
use Rattle.mc_values.specs.declared.value.Value.TheVariants.{Null, Int, Str}
use Rattle.mc_rows.specs.declared.fault.RowsFaultKind.{RowsFaultKind}
use Rattle.mc_rows.specs.declared.fault.RowsFaultKind.TheVariants.{BadInt, BadHex, Unfit, TooLong}
use Rattle.mc_rows.specs.declared.fault.RowsFaultKind.TheVariants.{NoMemory}
use Rattle.mc_rows.specs.declared.fit.FitFault.{FitFault}
use Rattle.mc_rows.specs.declared.fit.FitFault.TheVariants as fit
use Rattle.mc_rows.specs.Fit.{fitted}
use Rattle.mc_rows.specs.HexBytes.{hex_bytes, padded}
use Rattle.mc_rows.specs.Numbers.{bigint_of}

-- the field that is NULL
abbrev pub null_field : List ℕ
null_field = codes "\\N"

-- the space, U+0020, whose byte in UTF-8 stands for nothing else
abbrev pub space : ℕ
space = 0x20

-- a byte in front of others, where a space in front of nothing falls away
abbrev pub in_front : ℕ → List ℕ → List ℕ
in_front byte [] = if byte == space then [] else byte ∷ []
in_front byte (next ∷ more) = byte ∷ next ∷ more

-- a UTF-8 text without the spaces at its end
unfoldable pub without_end_spaces : List ℕ → List ℕ
without_end_spaces [] = []
without_end_spaces (byte ∷ bytes) = in_front byte (without_end_spaces bytes)

-- why a text doesn't fit, as a fault of the file
abbrev pub fit_kind : FitFault → RowsFaultKind
fit_kind fit.Unfit = Unfit
fit_kind fit.TooLong = TooLong
fit_kind fit.NoMemory = NoMemory

-- a UTF-8 text as a string of a set, of at most so many characters (bytes for binary)
abbrev pub text_value : Charset → ℕ → List ℕ → Result Value RowsFaultKind
text_value set most text = result_map_both (Str set) fit_kind (fitted Utf8mb4 set most text)

-- a number, if there is one
abbrev pub int_value : Option ℤ → Result Value RowsFaultKind
int_value None = Err BadInt
int_value (Some number) = Ok (Int number)

-- at most so many bytes as a binary string, padded or not, if there are any
abbrev pub binary_value : ℕ → (List ℕ → List ℕ) → Option (List ℕ) → Result Value RowsFaultKind
binary_value most kept None = Err BadHex
binary_value most kept (Some bytes) =
    if nat_le (length bytes) most then Ok (Str SetBinary (kept bytes)) else Err TooLong

-- a field that isn't NULL as a value of a type: a bigint, characters, or digits of bytes; the
-- spaces at the end of a char fall away, and a binary is padded with zeros
abbrev pub typed_value : List CollDecl → ColumnType → List ℕ → Result Value RowsFaultKind
typed_value collations BigInt field = int_value (bigint_of field)
typed_value collations (Char n coll) field =
    text_value (collation_set collations coll.0) n (without_end_spaces field)
typed_value collations (VarChar n coll) field = text_value (collation_set collations coll.0) n field
typed_value collations (Binary n) field = binary_value n (padded n) (hex_bytes field)
typed_value collations (VarBinary n) field = binary_value n (λ bytes. bytes) (hex_bytes field)

-- a field as a value of a type, or its fault
unfoldable pub field_value : List CollDecl → ColumnType → List ℕ → Result Value RowsFaultKind
field_value collations type field =
    if bytes_eq field null_field then Ok Null else typed_value collations type field

-- A text of at most so many characters in the set of this collation.
abbrev pub IsTextWithin : List CollDecl → ℕ → ℕ → Charset → List ℕ → Type 0
IsTextWithin collations coll most set text =
    (set ≡ collation_set collations coll) × IsWellFormed set text × (length (chars set text) ≤ most)

-- A value is NULL or one of this type: a number, a text of the set within the length, or so many
-- bytes.
abbrev pub IsOfType : List CollDecl → ColumnType → Value → Type 0
IsOfType collations type Null = ⊤
IsOfType collations BigInt (Int number) = ⊤
IsOfType collations (Char n coll) (Str set text) = IsTextWithin collations coll.0 n set text
IsOfType collations (VarChar n coll) (Str set text) = IsTextWithin collations coll.0 n set text
IsOfType collations (Binary n) (Str set text) =
    (set ≡ SetBinary) × IsWellFormed set text × (length text ≡ n)
IsOfType collations (VarBinary n) (Str set text) =
    (set ≡ SetBinary) × IsWellFormed set text × (length text ≤ n)
IsOfType collations type value = ⊥
