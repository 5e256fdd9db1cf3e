-- What the private parts say, a field and a record a time; no public clause cites it.
use Rattle.std.specs.Prelude.{◌≡◌, ◌≢◌, ⊤, ℕ, ◌+◌, ◌<◌, ◌≤◌, ◌^◌, Bool, true, false, List, [], ◌∷◌}
use Rattle.std.specs.Prelude.{◌++◌, length, map, Result, Ok, Err, MatchResult, IsUtf8, Some}
use Rattle.std.specs.List.{All}
use Rattle.mc_base.specs.FirstFault.{HasNoFault}
use Rattle.mc_catalog.specs.declared.catalog.CollDecl.{CollDecl}
use Rattle.mc_catalog.specs.declared.catalog.ColumnDecl.{ColumnDecl}
use Rattle.mc_charset.specs.Chars.{chars, IsWellFormed}
use Rattle.mc_charset.specs.declared.charset.Charset.{Charset}
use Rattle.mc_charset.specs.declared.charset.Charset.TheVariants.{Binary}
use Rattle.mc_values.specs.declared.value.Value.{Value}
use Rattle.mc_values.specs.declared.value.Value.TheVariants.{Str}
use Rattle.mc_rows.specs.HexBytes.{padded}
use Rattle.mc_rows.specs.Records.{Record, IsOfColumns, fault_of, kind_of_fault, most_rows, row_in}
use Rattle.mc_rows.specs.Records.{row_of}
use Rattle.mc_rows.specs.declared.fault.RowsFault.{RowsFault}
use Rattle.mc_rows.specs.declared.fault.RowsFaultKind.{RowsFaultKind}
use Rattle.mc_rows.specs.declared.fault.RowsFaultKind.TheVariants.{NoMemory}

-- The answer is what is defined; want of memory may take its place.
abbrev pub Gives : {T : Type 0} → Result T RowsFaultKind → Result T RowsFaultKind → Type 0
Gives defined answer =
    MatchResult answer (λ value. defined ≡ Ok value)
    (λ kind. kind ≢ NoMemory → defined ≡ Err kind)

-- The value is a string of this set with at most so many characters.
abbrev pub IsOfSet : Charset → ℕ → Value → Type 0
IsOfSet set most (Str its text) =
    (its ≡ set) × IsWellFormed its text × (length (chars its text) ≤ most)
IsOfSet set most value = ⊥

-- what a binary column keeps of bytes: padded or as they are
abbrev pub kept_bytes : Bool → ℕ → List ℕ → List ℕ
kept_bytes true len bytes = padded len bytes
kept_bytes false len bytes = bytes

-- Bytes have this length where they are padded, else at most this one.
abbrev pub HasLength : Bool → ℕ → List ℕ → Type 0
HasLength true len bytes = length bytes ≡ len
HasLength false len bytes = length bytes ≤ len

-- The value is a binary string of this length.
abbrev pub IsOfLength : Bool → ℕ → Value → Type 0
IsOfLength is_padded len (Str its bytes) =
    (its ≡ Binary) × IsWellFormed its bytes × HasLength is_padded len bytes
IsOfLength is_padded len value = ⊥

-- Each field is UTF-8 and shorter than 4 GiB.
abbrev pub AreTexts : Record → Type 0
AreTexts [] = ⊤
AreTexts (field ∷ fields) = IsUtf8 field × (length field < 2 ^ 32) × AreTexts fields

-- the place that is told with a fault of the record of this number: none where memory ran out
abbrev pub place_told : RowsFaultKind → ℕ → ℕ
place_told NoMemory number = 0
place_told _ number = number

-- This fault is told of a record with so many before it; want of memory may take its place.
pub record IsTold (collations : List CollDecl) (columns : List ColumnDecl) (count : ℕ)
    (fields : Record) (fault : RowsFault) : Type 0 where
  pub cause : fault.kind ≢ NoMemory
      → kind_of_fault collations columns count fields ≡ Some fault.kind
  pub place : fault.at ≡ place_told fault.kind (count + 1)

-- A record became a row behind these.
pub record IsAdded (collations : List CollDecl) (columns : List ColumnDecl) (fields : Record)
    (old new : List (List Value)) : Type 0 where
  pub row : List Value
  pub reads : row_of collations columns fields ≡ Ok row
  pub added : new ≡ old ++ row ∷ []
  pub of_columns : IsOfColumns collations columns row
  pub room : length old < most_rows

-- These records have no fault, and these are their rows.
pub record AreLoaded (collations : List CollDecl) (columns : List ColumnDecl)
    (taken : List Record) (rows : List (List Value)) : Type 0 where
  pub no_fault : HasNoFault (fault_of collations columns) taken
  pub are : rows ≡ map (row_in collations columns) taken
  pub of_columns : All (IsOfColumns collations columns) rows
  pub few : length rows ≤ most_rows
