-- What a file of rows gives: its rows, or its first fault.
use Rattle.std.specs.Prelude.{◌≡◌, ◌≢◌, ℕ, Bool, MatchBool, List, Option, Some, None, length}
use Rattle.std.specs.Prelude.{Result, Ok, Err, map}
use Rattle.std.specs.Prelude.{IsUtf8, nat_lt, if◌then◌else◌}
use Rattle.std.specs.Str.Lossy.{utf8_valid_len}
use Rattle.mc_base.specs.FirstFault.{first_fault, HasNoFault, IsFirstFault}
use Rattle.mc_catalog.specs.declared.catalog.CollDecl.{CollDecl}
use Rattle.mc_catalog.specs.declared.catalog.ColumnDecl.{ColumnDecl}
use Rattle.mc_values.specs.declared.value.Value.{Value}
use Rattle.mc_rows.specs.declared.fault.RowsFault.{RowsFault}
use Rattle.mc_rows.specs.declared.fault.RowsFaultKind.{RowsFaultKind}
use Rattle.mc_rows.specs.declared.fault.RowsFaultKind.TheVariants.{NotUtf8, NoMemory}
use Rattle.mc_rows.specs.Records.{Record, records_of, fault_of, row_in}

-- Whether a text isn't UTF-8: its longest prefix that is ends before it.
abbrev pub is_no_text : List ℕ → Bool
is_no_text text = nat_lt (utf8_valid_len text) (length text)

-- A file is accepted: it is UTF-8, and no record has a fault.
abbrev pub IsAccepted : List CollDecl → List ColumnDecl → List ℕ → Type 0
IsAccepted collations columns text =
    IsUtf8 text × HasNoFault (fault_of collations columns) (records_of text)

-- A file is refused so: where it isn't UTF-8, with the length of its longest prefix that is; else
-- with the fault of the first record that has one, and its number. Want of memory has no cause in
-- the file, and no number.
pub record IsRefused (collations : List CollDecl) (columns : List ColumnDecl) (text : List ℕ)
    (kind : RowsFaultKind) (at : ℕ) : Type 0 where
  pub no_place : kind ≡ NoMemory → at ≡ 0
  pub cause : kind ≢ NoMemory → MatchBool (is_no_text text)
      ((kind ≡ NotUtf8) × (at ≡ utf8_valid_len text))
      (IsFirstFault (fault_of collations columns) (records_of text)
      (record { kind = kind; at = at }))

-- what records give, by their first fault
abbrev pub records_outcome : List CollDecl → List ColumnDecl → List Record → Option RowsFault
    → Result (List (List Value)) RowsFault
records_outcome collations columns records None = Ok (map (row_in collations columns) records)
records_outcome collations columns records (Some fault) = Err fault

-- the rows that a file says, or its first fault
unfoldable pub rows_outcome : List CollDecl → List ColumnDecl → List ℕ
    → Result (List (List Value)) RowsFault
rows_outcome collations columns text =
    if is_no_text text
    then Err (record { kind = NotUtf8; at = utf8_valid_len text })
    else records_outcome collations columns (records_of text)
    (first_fault (fault_of collations columns) (records_of text))
