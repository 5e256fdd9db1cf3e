-- What is read record by record is the outcome of the text.
use Rattle.std.proofs.Common.{◌≡◌, ◌≢◌, ℕ, Bool, true, false, List, map, Ok, Err, refl, ap, if◌then◌else◌}
use Rattle.std.specs.Prelude.{MatchBool}
use Rattle.std.specs.Str.Lossy.{utf8_valid_len}
use Rattle.mc_base.specs.FirstFault.{IsFirstFault, first_fault}
use Rattle.mc_base.proofs.FirstFaultLemmas.{first_fault-none, first_fault-some}
use Rattle.mc_catalog.specs.declared.catalog.CollDecl.{CollDecl}
use Rattle.mc_catalog.specs.declared.catalog.ColumnDecl.{ColumnDecl}
use Rattle.mc_rows.specs.Outcome.{IsAccepted, IsRefused, is_no_text, records_outcome, rows_outcome}
use Rattle.mc_rows.specs.Records.{records_of, row_in, fault_of}
use Rattle.mc_rows.specs.declared.fault.RowsFault.{RowsFault}
use Rattle.mc_rows.specs.declared.fault.RowsFaultKind.TheVariants.{NotUtf8, NoMemory}
use Rattle.mc_rows.proofs.Refused.{is_text}

pub accepted_says : (collations : List CollDecl) (columns : List ColumnDecl) (text : List ℕ) → IsAccepted collations columns text
    → rows_outcome collations columns text ≡ Ok (map (row_in collations columns) (records_of text))
unfolding rows_outcome
accepted_says collations columns text h =
    rw (is_text text h.0) (ap (records_outcome collations columns (records_of text)) (first_fault-none (fault_of collations columns) (records_of text) h.1))

-- what is refused, by whether the text is UTF-8
refused_by : (collations : List CollDecl) (columns : List ColumnDecl) (text : List ℕ) (fault : RowsFault) (b : Bool)
    → MatchBool b ((fault.kind ≡ NotUtf8) × (fault.at ≡ utf8_valid_len text))
    (IsFirstFault (fault_of collations columns) (records_of text) (record { kind = fault.kind; at = fault.at }))
    → (if b then Err (record { kind = NotUtf8; at = utf8_valid_len text })
    else records_outcome collations columns (records_of text) (first_fault (fault_of collations columns) (records_of text))) ≡ Err fault
refused_by collations columns text fault true h = rw (← h.0, ← h.1) refl
refused_by collations columns text fault false h =
    ap (records_outcome collations columns (records_of text)) (first_fault-some (fault_of collations columns) (records_of text) fault h)

pub refused_says : (collations : List CollDecl) (columns : List ColumnDecl) (text : List ℕ) (fault : RowsFault) → IsRefused collations columns text fault.kind fault.at
    → fault.kind ≢ NoMemory → rows_outcome collations columns text ≡ Err fault
unfolding rows_outcome
refused_says collations columns text fault refused h = refused_by collations columns text fault (is_no_text text) (refused.cause h)
