-- A file is refused with the fault of the first record that has one.
use Rattle.std.proofs.Common.{◌≡◌, ◌≢◌, ℕ, ◌+◌, ◌<◌, true, false, List, [], ◌∷◌, ◌++◌, length, Some, IsUtf8, refl, sym, ap, subst, ◌∙◌, append_assoc, arith}
use Rattle.std.proofs.lemmas.Bool.Decides.{nat_tests}
use Rattle.std.proofs.lemmas.List.{length-map}
use Rattle.std.proofs.lemmas.Str.{utf8_valid_len-IsUtf8}
use Rattle.std.specs.Prelude.{option_map}
use Rattle.std.specs.Str.Lossy.{utf8_valid_len}
use Rattle.csv.specs.Reading.{ReadRecord, default_config, records_from}
use Rattle.csv.specs.declared.reader.Reader.{Reader}
use Rattle.std.proofs.Common.{Option}
use Rattle.mc_base.specs.FirstFault.{IsFirstFault}
use Rattle.mc_base.proofs.FirstFaultLemmas.{first_fault-behind}
use Rattle.mc_catalog.specs.declared.catalog.CollDecl.{CollDecl}
use Rattle.mc_catalog.specs.declared.catalog.ColumnDecl.{ColumnDecl}
use Rattle.mc_values.specs.declared.value.Value.{Value}
use Rattle.mc_rows.specs.Outcome.{IsRefused, is_no_text}
use Rattle.mc_rows.specs.Records.{Record, records_of, row_in, kind_of_fault, fault_of}
use Rattle.mc_rows.specs.Told.{IsTold, place_told}
use Rattle.mc_rows.specs.declared.fault.RowsFault.{RowsFault}
use Rattle.mc_rows.specs.declared.fault.RowsFaultKind.{RowsFaultKind}
use Rattle.mc_rows.specs.declared.fault.RowsFaultKind.TheVariants.{NotUtf8, TooManyRows, WrongCount, BadInt, BadHex, Unfit, TooLong, NoMemory}
use Rattle.mc_rows.proofs.Reading.{IsReading, reader_more, read_more}

pub place_of : (kind : RowsFaultKind) (number : ℕ) → kind ≢ NoMemory → place_told kind number ≡ number
place_of NoMemory number h = absurd (h refl)
place_of NotUtf8 number h = refl
place_of TooManyRows number h = refl
place_of WrongCount number h = refl
place_of BadInt number h = refl
place_of BadHex number h = refl
place_of Unfit number h = refl
place_of TooLong number h = refl

pub is_text : (text : List ℕ) → IsUtf8 text → is_no_text text ≡ false
is_text text u =
    let all = utf8_valid_len-IsUtf8 text u in
    grind (arith, nat_tests, all)

pub without_memory : (collations : List CollDecl) (columns : List ColumnDecl) (text : List ℕ) → IsRefused collations columns text NoMemory 0
without_memory collations columns text = record { no_place = λ e. refl; cause = λ h. absurd (h refl) }

pub no_text : (collations : List CollDecl) (columns : List ColumnDecl) (text : List ℕ) (valid : ℕ) → valid ≡ utf8_valid_len text → valid < length text
    → IsRefused collations columns text NotUtf8 valid
no_text collations columns text valid e h =
    let bad : is_no_text text ≡ true = grind (arith, nat_tests) in
    record { no_place = λ f. absurd cc; cause = λ f. rw bad (refl, e) }

-- the fault of the record behind those that were taken
fault_behind : (collations : List CollDecl) (columns : List ColumnDecl) (taken : List Record) (count : ℕ) (fields : Record) (fault : RowsFault) → count ≡ length taken
    → IsTold collations columns count fields fault → fault.kind ≢ NoMemory → fault_of collations columns taken fields ≡ Some (record { kind = fault.kind; at = fault.at })
fault_behind collations columns taken count fields fault e told h =
    let place : fault.at ≡ length taken + 1 = told.place ∙ place_of fault.kind (count + 1) h ∙ ap (λ n. n + 1) e in
    let kind : kind_of_fault collations columns (length taken) fields ≡ Some fault.kind = ap (λ n. kind_of_fault collations columns n fields) (sym e) ∙ told.cause h in
    ap (option_map (λ kind. record { kind = kind; at = length taken + 1 })) kind ∙ ap (λ n. Some (record { kind = fault.kind; at = n })) (sym place)

module _ {R : Type 0} (rem : R → Option (List ℕ)) (collations : List CollDecl) (columns : List ColumnDecl) (text : List ℕ) (a b : Reader R) (fields : Record) (rows : List (List Value)) where
  first_told : (fault : RowsFault) → IsReading rem collations columns text a rows → ReadRecord rem a b true fields → IsTold collations columns (length rows) fields fault → fault.kind ≢ NoMemory
      → IsFirstFault (fault_of collations columns) (records_of text) (record { kind = fault.kind; at = fault.at })
  first_told fault reading r told h =
      let m = reader_more rem a b fields reading.left reading.configured reading.source r in
      let read = read_more text a.state reading.left reading.taken (fields, b.state, m.0) reading.read m.2 in
      let count : length rows ≡ length reading.taken = ap length reading.loaded.are ∙ length-map reading.taken (row_in collations columns) in
      let after = records_from default_config read.fuel b.state m.0 in
      let whole : reading.taken ++ fields ∷ after ≡ records_of text = sym (append_assoc reading.taken (fields ∷ []) after) ∙ sym read.split in
      subst (λ records. IsFirstFault (fault_of collations columns) records (record { kind = fault.kind; at = fault.at })) whole
      (first_fault-behind (fault_of collations columns) reading.taken fields after (record { kind = fault.kind; at = fault.at }) reading.loaded.no_fault
      (fault_behind collations columns reading.taken (length rows) fields fault count told h))

  -- The record that was read behind these is refused.
  pub refused_next : (fault : RowsFault) → IsUtf8 text → IsReading rem collations columns text a rows → ReadRecord rem a b true fields
      → IsTold collations columns (length rows) fields fault → IsRefused collations columns text fault.kind fault.at
  refused_next fault u reading r told = record {
    no_place = λ e. told.place ∙ ap (λ kind. place_told kind (length rows + 1)) e;
    cause = λ h. rw (is_text text u) (first_told fault reading r told h);
  }
