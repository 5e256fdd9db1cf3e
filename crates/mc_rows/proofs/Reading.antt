-- The records of a text, read one after the other.
use Rattle.std.proofs.Common.{◌≡◌, ℕ, zero, suc, ◌+◌, ◌<◌, true, false, List, [], ◌∷◌, ◌++◌, length, Option, Some, None, Ok, ◌⊎◌, inl, inr, refl, sym, ap, subst, ◌∙◌, append_assoc, arith}
use Rattle.std.proofs.lemmas.List.{append-nil, map-append, length-map, length-append}
use Rattle.std.proofs.lemmas.List.Elements.{All-nil, All-append, All-cons}
use Rattle.std.proofs.lemmas.Option.{none-some}
use Rattle.std.specs.Prelude.{option_map}
use Rattle.std.specs.Result.{result_unwrap_or}
use Rattle.csv.specs.Machine.{Read, next_record}
use Rattle.csv.specs.Reading.{Reached, ReadRecord, Ready, default_config, reader_config, reader_state, reader_trim, records_from, source_of, strip_bom, took_first}
use Rattle.csv.specs.declared.parser.State.{State}
use Rattle.csv.specs.declared.parser.State.TheVariants as st
use Rattle.csv.specs.declared.reader.Reader.{Reader}
use Rattle.csv.specs.declared.reader.Trim.TheVariants as trim
use Rattle.csv.proofs.ReadFacts.{rows-end, rows-more}
use Rattle.mc_base.proofs.FirstFaultLemmas.{no_fault-none, no_fault-more}
use Rattle.mc_catalog.specs.declared.catalog.CollDecl.{CollDecl}
use Rattle.mc_catalog.specs.declared.catalog.ColumnDecl.{ColumnDecl}
use Rattle.mc_values.specs.declared.value.Value.{Value}
use Rattle.mc_rows.specs.Records.{Record, records_of, row_of, row_in, kind_of_fault, fault_of, most_rows, IsOfColumns}
use Rattle.mc_rows.specs.Told.{AreLoaded, AreTexts, IsAdded}
use Rattle.mc_rows.proofs.Utf8Records.{IsCalm, IsText, record_texts, record_shorter, none_behind, unmarked_text}
use Rattle.std.proofs.lemmas.Bool.Decides.{nat_tests}
use Rattle.std.specs.Prelude.{nat_le}

-- Of the records of a text these were taken, and this state and these bytes are left.
pub record HasRead (text : List ℕ) (state : State) (left : List ℕ) (taken : List Record) : Type 0 where
  pub fuel : ℕ
  pub split : records_of text ≡ taken ++ records_from default_config fuel state left
  pub enough : (length left < fuel) ⊎ (next_record default_config state [] [] left ≡ None)
  pub calm : IsCalm state
  pub its_text : IsText left

pub read_none : (text : List ℕ) → IsText text → HasRead text st.StartRecord (strip_bom text) []
read_none text t = record {
  fuel = length (strip_bom text) + 1;
  split = refl;
  enough = inl (omega arith);
  calm = tt;
  its_text = unmarked_text text t;
}

-- the next record is the first of those that are left
next_first : (fuel : ℕ) (state : State) (left : List ℕ) (q : Read) → next_record default_config state [] [] left ≡ Some q
    → records_from default_config (suc fuel) state left ≡ q.0 ∷ records_from default_config fuel q.1 q.2
unfolding records_from
next_first fuel state left q e = rw e refl

next_none : (fuel : ℕ) (state : State) (left : List ℕ) → next_record default_config state [] [] left ≡ None
    → records_from default_config fuel state left ≡ []
unfolding records_from
next_none zero state left e = refl
next_none (suc fuel) state left e = rw e refl

still_enough : (fuel : ℕ) (state : State) (left : List ℕ) (q : Read) → length left < suc fuel → next_record default_config state [] [] left ≡ Some q
    → (length q.2 < fuel) ⊎ (next_record default_config q.1 [] [] q.2 ≡ None)
still_enough fuel state [] q h e = inr (none_behind state [] [] q e)
still_enough fuel state (c ∷ rest) q h e = let less = record_shorter state [] [] rest c q e in inl (omega (arith, less, h))

some_fuel : (fuel : ℕ) (state : State) (left : List ℕ) (q : Read) → (length left < fuel) ⊎ (next_record default_config state [] [] left ≡ None)
    → next_record default_config state [] [] left ≡ Some q → (n : ℕ) × (fuel ≡ suc n) × (length left < suc n)
some_fuel zero state left q (inl h) e = absurd (omega (arith, h))
some_fuel (suc n) state left q (inl h) e = (n, refl, h)
some_fuel fuel state left q (inr none) e = absurd (none-some q (sym none ∙ e))

pub read_more : (text : List ℕ) (state : State) (left : List ℕ) (taken : List Record) (q : Read) → HasRead text state left taken
    → next_record default_config state [] [] left ≡ Some q → HasRead text q.1 q.2 (taken ++ q.0 ∷ [])
read_more text state left taken q read e =
    let some = some_fuel read.fuel state left q read.enough e in
    let texts = record_texts state [] [] left q read.calm tt read.its_text e in record {
      fuel = some.0;
      split = read.split ∙ ap (λ n. taken ++ records_from default_config n state left) some.1
          ∙ ap (λ more. taken ++ more) (next_first some.0 state left q e)
          ∙ sym (append_assoc taken (q.0 ∷ []) (records_from default_config some.0 q.1 q.2));
      enough = still_enough some.0 state left q some.2 e;
      calm = texts.2;
      its_text = texts.1;
    }

pub read_all : (text : List ℕ) (state : State) (left : List ℕ) (taken : List Record) → HasRead text state left taken
    → next_record default_config state [] [] left ≡ None → records_of text ≡ taken
read_all text state left taken read e =
    read.split ∙ ap (λ more. taken ++ more) (next_none read.fuel state left e) ∙ append-nil taken

-- What a reader's step says

made : (p : Read) (f : Record) (s : State) (z : List ℕ) → f ≡ p.0 → p.1 ≡ s → p.2 ≡ z → Some p ≡ Some (f, s, z)
made p f s z e g h = rw (e, ← g, ← h) refl

pub reader_more : {R : Type 0} (rem : R → Option (List ℕ)) (a b : Reader R) (f : Record) (y : List ℕ) → a.config ≡ default_config
    → source_of rem a ≡ Some y → ReadRecord rem a b true f
    → (z : List ℕ) × (source_of rem b ≡ Some z) × (next_record default_config a.state [] [] y ≡ Some (f, b.state, z))
unfolding Reached
reader_more rem a b f y ec ex r =
    let m = rows-more rem a b f default_config a.state y y [] ec ex (refl, refl) r in
    let g = m.2 in
    (m.0, m.1, g.1 ∙ made g.0 f b.state m.0 g.2 g.3.0 g.3.1)

-- Rows of records

-- A reader of this text has read these rows.
pub record IsReading {R : Type 0} (rem : R → Option (List ℕ)) (collations : List CollDecl) (columns : List ColumnDecl) (text : List ℕ) (reader : Reader R) (rows : List (List Value)) : Type 0 where
  pub untrimmed : reader_trim reader ≡ trim.None
  pub is_ready : Ready reader
  pub configured : reader_config reader ≡ default_config
  pub left : List ℕ
  pub source : source_of rem reader ≡ Some left
  pub taken : List Record
  pub read : HasRead text (reader_state reader) left taken
  pub loaded : AreLoaded collations columns taken rows

pub loaded_none : (collations : List CollDecl) (columns : List ColumnDecl) → AreLoaded collations columns [] []
loaded_none collations columns = record {
  no_fault = no_fault-none (fault_of collations columns);
  are = refl;
  of_columns = All-nil (IsOfColumns collations columns);
  few = omega arith;
}

counted : (collations : List CollDecl) (columns : List ColumnDecl) (taken : List Record) (rows : List (List Value)) → AreLoaded collations columns taken rows → length rows ≡ length taken
counted collations columns taken rows loaded = ap length loaded.are ∙ length-map taken (row_in collations columns)

no_kind : (collations : List CollDecl) (columns : List ColumnDecl) (count : ℕ) (fields : Record) (row : List Value) → count < most_rows → row_of collations columns fields ≡ Ok row
    → kind_of_fault collations columns count fields ≡ None
no_kind collations columns count fields row room e =
    let some : nat_le most_rows count ≡ false = grind (arith, nat_tests) in
    rw (some, e) refl

pub loaded_more : (collations : List CollDecl) (columns : List ColumnDecl) (taken : List Record) (fields : Record) (rows new : List (List Value)) → AreLoaded collations columns taken rows
    → IsAdded collations columns fields rows new → AreLoaded collations columns (taken ++ fields ∷ []) new
loaded_more collations columns taken fields rows new loaded added =
    let count = counted collations columns taken rows loaded in
    let room : length taken < most_rows = omega (arith, added.room, count) in
    let none = no_kind collations columns (length taken) fields added.row room added.reads in
    let row_is : row_in collations columns fields ≡ added.row = ap (λ r. result_unwrap_or r []) added.reads in
    record {
      no_fault = no_fault-more (fault_of collations columns) taken fields loaded.no_fault (ap (option_map (λ kind. record { kind = kind; at = length taken + 1 })) none);
      are = added.added ∙ ap (λ r. rows ++ r ∷ []) (sym row_is) ∙ ap (λ front. front ++ row_in collations columns fields ∷ []) loaded.are ∙ sym (map-append (row_in collations columns) taken (fields ∷ []));
      of_columns = rw added.added (All-append (IsOfColumns collations columns) rows (added.row ∷ []) loaded.of_columns (All-cons (IsOfColumns collations columns) added.row [] added.of_columns (All-nil (IsOfColumns collations columns))));
      few = rw added.added (omega (arith, added.room, length-append rows (added.row ∷ [])));
    }

pub started : {R : Type 0} (rem : R → Option (List ℕ)) (collations : List CollDecl) (columns : List ColumnDecl) (text : List ℕ) (reader : Reader R) → IsText text → reader_trim reader ≡ trim.None → Ready reader
    → reader_config reader ≡ default_config → source_of rem reader ≡ Some (strip_bom text) → reader_state reader ≡ st.StartRecord → IsReading rem collations columns text reader []
started rem collations columns text reader t plain ready config source state = record {
  untrimmed = plain;
  is_ready = ready;
  configured = config;
  left = strip_bom text;
  source = source;
  taken = [];
  read = subst (λ s. HasRead text s (strip_bom text) []) (sym state) (read_none text t);
  loaded = loaded_none collations columns;
}

module _ {R : Type 0} (rem : R → Option (List ℕ)) (collations : List CollDecl) (columns : List ColumnDecl) (text : List ℕ) (a b : Reader R) (fields : Record) (rows : List (List Value)) where
  pub next_texts : IsReading rem collations columns text a rows → ReadRecord rem a b true fields → AreTexts fields
  next_texts reading r =
      let m = reader_more rem a b fields reading.left reading.configured reading.source r in
      (record_texts a.state [] [] reading.left (fields, b.state, m.0) reading.read.calm tt reading.read.its_text m.2).0

  pub next_row : (new : List (List Value)) → IsReading rem collations columns text a rows → ReadRecord rem a b true fields → took_first b ≡ true
      → IsAdded collations columns fields rows new → IsReading rem collations columns text b new
  next_row new reading r first added =
      let m = reader_more rem a b fields reading.left reading.configured reading.source r in record {
        untrimmed = r.3 ∙ reading.untrimmed;
        is_ready = inl first;
        configured = r.2 ∙ reading.configured;
        left = m.0;
        source = m.1;
        taken = reading.taken ++ fields ∷ [];
        read = read_more text a.state reading.left reading.taken (fields, b.state, m.0) reading.read m.2;
        loaded = loaded_more collations columns reading.taken fields rows new reading.loaded added;
      }

  pub no_next : IsReading rem collations columns text a rows → ReadRecord rem a b false fields → AreLoaded collations columns (records_of text) rows
  no_next reading r =
      let none = rows-end rem a b fields default_config reading.left reading.configured reading.source r in
      let all = read_all text a.state reading.left reading.taken reading.read none in
      subst (λ records. AreLoaded collations columns records rows) (sym all) reading.loaded
