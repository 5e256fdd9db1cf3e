-- The rows of tables, read from one file behind the other.
use Rattle.std.proofs.Common.{◌≡◌, ◌≢◌, ℕ, ◌+◌, ◌<◌, ◌≤◌, List, [], ◌∷◌, ◌++◌, length, take, drop, map, get_or, Option, Some, None, IfSome, Result, Ok, Err, append_assoc, append-nil, zero, refl, sym, ap, ◌∙◌, subst, suc, arith}
use Rattle.std.specs.List.{AllZip}
use Rattle.std.specs.Result.{result_map_both}
use Rattle.std.proofs.Math.Seq.{take-suc}
use Rattle.std.proofs.lemmas.List.{drop_more}
use Rattle.std.proofs.lemmas.Slice.Zip.{all_zipped_more}
use Rattle.mc_base.specs.FileOutcome.{HasOutcome, IsRefusedAs}
use Rattle.mc_base.specs.declared.file.FileFault.{FileFault}
use Rattle.mc_base.specs.declared.file.FileFault.TheVariants.{Refused, Fault, NoMemory as OutOfMemory}
use Rattle.mc_base.specs.declared.refusal.FileRefusal.{FileRefusal}
use Rattle.mc_book.specs.BookOutcome.{all_or_first, behind_outcome}
use Rattle.mc_catalog.specs.declared.catalog.Catalog.{Catalog}
use Rattle.mc_catalog.specs.declared.catalog.TableDecl.{TableDecl}
use Rattle.mc_rows.specs.Outcome.{rows_outcome}
use Rattle.mc_rows.specs.declared.fault.RowsFault.{RowsFault}
use Rattle.mc_rows.specs.declared.fault.RowsFaultKind.TheVariants.{NoMemory}
use Rattle.mycoll.specs.Tables.{rows_refusal, table_rows, tables_outcome, text_rows}
use Rattle.mycoll.specs.World.{Rows}

-- What is told before and what is told now, together.
pub told_both : {X : Type 0} (P Q R : X → Type 0) (before now : Option X) → now ≡ before → IfSome before P → IfSome now Q
    → ((x : X) → P x → Q x → R x) → IfSome before R
told_both P Q R None now e p q f = tt
told_both P Q R (Some x) now e p q f = f x p (subst (λ o. IfSome o Q) e q)

moved : {T E : Type 0} (values : List T) (value : T) (more : Result (List T) E)
    → result_map_both (λ more. (values ++ value ∷ []) ++ more) (λ error. error) more
    ≡ result_map_both (λ more. values ++ more) (λ error. error) (result_map_both (λ more. value ∷ more) (λ error. error) more)
moved values value (Ok more) = ap (λ z. Ok z) (append_assoc values (value ∷ []) more)
moved values value (Err error) = refl

-- One more value moves the first of the results that are left before them.
behind_more : {T E : Type 0} (values : List T) (value : T) (rest : List (Result T E))
    → behind_outcome (values ++ value ∷ []) rest ≡ behind_outcome values (Ok value ∷ rest)
behind_more values value rest = moved values value (all_or_first rest)

-- Before none there are all.
pub behind_first : {T E : Type 0} (results : Result (List T) E)
    → result_map_both (λ more. [] ++ more) (λ error. error) results ≡ results
behind_first (Ok values) = refl
behind_first (Err error) = refl

-- Before the first table there are no rows.
pub none_told : (told : Option (List ℕ → Option (List ℕ))) (catalog : Catalog) (rows : List Rows) → rows ≡ []
    → IfSome told (λ files. behind_outcome rows (map (table_rows files catalog) catalog.tables) ≡ tables_outcome files catalog)
unfolding tables_outcome
none_told None catalog rows e = tt
none_told (Some files) catalog rows e =
    ap (λ (z : List Rows). behind_outcome z (map (table_rows files catalog) catalog.tables)) e
    ∙ behind_first (all_or_first (map (table_rows files catalog) catalog.tables))

left_tables : (f : TableDecl → Result Rows FileRefusal) (ds : List TableDecl) (i : ℕ) (d : TableDecl) → i < length ds → d ≡ get_or ds i d
    → map f (drop i ds) ≡ f d ∷ map f (drop (i + 1) ds)
left_tables f ds i d h e = ap (map f) (drop_more ds i d h ∙ ap (λ z. z ∷ drop (i + 1) ds) (sym e))

-- The rows of one more table.
pub one_more_table : (f : TableDecl → Result Rows FileRefusal) (all : Result (List Rows) FileRefusal) (before : List Rows) (rows : Rows) (ds : List TableDecl) (i : ℕ) (d : TableDecl)
    → i < length ds → d ≡ get_or ds i d → behind_outcome before (map f (drop i ds)) ≡ all → HasOutcome (λ (r : Rows). r) (Ok rows) (f d)
    → behind_outcome (before ++ rows ∷ []) (map f (drop (i + 1) ds)) ≡ all
one_more_table f all before rows ds i d h there so_far here =
    behind_more before rows (map f (drop (i + 1) ds))
    ∙ ap (λ r. behind_outcome before (r ∷ map f (drop (i + 1) ds))) (sym here)
    ∙ ap (behind_outcome before) (sym (left_tables f ds i d h there)) ∙ so_far

stop_at : (f : TableDecl → Result Rows FileRefusal) (all : Result (List Rows) FileRefusal) (before : List Rows) (ds : List TableDecl) (i : ℕ) (d : TableDecl) (refusal : FileRefusal)
    → i < length ds → d ≡ get_or ds i d → behind_outcome before (map f (drop i ds)) ≡ all → f d ≡ Err refusal → all ≡ Err refusal
stop_at f all before ds i d refusal h there so_far here =
    sym so_far ∙ ap (behind_outcome before) (left_tables f ds i d h there)
    ∙ ap (λ r. behind_outcome before (r ∷ map f (drop (i + 1) ds))) here

-- The first table whose file is refused, or can't be read.
pub stopped_table : {T : Type 0} (seen : T → List Rows) (f : TableDecl → Result Rows FileRefusal) (all : Result (List Rows) FileRefusal) (before : List Rows) (ds : List TableDecl) (i : ℕ) (d : TableDecl) (fault : FileFault)
    → i < length ds → d ≡ get_or ds i d → behind_outcome before (map f (drop i ds)) ≡ all → HasOutcome (λ (r : Rows). r) (Err fault) (f d)
    → HasOutcome seen (Err fault) all
stopped_table seen f all before ds i d (Refused refusal) h there so_far here =
    stop_at f all before ds i d refusal h there so_far here
stopped_table seen f all before ds i d Fault h there so_far here = tt
stopped_table seen f all before ds i d OutOfMemory h there so_far here = tt

drop_end : {T : Type 0} (xs : List T) (i : ℕ) → length xs ≤ i → drop i xs ≡ []
drop_end [] zero h = refl
drop_end [] (suc i) h = refl
drop_end (x ∷ xs) zero h = absurd (omega arith)
drop_end (x ∷ xs) (suc i) h = drop_end xs i (omega arith)

-- Where no table is left, these are the rows of all.
pub all_tables : (f : TableDecl → Result Rows FileRefusal) (all : Result (List Rows) FileRefusal) (rows : List Rows) (ds : List TableDecl) (i : ℕ)
    → length ds ≤ i → behind_outcome rows (map f (drop i ds)) ≡ all → all ≡ Ok rows
all_tables f all rows ds i h so_far =
    sym so_far ∙ ap (λ (z : List TableDecl). behind_outcome rows (map f z)) (drop_end ds i h)
    ∙ ap (λ (z : List Rows). Ok z) (append-nil rows)

-- One more table has its rows.
pub more_rows : (P : TableDecl → Rows → Type 0) (ds : List TableDecl) (before : List Rows) (i : ℕ) (d : TableDecl) (rows : Rows)
    → i < length ds → d ≡ get_or ds i d → AllZip P (take i ds) before → P d rows → AllZip P (take (i + 1) ds) (before ++ rows ∷ [])
more_rows P ds before i d rows h there so_far here =
    let step : i + 1 ≡ suc i = omega arith in
    let next : take (i + 1) ds ≡ take i ds ++ d ∷ []
    = ap (λ n. take n ds) step ∙ take-suc ds i d h ∙ ap (λ x. take i ds ++ x ∷ []) (sym there) in
    subst (λ (z : List TableDecl). AllZip P z (before ++ rows ∷ [])) (sym next)
    (all_zipped_more P (take i ds) before d rows so_far here)

refusal_apart : (refusal : FileRefusal) → Refused refusal ≢ OutOfMemory
refusal_apart refusal e = cc

-- A refused text has its fault as its outcome.
pub refused_rows : (catalog : Catalog) (table : TableDecl) (text : List ℕ) (fault : RowsFault) (answer : FileFault)
    → (fault.kind ≢ NoMemory → rows_outcome catalog.collations table.columns text ≡ Err fault)
    → IsRefusedAs answer (rows_refusal table.file fault) → (fault.kind ≡ NoMemory → answer ≡ OutOfMemory)
    → HasOutcome {T = Rows} {U = Rows} (λ rows. rows) (Err answer) (text_rows catalog table text)
unfolding text_rows
refused_rows catalog table text fault (Refused refusal) h r m =
    ap (result_map_both (λ rows. rows) (rows_refusal table.file)) (h (λ e. refusal_apart refusal (m e))) ∙ ap (λ x. Err x) r
refused_rows catalog table text fault Fault h r m = absurd r
refused_rows catalog table text fault OutOfMemory h r m = tt

-- An accepted text gives its rows.
pub accepted_rows : (catalog : Catalog) (table : TableDecl) (text : List ℕ) (rows : Rows)
    → rows_outcome catalog.collations table.columns text ≡ Ok rows → text_rows catalog table text ≡ Ok rows
unfolding text_rows
accepted_rows catalog table text rows e = ap (result_map_both (λ rows. rows) (rows_refusal table.file)) e
