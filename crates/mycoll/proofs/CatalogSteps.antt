-- What a catalog's text gives, by what its reader says.
use Rattle.std.proofs.Common.{arith, ◌≡◌, ◌≢◌, ◌↔◌, Bool, true, false, List, Option, Some, None, Result, Ok, Err, drop, refl, sym, ap, ◌∙◌}
use Rattle.std.specs.Prelude.{IsTrue, ℕ, All, if◌then◌else◌, codes}
use Rattle.std.specs.List.{list_all}
use Rattle.std.specs.Result.{result_map_both}
use Rattle.std.proofs.lemmas.List.Sums.{list_all-from_AllPass, AllPass-from_list_all}
use Rattle.std.proofs.lemmas.Result.{IfOk-at_ok}
use Rattle.mc_base.specs.FileOutcome.{HasOutcome, IsRefusedAs, file_outcome, file_refusal}
use Rattle.mc_base.specs.Results.{result_and_then}
use Rattle.mc_base.specs.declared.file.FileFault.{FileFault}
use Rattle.mc_base.specs.declared.file.FileFault.TheVariants.{Refused, Fault, NoMemory as OutOfMemory}
use Rattle.mc_base.specs.declared.refusal.FileRefusal.{FileRefusal}
use Rattle.mc_book.specs.BookOutcome.{IsBuilt, is_built_collation}
use Rattle.mc_catalog.specs.BuiltIn.{plain}
use Rattle.mc_catalog.specs.Limits.{built_in_count}
use Rattle.mc_catalog.specs.Outcome.{catalog_outcome}
use Rattle.mc_catalog.specs.declared.catalog.Catalog.{Catalog}
use Rattle.mc_catalog.specs.declared.catalog.CollDecl.{CollDecl}
use Rattle.mc_catalog.specs.declared.fault.CatalogFault.{CatalogFault}
use Rattle.mc_catalog.specs.declared.fault.CatalogFaultKind.TheVariants.{NoMemory}
use Rattle.mycoll.specs.Outcome.{is_built_catalog, built_outcome, catalog_refusal, built_catalog, named_catalog}

of_tests : (declared : List CollDecl) (b : Bool) → (IsTrue b ↔ All IsBuilt declared)
    → b ≡ list_all (λ one. is_built_collation one) declared
of_tests declared true h =
    sym (list_all-from_AllPass (λ (one : CollDecl). is_built_collation one) declared (h.0 refl))
of_tests declared false h = of (list_all (λ one. is_built_collation one) declared) refl
  where
    of : (c : Bool) → list_all (λ one. is_built_collation one) declared ≡ c → false ≡ list_all (λ one. is_built_collation one) declared
    of true e = let one : IsTrue false =
        h.1 (AllPass-from_list_all (λ (one : CollDecl). is_built_collation one) declared e) in cc
    of false e = sym e

-- All collations are built.
pub built_then : (catalog : Catalog) (b : Bool) → (IsTrue b ↔ All IsBuilt (drop 9 catalog.collations))
    → b ≡ is_built_catalog catalog
built_then catalog b h = of_tests (drop 9 catalog.collations) b h

-- What comes of what the reader gives.
abbrev built_of : List ℕ → Result Catalog CatalogFault → Result Catalog FileRefusal
built_of name read =
    result_and_then (built_outcome name) (result_map_both (λ catalog. catalog) (catalog_refusal name) read)

-- An accepted text gives its catalog, if that is built.
pub accepted_outcome : (name text : List ℕ) (catalog : Catalog) → catalog_outcome text ≡ Ok catalog
    → built_catalog name text ≡ built_outcome name catalog
unfolding built_catalog
accepted_outcome name text catalog e = ap (built_of name) e

refusal_apart : (refusal : FileRefusal) → Refused refusal ≢ OutOfMemory
refusal_apart refusal e = cc

-- A refused text has its fault as its outcome.
pub refused_told : (name text : List ℕ) (fault : CatalogFault) (answer : FileFault)
    → (fault.kind ≢ NoMemory → catalog_outcome text ≡ Err fault) → IsRefusedAs answer (catalog_refusal name fault)
    → (fault.kind ≡ NoMemory → answer ≡ OutOfMemory)
    → HasOutcome {T = Catalog} {U = Catalog} (λ catalog. catalog) (Err answer) (built_catalog name text)
unfolding built_catalog
refused_told name text fault (Refused refusal) h r m =
    ap (built_of name) (h (λ e. refusal_apart refusal (m e))) ∙ ap (λ x. Err x) r
refused_told name text fault Fault h r m = absurd r
refused_told name text fault OutOfMemory h r m = tt

-- A catalog declares built kinds alone.
abbrev AllBuilt : Catalog → Type 0
AllBuilt catalog = All IsBuilt (drop built_in_count catalog.collations)

built_from : (name : List ℕ) (read catalog : Catalog) → built_outcome name read ≡ Ok catalog → AllBuilt catalog
built_from name read catalog e = of (is_built_catalog read) refl e
  where
    of : (b : Bool) → is_built_catalog read ≡ b → (if b then Ok read else Err (file_refusal name (codes "NotBuilt") 0)) ≡ Ok catalog
        → AllBuilt catalog
    of true b e = IfOk-at_ok AllBuilt e
        (AllPass-from_list_all (λ (declared : CollDecl). is_built_collation declared) (drop built_in_count read.collations) b)
    of false b e = cc

built_read : (name : List ℕ) (read : Result Catalog CatalogFault) (catalog : Catalog) → built_of name read ≡ Ok catalog
    → AllBuilt catalog
built_read name (Ok read) catalog e = built_from name read catalog e
built_read name (Err fault) catalog e = cc

built_file : (name : List ℕ) (read : Result (List ℕ) FileRefusal) (catalog : Catalog)
    → result_and_then (built_catalog name) read ≡ Ok catalog → AllBuilt catalog
unfolding built_catalog
built_file name (Ok text) catalog e = built_read name (catalog_outcome text) catalog e
built_file name (Err refusal) catalog e = cc

none_declared : AllBuilt plain
none_declared k declared l = absurd (omega arith)

-- What a run accepts as its catalog declares built kinds alone.
pub built_only : (files : List ℕ → Option (List ℕ)) (name : Option (List ℕ)) (catalog : Catalog)
    → named_catalog files name ≡ Ok catalog → AllBuilt catalog
unfolding named_catalog
built_only files None catalog e = IfOk-at_ok AllBuilt e none_declared
built_only files (Some name) catalog e = built_file name (file_outcome files name) catalog e
