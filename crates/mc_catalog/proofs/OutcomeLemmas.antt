-- What a catalog's reader says line by line is what the outcome of the text says.
use Rattle.std.proofs.Common.{◌≡◌, ◌≢◌, ◌≤◌, ◌<◌, ◌==◌, ℕ, zero, suc, false, List, [], ◌∷◌, length, get_or, Some, None, Result, Ok, Err, refl, ap, ◌∙◌, sym, subst, arith}
use Rattle.std.specs.List.{All, list_any}
use Rattle.std.specs.Option.{is_some}
use Rattle.std.proofs.lemmas.Bool.Decides.{nat_tests}
use Rattle.std.specs.Prelude.{MatchResult, IfOk, IfErr}
use Rattle.mc_base.specs.FirstFault.{first_fault}
use Rattle.mc_base.specs.Lines.{lines_of}
use Rattle.mc_base.proofs.FirstFaultLemmas.{first_fault-none, first_fault-some}
use Rattle.mc_catalog.specs.CatalogFaults.{fault_of, IsAccepted, IsRefused}
use Rattle.mc_catalog.specs.Outcome.{catalog_fault, lines_outcome, catalog_outcome}
use Rattle.mc_catalog.specs.Lawful.{IsLawful, IsLawfulSoFar}
use Rattle.mc_catalog.specs.Progress.{said_by, catalog_of, tables_of}
use Rattle.mc_catalog.proofs.Lists.{none_placed, or_false}
use Rattle.mc_catalog.specs.declared.catalog.TableDecl.{TableDecl}
use Rattle.mc_catalog.specs.declared.catalog.Catalog.{Catalog}
use Rattle.mc_catalog.specs.declared.fault.CatalogFault.{CatalogFault}
use Rattle.mc_catalog.specs.declared.fault.CatalogFaultKind.{CatalogFaultKind}
use Rattle.mc_catalog.specs.declared.fault.CatalogFaultKind.TheVariants.{BadLine, UnknownCharset, UnknownKind, WrongCharset, UnknownCollation, UnknownColumn, BadLength, Repeated, TooMany, NoColumn, NoMemory}

no_fault : (lines : List (ℕ × List ℕ)) → IsAccepted lines → catalog_fault lines ≡ None
no_fault lines h = rw (first_fault-none fault_of lines h.0, h.1) refl

by_line : (lines : List (ℕ × List ℕ)) (fault : CatalogFault) → first_fault fault_of lines ≡ Some fault → catalog_fault lines ≡ Some fault
by_line lines fault h = rw h refl

-- The fault that a refusal tells.
told_of : (lines : List (ℕ × List ℕ)) (kind : CatalogFaultKind) (number : ℕ) → IsRefused lines kind number → kind ≢ NoMemory
    → catalog_fault lines ≡ Some (record { kind = kind; line = number })
told_of lines BadLine number h m = by_line lines _ (first_fault-some fault_of lines _ h)
told_of lines UnknownCharset number h m = by_line lines _ (first_fault-some fault_of lines _ h)
told_of lines UnknownKind number h m = by_line lines _ (first_fault-some fault_of lines _ h)
told_of lines WrongCharset number h m = by_line lines _ (first_fault-some fault_of lines _ h)
told_of lines UnknownCollation number h m = by_line lines _ (first_fault-some fault_of lines _ h)
told_of lines UnknownColumn number h m = by_line lines _ (first_fault-some fault_of lines _ h)
told_of lines BadLength number h m = by_line lines _ (first_fault-some fault_of lines _ h)
told_of lines Repeated number h m = by_line lines _ (first_fault-some fault_of lines _ h)
told_of lines TooMany number h m = by_line lines _ (first_fault-some fault_of lines _ h)
told_of lines NoColumn number h m = rw (first_fault-none fault_of lines h.0, h.1.1, h.1.2) refl
told_of lines NoMemory number h m = absurd (m refl)

-- What the reader answers is the outcome of the text.
pub catalog_says : (text : List ℕ) (r : Result Catalog CatalogFault) → IfOk r (λ catalog. IsAccepted (lines_of text))
    → IfOk r (λ catalog. catalog ≡ catalog_of (said_by (lines_of text)))
    → IfErr r (λ fault. IsRefused (lines_of text) fault.kind fault.line)
    → MatchResult r (λ catalog. catalog_outcome text ≡ Ok catalog) (λ fault. fault.kind ≢ NoMemory → catalog_outcome text ≡ Err fault)
unfolding catalog_outcome
catalog_says text (Ok catalog) accepted value refused =
    ap (lines_outcome (lines_of text)) (no_fault (lines_of text) accepted) ∙ ap (λ c. Ok c) (sym value)
catalog_says text (Err fault) accepted value refused =
    λ m. ap (lines_outcome (lines_of text)) (told_of (lines_of text) fault.kind fault.line refused m)

has_column : (table : TableDecl) → (length table.columns == 0) ≡ false → 1 ≤ length table.columns
has_column table e = grind (arith, nat_tests)

-- Where no table is without a column, each has one.
columned : (tables : List TableDecl) → list_any (λ table. length table.columns == 0) tables ≡ false
    → (k : ℕ) (d : TableDecl) → k < length tables → 1 ≤ length (get_or tables k d).columns
columned [] e k d lt = absurd (omega arith)
columned (table ∷ tables) e zero d lt = has_column table (or_false _ _ e).0
columned (table ∷ tables) e (suc k) d lt = columned tables (or_false _ _ e).1 k d (omega arith)

-- What is read is lawful.
pub catalog_lawful : (text : List ℕ) (r : Result Catalog CatalogFault) → IfOk r (λ catalog. IsAccepted (lines_of text))
    → IfOk r (λ catalog. catalog ≡ catalog_of (said_by (lines_of text))) → IfOk r IsLawfulSoFar → IfOk r IsLawful
catalog_lawful text (Ok catalog) accepted value so_far = record {
  so_far = so_far;
  some_columns = subst (λ (c : Catalog). All (λ (table : TableDecl). 1 ≤ length table.columns) c.tables) (sym value)
      (columned (tables_of (said_by (lines_of text))) (none_placed _ (tables_of (said_by (lines_of text))) (ap is_some accepted.1)));
}
catalog_lawful text (Err fault) accepted value so_far = tt
