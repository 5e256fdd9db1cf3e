-- What a scan may leave out.
use Rattle.std.specs.Prelude.{◌≡◌, ℕ, Bool, false, List, [], All, filter}
use Rattle.mc_catalog.specs.declared.catalog.Catalog.{Catalog}
use Rattle.mc_eval.specs.Acceptance.{acceptance}
use Rattle.mc_eval.specs.Node.{place}
use Rattle.mc_eval.specs.declared.truth.Truth.TheVariants.{No}
use Rattle.mc_order.specs.Meaning.{Meaning}
use Rattle.mc_typing.specs.declared.typed.Typed.{Typed}
use Rattle.mc_values.specs.declared.value.Value.{Value}
use Rattle.mc_exec.specs.FullScan.{full_scan, kept_rows}

-- A row that isn't chosen is rejected, without a fault.
abbrev pub IsChosen : (ℕ → Meaning) → Typed → (List Value → Bool) → List Value → Type 0
IsChosen meaning q chosen row =
    chosen row ≡ false → acceptance (place row [] meaning) q.conjuncts ≡ No

-- Rows that WHERE rejects without a fault may be left out of the rows that are kept.
abbrev pub KeptFilter : Type 0
KeptFilter = (meaning : ℕ → Meaning) (q : Typed) (chosen : List Value → Bool)
    (rows : List (List Value)) → All (IsChosen meaning q chosen) rows
    → kept_rows meaning q (filter chosen rows) ≡ kept_rows meaning q rows

-- So they may be left out of a scan.
abbrev pub ScanFilter : Type 0
ScanFilter = (c : Catalog) (meaning : ℕ → Meaning) (q : Typed) (chosen : List Value → Bool)
    (rows : List (List Value)) → All (IsChosen meaning q chosen) rows
    → full_scan c meaning q (filter chosen rows) ≡ full_scan c meaning q rows
