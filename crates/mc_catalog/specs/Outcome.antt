-- What the text of a catalog gives: the catalog, or its first fault.
use Rattle.std.specs.Prelude.{ℕ, List, Option, Some, None, Result, Ok, Err, option_map}
use Rattle.std.specs.Prelude.{option_and_then, slice_get}
use Rattle.std.specs.Option.{option_or}
use Rattle.mc_base.specs.FirstFault.{first_fault}
use Rattle.mc_base.specs.Lines.{lines_of}
use Rattle.mc_catalog.specs.CatalogFaults.{fault_of, bare_place}
use Rattle.mc_catalog.specs.Progress.{Progress, said_by, tables_of, catalog_of}
use Rattle.mc_catalog.specs.declared.catalog.Catalog.{Catalog}
use Rattle.mc_catalog.specs.declared.fault.CatalogFault.{CatalogFault}
use Rattle.mc_catalog.specs.declared.fault.CatalogFaultKind.TheVariants.{NoColumn}

-- The first table without a column, as a fault at the line that begins it.
abbrev pub bare_fault : Progress → Option CatalogFault
bare_fault said =
    option_map (λ number. record { kind = NoColumn; line = number })
    (option_and_then (slice_get said.table_lines) (bare_place (tables_of said)))

-- The fault of a catalog's lines: the first one of a line, else that of their end.
abbrev pub catalog_fault : List (ℕ × List ℕ) → Option CatalogFault
catalog_fault lines = option_or (first_fault fault_of lines) (bare_fault (said_by lines))

-- What lines give, by their fault.
abbrev pub lines_outcome : List (ℕ × List ℕ) → Option CatalogFault → Result Catalog CatalogFault
lines_outcome lines None = Ok (catalog_of (said_by lines))
lines_outcome lines (Some fault) = Err fault

-- The catalog that a text says, or its first fault.
unfoldable pub catalog_outcome : List ℕ → Result Catalog CatalogFault
catalog_outcome text = lines_outcome (lines_of text) (catalog_fault (lines_of text))
