-- What the files of a catalog's collations give: the meanings of all, or the first refusal.
use Rattle.std.specs.Prelude.{ℕ, Bool, true, false, IsTrue, ◌&&◌, List, [], ◌∷◌}
use Rattle.std.specs.Prelude.{◌++◌, Option, Some, None, is_none, Result, Ok, Err}
use Rattle.std.specs.Prelude.{map, drop, codes}
use Rattle.std.specs.Result.{result_map_both}
use Rattle.mc_base.specs.FileOutcome.{file_outcome, file_refusal}
use Rattle.mc_base.specs.Results.{result_and_then}
use Rattle.mc_base.specs.declared.refusal.FileRefusal.{FileRefusal}
use Rattle.mc_book.specs.UcaOutcome.{uca_kind, uca_outcome}
use Rattle.mc_catalog.specs.Limits.{built_in_count}
use Rattle.mc_catalog.specs.declared.catalog.CollDecl.{CollDecl}
use Rattle.mc_catalog.specs.declared.catalog.Kind.{Kind}
use Rattle.mc_catalog.specs.declared.catalog.Kind.TheVariants.{Bin, Table8, General}
use Rattle.mc_order.specs.Bin.{bin_meaning, built_in}
use Rattle.mc_order.specs.Meaning.{Meaning}
use Rattle.mc_table8.specs.GeneralMeaning.{weights_meaning}
use Rattle.mc_table8.specs.Table8Meaning.{entries_meaning}
use Rattle.mc_table8.specs.declared.fault.TableFault.{TableFault}
use Rattle.mc_table8.specs.declared.fault.TableFault.TheVariants.{BadLine, Repeated, Missing}
use Rattle.mc_table8.specs.declared.fault.TableFault.TheVariants.{NoMemory}
use Rattle.mc_table8.specs.Outcome.{table8_outcome, general_outcome}

-- Whether the weights of a kind are read from a file.
abbrev pub has_table : Kind → Bool
has_table Bin = false
has_table _ = true

-- Whether a declared collation is built: its weights are read from a file and not tailored.
unfoldable pub is_built_collation : CollDecl → Bool
is_built_collation declared = has_table declared.kind && is_none declared.rules

-- A declared collation is built.
abbrev pub IsBuilt : CollDecl → Type 0
IsBuilt declared = IsTrue (is_built_collation declared)

-- The refusal of a table's file by its fault; want of memory is none that a text has.
abbrev pub table_refusal : List ℕ → TableFault → FileRefusal
table_refusal name (BadLine line) = file_refusal name (codes "BadLine") line
table_refusal name (Repeated line) = file_refusal name (codes "Repeated") line
table_refusal name (Missing byte) = file_refusal name (codes "Missing") byte
table_refusal name NoMemory = file_refusal name (codes "NoMemory") 0

-- What a table of bytes means for a declared collation, or the refusal of its file.
abbrev pub bytes_outcome : CollDecl → List ℕ → Result Meaning FileRefusal
bytes_outcome declared text =
    result_map_both (entries_meaning declared.charset) (table_refusal declared.file)
    (table8_outcome text)

-- What a table of code points means for a declared collation, or the refusal of its file.
abbrev pub codes_outcome : CollDecl → List ℕ → Result Meaning FileRefusal
codes_outcome declared text =
    result_map_both (weights_meaning declared.charset) (table_refusal declared.file)
    (general_outcome text)

-- What a declared collation of another kind means by its file; one without a file is refused.
abbrev pub weights_outcome : (List ℕ → Option (List ℕ)) → CollDecl
    → Result Meaning FileRefusal
weights_outcome files declared = elim declared.kind [
  | Table8 ↦ result_and_then (bytes_outcome declared) (file_outcome files declared.file)
  | General ↦ result_and_then (codes_outcome declared) (file_outcome files declared.file)
  | _ ↦ Err (file_refusal declared.file (codes "NotBuilt") 0)
]

-- What a declared collation means by the files of its kind, or the first refusal among them.
unfoldable pub declared_outcome : (List ℕ → Option (List ℕ)) → CollDecl
    → Result Meaning FileRefusal
declared_outcome files declared = elim (uca_kind declared.kind) [
  | Some kind ↦ uca_outcome files declared kind
  | None ↦ weights_outcome files declared
]

-- All values, or the first error.
abbrev pub all_or_first : {T E : Type 0} → List (Result T E) → Result (List T) E
all_or_first [] = Ok []
all_or_first (Ok value ∷ results) =
    result_map_both (λ values. value ∷ values) (λ error. error) (all_or_first results)
all_or_first (Err error ∷ results) = Err error

-- Some values and all those behind them, or the first error.
abbrev pub behind_outcome : {T E : Type 0} → List T → List (Result T E) → Result (List T) E
behind_outcome values results =
    result_map_both (λ more. values ++ more) (λ error. error) (all_or_first results)

-- The meanings of a catalog's collations: the built-in ones, then those declared, or the first
-- refusal.
unfoldable pub book_outcome : (List ℕ → Option (List ℕ)) → List CollDecl
    → Result (List Meaning) FileRefusal
book_outcome files collations =
    behind_outcome (map bin_meaning built_in)
    (map (declared_outcome files) (drop built_in_count collations))
