-- What the file of a Unicode collation gives: its meaning, or the refusal of the file.
use Rattle.std.specs.Prelude.{ℕ, List, [], ◌∷◌, Option, Some, None, Result, Ok, Err, codes}
use Rattle.std.specs.Prelude.{if◌then◌else◌}
use Rattle.std.specs.Result.{result_map_both}
use Rattle.mc_allkeys.specs.KeysFile.{keys_outcome}
use Rattle.mc_allkeys.specs.Table.{ElementTable}
use Rattle.mc_allkeys.specs.declared.fault.KeysFault.{KeysFault}
use Rattle.mc_allkeys.specs.declared.fault.KeysFault.TheVariants.{BadLine, TooLongContraction}
use Rattle.mc_allkeys.specs.declared.fault.KeysFault.TheVariants.{TooManyElements, Repeated}
use Rattle.mc_allkeys.specs.declared.fault.KeysFault.TheVariants.{TooManyContractions, NoMemory}
use Rattle.mc_base.specs.FileOutcome.{file_outcome, file_refusal}
use Rattle.mc_base.specs.Results.{result_and_then}
use Rattle.mc_base.specs.declared.refusal.FileRefusal.{FileRefusal}
use Rattle.mc_catalog.specs.declared.catalog.CollDecl.{CollDecl}
use Rattle.mc_catalog.specs.declared.catalog.Kind.{Kind}
use Rattle.mc_catalog.specs.declared.catalog.Kind.TheVariants.{Uca400, Uca520}
use Rattle.mc_catalog.specs.declared.catalog.Kind.TheVariants.{Uca900AiCi, Uca900AsCi, Uca900AsCs}
use Rattle.mc_order.specs.Meaning.{Meaning}
use Rattle.mc_uca.specs.Kind.{pad_of}
use Rattle.mc_uca.specs.UcaMeaning.{space_fits, uca_meaning}
use Rattle.mc_uca.specs.Weighing.{uca_list}
use Rattle.mc_uca.specs.declared.kind.UcaKind.{UcaKind}
use Rattle.mc_uca.specs.declared.kind.UcaKind.TheVariants as uca

-- The kind of the Unicode collations of a kind, if it has them, by version and levels.
abbrev pub uca_kind : Kind → Option UcaKind
uca_kind Uca400 = Some uca.Uca4
uca_kind Uca520 = Some uca.Uca520
uca_kind Uca900AiCi = Some (uca.Uca9 1)
uca_kind Uca900AsCi = Some (uca.Uca9 2)
uca_kind Uca900AsCs = Some (uca.Uca9 3)
uca_kind _ = None

-- The refusal of an element table's file by its fault; want of memory is none that a text has.
abbrev pub keys_refusal : List ℕ → KeysFault → FileRefusal
keys_refusal name (BadLine line) = file_refusal name (codes "BadLine") line
keys_refusal name (TooLongContraction line) =
    file_refusal name (codes "TooLongContraction") line
keys_refusal name (TooManyElements line) = file_refusal name (codes "TooManyElements") line
keys_refusal name (Repeated line) = file_refusal name (codes "Repeated") line
keys_refusal name (TooManyContractions line) =
    file_refusal name (codes "TooManyContractions") line
keys_refusal name NoMemory = file_refusal name (codes "NoMemory") 0

-- What an element table means for a declared collation of this kind; or the refusal of its file,
-- where texts are padded with spaces and the space has not one weight.
abbrev pub keys_meaning : CollDecl → UcaKind → ElementTable → Result Meaning FileRefusal
keys_meaning declared kind table =
    if space_fits (pad_of kind) (uca_list declared.charset kind table 1 (0x20 ∷ []))
    then Ok (uca_meaning declared.charset kind table)
    else Err (file_refusal declared.file (codes "SpaceWeight") 0)

-- What the text of an element table means for a declared collation of this kind, or the refusal of
-- its file.
abbrev pub elements_outcome : CollDecl → UcaKind → List ℕ → Result Meaning FileRefusal
elements_outcome declared kind text =
    result_and_then (keys_meaning declared kind)
    (result_map_both (λ table. table) (keys_refusal declared.file) (keys_outcome text))

-- What a declared collation of this Unicode kind means by its file; one with rules is refused,
-- since tailoring is not built.
abbrev pub uca_outcome : (List ℕ → Option (List ℕ)) → CollDecl → UcaKind
    → Result Meaning FileRefusal
uca_outcome files declared kind = elim declared.rules [
  | None ↦ result_and_then (elements_outcome declared kind) (file_outcome files declared.file)
  | Some rules ↦ Err (file_refusal declared.file (codes "NotBuilt") 0)
]
