-- The outcome of the files: what is to be answered, or the first refusal.
use Rattle.std.specs.Prelude.{ℕ, Bool, List, ◌++◌, Option, Some, None}
use Rattle.std.specs.Prelude.{Result, Ok, Err, nat_lt, length, drop, if◌then◌else◌, codes, decimal}
use Rattle.std.specs.List.{list_all}
use Rattle.std.specs.Result.{result_map_both}
use Rattle.std.specs.Str.Lossy.{utf8_valid_len}
use Rattle.mc_base.specs.FileOutcome.{file_outcome, file_refusal}
use Rattle.mc_base.specs.Results.{result_and_then}
use Rattle.mc_base.specs.declared.refusal.FileRefusal.{FileRefusal}
use Rattle.mc_book.specs.BookOutcome.{is_built_collation, book_outcome}
use Rattle.mc_catalog.specs.BuiltIn.{plain}
use Rattle.mc_catalog.specs.Limits.{built_in_count}
use Rattle.mc_catalog.specs.Outcome.{catalog_outcome}
use Rattle.mc_catalog.specs.declared.catalog.Catalog.{Catalog}
use Rattle.mc_catalog.specs.declared.fault.CatalogFault.{CatalogFault}
use Rattle.mc_catalog.specs.declared.fault.CatalogFaultKind.{CatalogFaultKind}
use Rattle.mc_catalog.specs.declared.fault.CatalogFaultKind.TheVariants.{BadLine, UnknownCharset}
use Rattle.mc_catalog.specs.declared.fault.CatalogFaultKind.TheVariants.{UnknownKind, WrongCharset}
use Rattle.mc_catalog.specs.declared.fault.CatalogFaultKind.TheVariants.{UnknownCollation}
use Rattle.mc_catalog.specs.declared.fault.CatalogFaultKind.TheVariants.{UnknownColumn, BadLength}
use Rattle.mc_catalog.specs.declared.fault.CatalogFaultKind.TheVariants.{Repeated, TooMany}
use Rattle.mc_catalog.specs.declared.fault.CatalogFaultKind.TheVariants.{NoColumn, NoMemory}
use Rattle.mc_order.specs.Meaning.{Meaning}
use Rattle.mc_print.specs.Lines.{line}
use Rattle.mycoll.specs.Tables.{tables_outcome}
use Rattle.mycoll.specs.Words.{FileNames}
use Rattle.mycoll.specs.World.{Rows}

-- A script has to be UTF-8; the refusal tells how long its longest valid prefix is.
abbrev pub utf8_outcome : List ℕ → List ℕ → Result (List ℕ) FileRefusal
utf8_outcome name text =
    if nat_lt (utf8_valid_len text) (length text)
    then Err (file_refusal name (codes "NotUtf8") (utf8_valid_len text))
    else Ok text

-- The script of this name: there, at most 16,777,216 bytes long, and UTF-8.
unfoldable pub named_script : (List ℕ → Option (List ℕ)) → List ℕ → Result (List ℕ) FileRefusal
named_script files name = result_and_then (utf8_outcome name) (file_outcome files name)

-- The name of a catalog's fault.
abbrev pub fault_name : CatalogFaultKind → List ℕ
fault_name BadLine = codes "BadLine"
fault_name UnknownCharset = codes "UnknownCharset"
fault_name UnknownKind = codes "UnknownKind"
fault_name WrongCharset = codes "WrongCharset"
fault_name UnknownCollation = codes "UnknownCollation"
fault_name UnknownColumn = codes "UnknownColumn"
fault_name BadLength = codes "BadLength"
fault_name Repeated = codes "Repeated"
fault_name TooMany = codes "TooMany"
fault_name NoColumn = codes "NoColumn"
fault_name NoMemory = codes "NoMemory"

-- Every collation that the catalog declares is built: by its files, without rules.
abbrev pub is_built_catalog : Catalog → Bool
is_built_catalog catalog =
    list_all (λ declared. is_built_collation declared) (drop built_in_count catalog.collations)

-- An accepted catalog, or the refusal of what isn't built yet.
abbrev pub built_outcome : List ℕ → Catalog → Result Catalog FileRefusal
built_outcome name catalog =
    if is_built_catalog catalog then Ok catalog else Err (file_refusal name (codes "NotBuilt") 0)

-- The refusal of a catalog's file, by its fault.
abbrev pub catalog_refusal : List ℕ → CatalogFault → FileRefusal
catalog_refusal name fault = file_refusal name (fault_name fault.kind) fault.line

-- The catalog that a text says, or the refusal of its file.
unfoldable pub built_catalog : List ℕ → List ℕ → Result Catalog FileRefusal
built_catalog name text =
    result_and_then (built_outcome name)
    (result_map_both (λ catalog. catalog) (catalog_refusal name) (catalog_outcome text))

-- The catalog of this name, or the one without declarations where none is named.
unfoldable pub named_catalog : (List ℕ → Option (List ℕ)) → Option (List ℕ)
    → Result Catalog FileRefusal
named_catalog files None = Ok plain
named_catalog files (Some name) =
    result_and_then (built_catalog name) (file_outcome files name)

-- A catalog and a script, and what each collation of the catalog means.
pub record Opening : Type 0 where
  pub catalog : Catalog
  pub script : List ℕ
  pub meanings : List Meaning

-- A script and a catalog, with the book of its collations.
unfoldable pub with_book : (List ℕ → Option (List ℕ)) → Catalog → List ℕ
    → Result Opening FileRefusal
with_book files catalog script =
    result_and_then
    (λ meanings. Ok (record { catalog = catalog; script = script; meanings = meanings }))
    (book_outcome files catalog.collations)

-- A catalog, with a script and the book.
unfoldable pub with_script : (List ℕ → Option (List ℕ)) → List ℕ → Catalog
    → Result Opening FileRefusal
with_script files script catalog =
    result_and_then (with_book files catalog) (named_script files script)

-- The catalog and the script, then the files of the collations.
unfoldable pub opening_outcome : (List ℕ → Option (List ℕ)) → FileNames
    → Result Opening FileRefusal
opening_outcome files named =
    result_and_then (with_script files named.script) (named_catalog files named.catalog)

-- What is to be answered: a script, by a catalog, what its collations mean, and the rows of its
-- tables.
pub record Accepted : Type 0 where
  pub catalog : Catalog
  pub script : List ℕ
  pub meanings : List Meaning
  pub rows : List Rows

-- What was opened, with the rows of the tables.
abbrev pub accepted_with : Opening → List Rows → Accepted
accepted_with opening rows = record {
  catalog = opening.catalog;
  script = opening.script;
  meanings = opening.meanings;
  rows = rows;
}

-- A catalog and a script with the book, and the tables.
unfoldable pub with_tables : (List ℕ → Option (List ℕ)) → Opening → Result Accepted FileRefusal
with_tables files opening =
    result_and_then (λ rows. Ok (accepted_with opening rows))
    (tables_outcome files opening.catalog)

-- The files are taken in this order: the catalog, the script, the files of the collations, those of
-- the tables.
unfoldable pub files_outcome : (List ℕ → Option (List ℕ)) → FileNames → Result Accepted FileRefusal
files_outcome files named =
    result_and_then (with_tables files) (opening_outcome files named)

-- The line of a refused file.
abbrev pub refused_line : FileRefusal → List ℕ
refused_line r =
    codes "refused " ++ r.name ++ codes " " ++ r.fault ++ codes " " ++ line (decimal r.at)
