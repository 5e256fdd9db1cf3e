-- What a line of a catalog says: its fields, read as at most one entry.
use Rattle.std.specs.Prelude.{ℕ, Bool, false, ◌&&◌, List, [], ◌∷◌, codes, Option, None, Some}
use Rattle.std.specs.Prelude.{option_map, if◌then◌else◌}
use Rattle.std.specs.List.{list_all}
use Rattle.std.specs.Option.{option_and_then}
use Rattle.std.specs.Char.{is_ascii}
use Rattle.std.specs.Str.{bytes_eq}
use Rattle.mc_base.specs.Fields.{fields_of}
use Rattle.mc_charset.specs.Names.{set_named}
use Rattle.mc_catalog.specs.Words.{field_name, decimal_of, length_of, kind_of}
use Rattle.mc_catalog.specs.Limits.{longest_char, longest_varchar}
use Rattle.mc_catalog.specs.Lawful.{takes_rules}
use Rattle.mc_catalog.specs.declared.catalog.Kind.{Kind}
use Rattle.mc_catalog.specs.declared.catalog.ColumnType.TheVariants.{BigInt, Binary, VarBinary}
use Rattle.mc_catalog.specs.declared.entry.ColumnForm.{ColumnForm}
use Rattle.mc_catalog.specs.declared.entry.ColumnForm.TheVariants.{Plain, Char, VarChar}
use Rattle.mc_catalog.specs.declared.entry.Entry.{Entry}
use Rattle.mc_catalog.specs.declared.entry.Entry.TheVariants.{Collation, Connection, Table, Column}
use Rattle.mc_catalog.specs.declared.entry.Entry.TheVariants.{Index}

-- Whether a kind is there and takes rules.
abbrev pub may_have_rules : Option Kind → Bool
may_have_rules None = false
may_have_rules (Some kind) = takes_rules kind

-- The file of the rules that these fields name behind a kind: none, or `rules FILE`.
unfoldable pub rules_part : Option Kind → List (List ℕ) → Option (Option (List ℕ))
rules_part kind [] = Some None
rules_part kind (word ∷ file ∷ []) =
    if bytes_eq word (codes "rules") && may_have_rules kind then Some (Some file) else None
rules_part kind _ = None

-- `NAME SET KIND FILE` or `NAME SET KIND FILE rules FILE`.
unfoldable pub collation_entry : List (List ℕ) → Option Entry
collation_entry (name ∷ set ∷ kind ∷ file ∷ more) =
    option_and_then (λ rules.
    option_map (λ name. Collation name (set_named set) (kind_of kind) file rules) (field_name name))
    (rules_part (kind_of kind) more)
collation_entry _ = None

-- `NAME`.
unfoldable pub connection_entry : List (List ℕ) → Option Entry
connection_entry (name ∷ []) = option_map Connection (field_name name)
connection_entry _ = None

-- `NAME FILE`.
unfoldable pub table_entry : List (List ℕ) → Option Entry
table_entry (name ∷ file ∷ []) = option_map (λ name. Table name file) (field_name name)
table_entry _ = None

-- `bigint`.
unfoldable pub whole_form : List ℕ → Option ColumnForm
whole_form word = if bytes_eq word (codes "bigint") then Some (Plain BigInt) else None

-- `binary N` or `varbinary N`.
unfoldable pub binary_form : List ℕ → List ℕ → Option ColumnForm
binary_form word n =
    if bytes_eq word (codes "binary") then option_map (λ n. Plain (Binary n))
    (length_of longest_char n)
    else if bytes_eq word (codes "varbinary") then option_map (λ n. Plain (VarBinary n))
    (length_of longest_varchar n)
    else None

-- `char N COLLATION` or `varchar N COLLATION`.
unfoldable pub text_form : List ℕ → List ℕ → List ℕ → Option ColumnForm
text_form word n collation =
    if bytes_eq word (codes "char") then option_and_then
    (λ n. option_map (Char n) (field_name collation)) (length_of longest_char n)
    else if bytes_eq word (codes "varchar") then option_and_then
    (λ n. option_map (VarChar n) (field_name collation)) (length_of longest_varchar n)
    else None

-- The type of a column, as its fields have it.
unfoldable pub column_form : List (List ℕ) → Option ColumnForm
column_form (word ∷ []) = whole_form word
column_form (word ∷ n ∷ []) = binary_form word n
column_form (word ∷ n ∷ collation ∷ []) = text_form word n collation
column_form _ = None

-- `NAME` and the type.
unfoldable pub column_entry : List (List ℕ) → Option Entry
column_entry [] = None
column_entry (name ∷ form) =
    option_and_then (λ form. option_map (λ name. Column name form) (field_name name))
    (column_form form)

-- The length of the front that an index covers: none, or `K`.
unfoldable pub prefix_part : List (List ℕ) → Option (Option ℕ)
prefix_part [] = Some None
prefix_part (k ∷ []) = option_map Some (decimal_of k)
prefix_part _ = None

-- `NAME COLUMN` or `NAME COLUMN K`.
unfoldable pub index_entry : List (List ℕ) → Option Entry
index_entry (name ∷ column ∷ more) =
    option_and_then (λ prefix. option_and_then
    (λ name. option_map (λ column. Index name column prefix) (field_name column)) (field_name name))
    (prefix_part more)
index_entry _ = None

-- The entry of a line's fields, the first of which says what it is.
unfoldable pub entry_in : List (List ℕ) → Option Entry
entry_in [] = None
entry_in (word ∷ fields) =
    if bytes_eq word (codes "collation") then collation_entry fields
    else if bytes_eq word (codes "connection") then connection_entry fields
    else if bytes_eq word (codes "table") then table_entry fields
    else if bytes_eq word (codes "column") then column_entry fields
    else if bytes_eq word (codes "index") then index_entry fields
    else None

-- The entry that a line's body says; none where a byte is above 7F or the form is another one.
unfoldable pub entry_of : List ℕ → Option Entry
entry_of body = if list_all is_ascii body then entry_in (fields_of body) else None
