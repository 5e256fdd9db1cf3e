-- What the indexes of a table hold: MySQL 8.0 manual, 8.3.1 and 8.3.5.
use Rattle.std.specs.Prelude.{◌≡◌, ℕ, ◌*◌, suc, List, [], ◌∷◌, ◌++◌, Option, Some, None, IfSome}
use Rattle.std.specs.Prelude.{IsSomeAnd, length, option_map, slice_get, unwrap_or}
use Rattle.std.specs.List.{AllZip, sum_by, zip}
use Rattle.std.specs.Option.{option_to_list}
use Rattle.mc_catalog.specs.declared.catalog.Catalog.{Catalog}
use Rattle.mc_catalog.specs.declared.catalog.ColumnDecl.{ColumnDecl}
use Rattle.mc_catalog.specs.declared.catalog.IndexDecl.{IndexDecl}
use Rattle.mc_catalog.specs.declared.catalog.TableDecl.{TableDecl}
use Rattle.mc_charset.specs.Chars.{chars}
use Rattle.mc_index.specs.Entries.{IsSealed, SeenEntry, SeenIndex}
use Rattle.mc_key.specs.Keys.{kept_list}
use Rattle.mc_order.specs.Meaning.{Meaning}
use Rattle.mc_range.specs.Finds.{index_list}
use Rattle.mc_values.specs.declared.value.Value.{Value}
use Rattle.mc_values.specs.declared.value.Value.TheVariants as value
use Rattle.mc_plan.specs.Entries.{value_at}
use Rattle.mc_plan.specs.Plans.{index_collation}

-- The bytes of the text that a value is; NULL is none.
abbrev pub text_of : Value → Option (List ℕ)
text_of (value.Str set text) = Some text
text_of it = None

-- What a key keeps of the characters of a text, or of its first ones.
abbrev pub weights_of : Meaning → Option ℕ → List ℕ → List ℕ
weights_of m prefix text = kept_list m.pad m.space (index_list m prefix (chars m.charset text))

-- The entry of the row of this number, if its value in the index's column is a text.
abbrev pub entry_of : Meaning → IndexDecl → ℕ → List Value → Option SeenEntry
entry_of m index number row = option_map
    (λ text. record { weights = weights_of m index.prefix text; row = number })
    (text_of (value_at row index.column))

-- The entries of rows that are numbered from here on.
unfoldable pub entries_from : Meaning → IndexDecl → ℕ → List (List Value) → List SeenEntry
entries_from m index number [] = []
entries_from m index number (row ∷ rows) =
    option_to_list (entry_of m index number row) ++ entries_from m index (suc number) rows

-- The entries of a table's rows, as they come.
abbrev pub gathered : Meaning → IndexDecl → List (List Value) → SeenIndex
gathered m index rows =
    record { pad = m.pad; space = m.space; entries = entries_from m index 0 rows }

-- What is held are the entries of the rows in order, by the collation of the index's column.
abbrev pub IsIndexOf : (ℕ → Meaning) → List ColumnDecl → List (List Value) → IndexDecl → SeenIndex
    → Type 0
IsIndexOf meaning columns rows index held = IfSome (index_collation columns index)
    (λ coll. IsSealed (gathered (meaning coll.0) index rows) held)

-- What is held are the table's indexes over these rows, in the catalog's order.
abbrev pub AreIndexesOf : (ℕ → Meaning) → List (List Value) → TableDecl → List SeenIndex → Type 0
AreIndexesOf meaning rows table held =
    AllZip (IsIndexOf meaning table.columns rows) table.indexes held

-- The rows of the table at a place.
abbrev pub rows_in : List (List (List Value)) → ℕ → List (List Value)
rows_in rows place = unwrap_or (slice_get rows place) []

-- Each table has its indexes over its rows, by these collations.
abbrev pub FitBook : Catalog → (ℕ → Meaning) → List (List (List Value)) → List (List SeenIndex)
    → Type 0
FitBook c meaning rows indexes = (place : ℕ) (table : TableDecl)
    → slice_get c.tables place ≡ Some table
    → IsSomeAnd (slice_get indexes place) (AreIndexesOf meaning (rows_in rows place) table)

-- How many rows are fetched where each is once for each index of its table.
abbrev pub index_fetches : Catalog → List (List (List Value)) → ℕ
index_fetches c rows =
    sum_by (λ pair. length pair.0.indexes * length pair.1) (zip c.tables rows)
