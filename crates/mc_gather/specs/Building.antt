-- Indexes while they are built; no public clause cites it.
use Rattle.std.specs.Prelude.{◌≡◌, ℕ, ◌*◌, ◌<◌, ⊤, List, All, IfSome, IsSomeAnd}
use Rattle.std.specs.Prelude.{length, slice_get, take}
use Rattle.std.specs.List.{sum_by, zip}
use Rattle.std.specs.Option.{option_map_or}
use Rattle.mc_catalog.specs.declared.catalog.Catalog.{Catalog}
use Rattle.mc_catalog.specs.declared.catalog.ColumnDecl.{ColumnDecl}
use Rattle.mc_catalog.specs.declared.catalog.IndexDecl.{IndexDecl}
use Rattle.mc_charset.specs.Chars.{IsWellFormed}
use Rattle.mc_charset.specs.declared.charset.Charset.{Charset}
use Rattle.mc_index.specs.Entries.{SeenIndex}
use Rattle.mc_order.specs.Meaning.{Meaning}
use Rattle.mc_values.specs.declared.value.Value.{Value}
use Rattle.mc_values.specs.declared.value.Value.TheVariants as value
use Rattle.mc_plan.specs.Entries.{value_at}
use Rattle.mc_plan.specs.Plans.{index_collation}
use Rattle.mc_gather.specs.Indexed.{AreIndexesOf, rows_in}

-- If the value is a text, it is well formed in the set.
abbrev pub IsTextIn : Charset → Value → Type 0
IsTextIn set (value.Str from text) = IsWellFormed set text
IsTextIn set it = ⊤

-- So are the rows' values in the index's column.
abbrev pub HasTexts : Charset → IndexDecl → List (List Value) → Type 0
HasTexts set index rows = All (λ row. IsTextIn set (value_at row index.column)) rows

-- An index of these rows can be built: its column's collation, if it has one, is one of the book's,
-- and the texts are of its set.
pub record IsReady (count : ℕ) (meaning : ℕ → Meaning) (columns : List ColumnDecl)
    (rows : List (List Value)) (index : IndexDecl) : Type 0 where
  pub in_book : IfSome (index_collation columns index) (λ coll. coll.0 < count)
  pub texts : IfSome (index_collation columns index)
      (λ coll. HasTexts (meaning coll.0).charset index rows)

-- What is held are the indexes of the table at a place.
abbrev pub HasIndexesAt : (ℕ → Meaning) → Catalog → List (List (List Value)) → ℕ → List SeenIndex
    → Type 0
HasIndexesAt meaning c rows place held =
    IfSome (slice_get c.tables place)
    (λ table. AreIndexesOf meaning (rows_in rows place) table held)

-- How many rows are fetched for them.
abbrev pub fetches_at : Catalog → List (List (List Value)) → ℕ → ℕ
fetches_at c rows place = option_map_or
    (λ table. length table.indexes * length (rows_in rows place)) (slice_get c.tables place) 0

-- The first tables, so many, have their indexes.
pub record AreBuilt (meaning : ℕ → Meaning) (c : Catalog) (rows : List (List (List Value)))
    (count : ℕ) (held : List (List SeenIndex)) : Type 0 where
  pub counted : length held ≡ count
  pub each : (place : ℕ) → place < count
      → IsSomeAnd (slice_get held place) (HasIndexesAt meaning c rows place)

-- How many are fetched for the first tables, so many.
abbrev pub fetches_before : Catalog → List (List (List Value)) → ℕ → ℕ
fetches_before c rows count =
    sum_by (λ pair. length pair.0.indexes * length pair.1) (take count (zip c.tables rows))
