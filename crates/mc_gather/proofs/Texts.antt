-- The texts of a table's rows are of the sets of the columns' collations.
use Rattle.std.proofs.Common.{◌≡◌, ℕ, zero, suc, ◌<◌, List, [], ◌∷◌, Some, None, length, take, refl}
use Rattle.std.proofs.Common.{sym, ap, subst, ◌∙◌, arith}
use Rattle.std.proofs.lemmas.List.Elements.{recursion_from_All}
use Rattle.std.specs.Prelude.{All, IfSome, Option, option_and_then, option_map, slice_get}
use Rattle.std.specs.Prelude.{slice_index_or}
use Rattle.mc_catalog.specs.BuiltIn.{built_in_collations}
use Rattle.mc_catalog.specs.Fits.{FitsCatalog}
use Rattle.mc_catalog.specs.Lawful.{IsLawful, IsLawfulTable, IsLawfulType}
use Rattle.mc_catalog.specs.LookUp.{collation_set}
use Rattle.mc_catalog.specs.declared.catalog.Catalog.{Catalog}
use Rattle.mc_catalog.specs.declared.catalog.CollDecl.{CollDecl}
use Rattle.mc_catalog.specs.declared.catalog.ColumnDecl.{ColumnDecl}
use Rattle.mc_catalog.specs.declared.catalog.ColumnType.{ColumnType}
use Rattle.mc_catalog.specs.declared.catalog.ColumnType.TheVariants as of
use Rattle.mc_catalog.specs.declared.catalog.IndexDecl.{IndexDecl}
use Rattle.mc_catalog.specs.declared.catalog.TableDecl.{TableDecl}
use Rattle.mc_charset.specs.Chars.{IsWellFormed}
use Rattle.mc_charset.specs.declared.charset.Charset.{Charset}
use Rattle.mc_charset.specs.declared.charset.Charset.TheVariants.{Binary}
use Rattle.mc_order.specs.Meaning.{Meaning}
use Rattle.mc_rows.specs.Fields.{IsOfType}
use Rattle.mc_rows.specs.Records.{IsOfColumns}
use Rattle.mc_values.specs.declared.value.Value.{Value}
use Rattle.mc_values.specs.declared.value.Value.TheVariants as value
use Rattle.mc_gather.specs.Building.{HasTexts, IsReady, IsTextIn}
use Rattle.mc_plan.specs.Entries.{value_at}
use Rattle.mc_plan.specs.Plans.{type_collation}
use Rattle.mc_gather.specs.Tables.{AreRowsOf, AreTablesOf}
use Rattle.mc_gather.proofs.Zipped.{each_get, zip_at}

-- There is a first collation, whose set is binary.
some_collations : (c : Catalog) → IsLawful c → 0 < length c.collations
some_collations c l = omega (arith, l.so_far.connection)

first_binary : (collations : List CollDecl) → take 9 collations ≡ built_in_collations
    → collation_set collations 0 ≡ Binary
first_binary [] e = absurd (cc)
first_binary (x ∷ xs) e =
    let k : option_map (λ (d : CollDecl). d.charset) (slice_get (take 9 (x ∷ xs)) 0) ≡ Some Binary =
    ap (λ l. option_map (λ (d : CollDecl). d.charset) (slice_get l 0)) e in
    cc

-- The collation of a type is one of the catalog.
in_catalog : (count : ℕ) (type : ColumnType) → 0 < count → IsLawfulType count type
    → IfSome (type_collation type) (λ coll. coll.0 < count)
in_catalog count of.BigInt z l = tt
in_catalog count (of.Char n coll) z l = l.2
in_catalog count (of.VarChar n coll) z l = l.2
in_catalog count (of.Binary n) z l = z
in_catalog count (of.VarBinary n) z l = z

text_in : (from set : Charset) (text : List ℕ) → from ≡ set → IsWellFormed from text
    → IsWellFormed set text
text_in from set text e w = subst (λ s. IsWellFormed s text) e w

module _ (c : Catalog) (meaning : ℕ → Meaning) (count : ℕ) (lawful : IsLawful c)
    (fits : FitsCatalog c count (λ id. (meaning id).charset)) where
  known : (id : ℕ) → id < length c.collations → (meaning id).charset ≡ collation_set c.collations id
  known id low =
      let counted = fits.counted in fits.sets id (omega (arith, low, counted))

  binary : (meaning 0).charset ≡ Binary
  binary = known 0 (some_collations c lawful) ∙ first_binary c.collations lawful.so_far.built_in

  -- A value of a type is of the set of its collation.
  value_text : (type : ColumnType) (v : Value) → IsLawfulType (length c.collations) type
      → IsOfType c.collations type v
      → IfSome (type_collation type) (λ coll. IsTextIn (meaning coll.0).charset v)
  value_text of.BigInt v l h = tt
  value_text (of.Char n coll) value.Null l h = tt
  value_text (of.Char n coll) (value.Int x) l h = tt
  value_text (of.Char n coll) (value.Str set text) l h =
      text_in set (meaning coll.0).charset text (h.0 ∙ sym (known coll.0 l.2)) h.1
  value_text (of.VarChar n coll) value.Null l h = tt
  value_text (of.VarChar n coll) (value.Int x) l h = tt
  value_text (of.VarChar n coll) (value.Str set text) l h =
      text_in set (meaning coll.0).charset text (h.0 ∙ sym (known coll.0 l.2)) h.1
  value_text (of.Binary n) value.Null l h = tt
  value_text (of.Binary n) (value.Int x) l h = tt
  value_text (of.Binary n) (value.Str set text) l h =
      text_in set (meaning 0).charset text (h.0 ∙ sym binary) h.1
  value_text (of.VarBinary n) value.Null l h = tt
  value_text (of.VarBinary n) (value.Int x) l h = tt
  value_text (of.VarBinary n) (value.Str set text) l h =
      text_in set (meaning 0).charset text (h.0 ∙ sym binary) h.1

  -- A row's value at a column's place is of the column's type.
  value_of_column : (columns : List ColumnDecl) (row : List Value)
      → IsOfColumns c.collations columns row → (place : ℕ) (column : ColumnDecl)
      → slice_get columns place ≡ Some column
      → IsOfType c.collations column.ty (value_at row place)
  value_of_column [] row h place column e = absurd (cc)
  value_of_column (x ∷ columns) [] h place column e = absurd h
  value_of_column (x ∷ columns) (v ∷ row) h zero column e =
      let same : x ≡ column = cc in
      subst (λ (d : ColumnDecl). IsOfType c.collations d.ty v) same h.0
  value_of_column (x ∷ columns) (v ∷ row) h (suc place) column e =
      value_of_column columns row h.1 place column e

  in_book : (o : Option ColumnDecl)
      → ((column : ColumnDecl) → o ≡ Some column → IsLawfulType (length c.collations) column.ty)
      → IfSome (option_and_then (λ column. type_collation column.ty) o) (λ coll. coll.0 < count)
  in_book None l = tt
  in_book (Some column) l =
      let counted = fits.counted in
      in_catalog count column.ty
      (let some = some_collations c lawful in omega (arith, some, counted))
      (subst (λ n. IsLawfulType n column.ty) (sym counted) (l column refl))

  texts : (o : Option ColumnDecl) (index : IndexDecl) (rows : List (List Value))
      → ((column : ColumnDecl) → o ≡ Some column → IsLawfulType (length c.collations) column.ty)
      → ((column : ColumnDecl) → o ≡ Some column → (k : ℕ) (d : List Value) → k < length rows
      → IsOfType c.collations column.ty (value_at (slice_index_or rows k d) index.column))
      → IfSome (option_and_then (λ column. type_collation column.ty) o)
      (λ coll. HasTexts (meaning coll.0).charset index rows)
  texts None index rows l h = tt
  texts (Some column) index rows l h = spread column.ty (l column refl)
      (λ k d w. h column refl k d w)
    where
      spread : (type : ColumnType) → IsLawfulType (length c.collations) type
          → ((k : ℕ) (d : List Value) → k < length rows
          → IsOfType c.collations type (value_at (slice_index_or rows k d) index.column))
          → IfSome (type_collation type) (λ coll. HasTexts (meaning coll.0).charset index rows)
      spread of.BigInt l h = tt
      spread (of.Char n coll) l h = λ k d w. value_text (of.Char n coll)
          (value_at (slice_index_or rows k d) index.column) l (h k d w)
      spread (of.VarChar n coll) l h = λ k d w. value_text (of.VarChar n coll)
          (value_at (slice_index_or rows k d) index.column) l (h k d w)
      spread (of.Binary n) l h = λ k d w. value_text (of.Binary n)
          (value_at (slice_index_or rows k d) index.column) l (h k d w)
      spread (of.VarBinary n) l h = λ k d w. value_text (of.VarBinary n)
          (value_at (slice_index_or rows k d) index.column) l (h k d w)

  -- The indexes of a table can be built over its rows.
  pub all_ready : (tables : List (List (List Value))) → AreTablesOf c tables → (place : ℕ)
      (table : TableDecl) (rows : List (List Value)) → slice_get c.tables place ≡ Some table
      → slice_get tables place ≡ Some rows
      → All (IsReady count meaning table.columns rows) table.indexes
  all_ready tables h place table rows e f =
      let lawful_table = each_get (IsLawfulTable (length c.collations)) c.tables
      (recursion_from_All (IsLawfulTable (length c.collations)) c.tables lawful.so_far.tables)
      place table e in
      let at = zip_at (AreRowsOf c) c.tables tables h place rows f in
      let same : at.0 ≡ table = let g = at.1.0 in cc in
      let of_columns : All (IsOfColumns c.collations table.columns) rows =
      subst (λ (t : TableDecl). All (IsOfColumns c.collations t.columns) rows) same at.1.1 in
      let types = recursion_from_All
      (λ (column : ColumnDecl). IsLawfulType (length c.collations) column.ty) table.columns
      lawful_table.types in
      λ k d w.
      let index = slice_index_or table.indexes k d in
      let column_lawful = each_get
      (λ (column : ColumnDecl). IsLawfulType (length c.collations) column.ty) table.columns types
      index.column in
      record {
        in_book = in_book (slice_get table.columns index.column) column_lawful;
        texts = texts (slice_get table.columns index.column) index rows column_lawful
            (λ column g j b v. value_of_column table.columns (slice_index_or rows j b)
            (of_columns j b v) index.column column g);
      }
