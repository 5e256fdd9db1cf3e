-- The rows of tables can be read: their values may be kept, and are of their columns' types.
use Rattle.std.proofs.Common.{◌≡◌, ℕ, zero, suc, ◌≤◌, ◌<◌, List, [], ◌∷◌, Some, length, map, refl}
use Rattle.std.proofs.Common.{sym, ap, get_or, subst}
use Rattle.std.proofs.Common.{arith}
use Rattle.std.proofs.lemmas.List.Elements.{All-from_recursion, recursion_from_All}
use Rattle.std.proofs.lemmas.Option.{slice_get-get_or}
use Rattle.std.specs.List.{AllByRecursion, AllZip}
use Rattle.std.specs.Prelude.{All, IfSome, Option, None, option_map, slice_get, unwrap_or}
use Rattle.mc_catalog.specs.Lawful.{IsLawful, IsLawfulTable, IsLawfulType}
use Rattle.mc_catalog.specs.declared.catalog.Catalog.{Catalog}
use Rattle.mc_catalog.specs.declared.catalog.CollDecl.{CollDecl}
use Rattle.mc_catalog.specs.declared.catalog.ColumnDecl.{ColumnDecl}
use Rattle.mc_catalog.specs.declared.catalog.ColumnType.{ColumnType}
use Rattle.mc_catalog.specs.declared.catalog.ColumnType.TheVariants as of
use Rattle.mc_catalog.specs.declared.catalog.TableDecl.{TableDecl}
use Rattle.mc_charset.specs.Chars.{IsWellFormed, Spells, chars}
use Rattle.mc_charset.specs.declared.charset.Charset.{Charset}
use Rattle.mc_eval.specs.Outcomes.{IsKept}
use Rattle.mc_gather.specs.Indexed.{rows_in}
use Rattle.mc_gather.specs.Tables.{AreTablesOf, AreRowsOf}
use Rattle.mc_rows.specs.Fields.{IsOfType as IsOfColumn}
use Rattle.mc_rows.specs.Records.{IsOfColumns}
use Rattle.mc_typing.specs.Columns.{column_ty}
use Rattle.mc_typing.specs.OfType.{IsOfType, IsRowOf}
use Rattle.mc_values.specs.declared.value.Value.{Value}
use Rattle.mc_values.specs.declared.value.Value.TheVariants as value
use Rattle.mc_exec.specs.Source.{source}
use Rattle.mc_exec.specs.Steps.{IsReadable}
use Rattle.mc_exec.proofs.Lengths.{spelled_length}

zip_length : {A B : Type 0} (R : A → B → Type 0) (xs : List A) (ys : List B) → AllZip R xs ys
    → length ys ≡ length xs
zip_length R [] [] h = refl
zip_length R [] (y ∷ ys) h = absurd h
zip_length R (x ∷ xs) [] h = absurd h
zip_length R (x ∷ xs) (y ∷ ys) h = ap suc (zip_length R xs ys h.1)

pub as_many : (c : Catalog) (tables : List (List (List Value))) → AreTablesOf c tables
    → length tables ≡ length c.tables
as_many c tables h = zip_length (AreRowsOf c) c.tables tables h

-- What the characters of a text are: those that spell it.
abbrev pub Decodes : Type 0
Decodes = (set : Charset) (codes text : List ℕ) → Spells set codes text → chars set text ≡ codes

text_kept : Decodes → (set : Charset) (text : List ℕ) (n most : ℕ) → IsWellFormed set text
    → length (chars set text) ≤ n → n ≤ 4096 → IsKept (value.Str set text)
text_kept decodes set text n most w h l =
    let long = spelled_length set w.0 text w.1 in
    let len = ap length (decodes set w.0 text w.1) in
    record { text = w; short = omega (arith, long, len, h, l) }

bytes_kept : (set : Charset) (text : List ℕ) (n : ℕ) → IsWellFormed set text → length text ≤ n
    → n ≤ 4096 → IsKept (value.Str set text)
bytes_kept set text n w h l = record { text = w; short = omega (arith, h, l) }

value_kept : Decodes → (collations : List CollDecl) (count : ℕ) (type : ColumnType) (v : Value)
    → IsLawfulType count type → IsOfColumn collations type v → IsKept v
value_kept decodes cs count type value.Null l h = record { text = tt; short = tt }
value_kept decodes cs count of.BigInt (value.Int x) l h = record { text = tt; short = tt }
value_kept decodes cs count (of.Char n coll) (value.Int x) l h = absurd h
value_kept decodes cs count (of.VarChar n coll) (value.Int x) l h = absurd h
value_kept decodes cs count (of.Binary n) (value.Int x) l h = absurd h
value_kept decodes cs count (of.VarBinary n) (value.Int x) l h = absurd h
value_kept decodes cs count of.BigInt (value.Str set text) l h = absurd h
value_kept decodes cs count (of.Char n coll) (value.Str set text) l h =
    text_kept decodes set text n 0 h.1 h.2 (omega (arith, l.1))
value_kept decodes cs count (of.VarChar n coll) (value.Str set text) l h =
    text_kept decodes set text n 0 h.1 h.2 (omega (arith, l.1))
value_kept decodes cs count (of.Binary n) (value.Str set text) l h =
    bytes_kept set text n h.1 (omega (arith, h.2)) (omega (arith, l.1))
value_kept decodes cs count (of.VarBinary n) (value.Str set text) l h =
    bytes_kept set text n h.1 h.2 (omega (arith, l.1))

value_typed : (c : Catalog) (type : ColumnType) (v : Value) → IsOfColumn c.collations type v
    → IsOfType (column_ty c type) v
value_typed c type value.Null h = tt
value_typed c of.BigInt (value.Int x) h = tt
value_typed c (of.Char n coll) (value.Int x) h = absurd h
value_typed c (of.VarChar n coll) (value.Int x) h = absurd h
value_typed c (of.Binary n) (value.Int x) h = absurd h
value_typed c (of.VarBinary n) (value.Int x) h = absurd h
value_typed c of.BigInt (value.Str set text) h = absurd h
value_typed c (of.Char n coll) (value.Str set text) h = (h.0, h.1)
value_typed c (of.VarChar n coll) (value.Str set text) h = (h.0, h.1)
value_typed c (of.Binary n) (value.Str set text) h = (h.0, h.1)
value_typed c (of.VarBinary n) (value.Str set text) h = (h.0, h.1)

row_kept : Decodes → (cs : List CollDecl) (count : ℕ) (columns : List ColumnDecl) (row : List Value)
    → AllByRecursion (λ column. IsLawfulType count column.ty) columns → IsOfColumns cs columns row
    → AllByRecursion IsKept row
row_kept decodes cs count [] [] l h = tt
row_kept decodes cs count [] (v ∷ row) l h = absurd h
row_kept decodes cs count (column ∷ columns) [] l h = absurd h
row_kept decodes cs count (column ∷ columns) (v ∷ row) l h =
    (value_kept decodes cs count column.ty v l.0 h.0, row_kept decodes cs count columns row l.1 h.1)

row_typed : (c : Catalog) (columns : List ColumnDecl) (row : List Value)
    → IsOfColumns c.collations columns row
    → IsRowOf (map (λ column. column_ty c column.ty) columns) row
row_typed c [] row h place type e = absurd (cc)
row_typed c (column ∷ columns) [] h place type e = absurd h
row_typed c (column ∷ columns) (v ∷ row) h zero type e =
    let same : column_ty c column.ty ≡ type = cc in
    subst (λ t. IsOfType t v) same (value_typed c column.ty v h.0)
row_typed c (column ∷ columns) (v ∷ row) h (suc place) type e =
    row_typed c columns row h.1 place type e

readable_row : Decodes → (c : Catalog) (place : ℕ) (table : TableDecl) (row : List Value)
    → slice_get c.tables place ≡ Some table → IsLawfulTable (length c.collations) table
    → IsOfColumns c.collations table.columns row → IsReadable c (Some place) row
readable_row decodes c place table row e l h = record {
  kept = All-from_recursion IsKept row (row_kept decodes c.collations (length c.collations)
      table.columns row (recursion_from_All (λ column. IsLawfulType (length c.collations) column.ty)
      table.columns l.types) h);
  typed = subst (λ (o : Option TableDecl). IsRowOf (map (λ column. column_ty c column.ty)
      (unwrap_or (option_map (λ (t : TableDecl). t.columns) o) [])) row) (sym e)
      (row_typed c table.columns row h);
}

zip_at : {A B : Type 0} (R : A → B → Type 0) (xs : List A) (ys : List B) → AllZip R xs ys
    → (i : ℕ) (y : B) → slice_get ys i ≡ Some y → (x : A) × ((slice_get xs i ≡ Some x) × R x y)
zip_at R [] [] h i y e = absurd (cc)
zip_at R [] (z ∷ ys) h i y e = absurd h
zip_at R (x ∷ xs) [] h i y e = absurd h
zip_at R (x ∷ xs) (z ∷ ys) h zero y e =
    let same : z ≡ y = cc in (x, (refl, subst (R x) same h.0))
zip_at R (x ∷ xs) (z ∷ ys) h (suc i) y e = zip_at R xs ys h.1 i y e

each_get : {A : Type 0} (P : A → Type 0) (xs : List A) → AllByRecursion P xs → (i : ℕ) (x : A)
    → slice_get xs i ≡ Some x → P x
each_get P [] h i x e = absurd (cc)
each_get P (y ∷ xs) h zero x e = let same : y ≡ x = cc in subst P same h.0
each_get P (y ∷ xs) h (suc i) x e = each_get P xs h.1 i x e

pub readable : Decodes → (c : Catalog) → IsLawful c → (tables : List (List (List Value)))
    → AreTablesOf c tables → (place : ℕ) (rows : List (List Value))
    → slice_get tables place ≡ Some rows → All (IsReadable c (Some place)) rows
readable decodes c l tables h place rows e =
    let at = zip_at (AreRowsOf c) c.tables tables h place rows e in
    let lawful = each_get (IsLawfulTable (length c.collations)) c.tables
    (recursion_from_All (IsLawfulTable (length c.collations)) c.tables
    l.so_far.tables) place at.0 at.1.0 in
    λ k d w. readable_row decodes c place at.0 _ at.1.0 lawful (at.1.1 k d w)

-- So can those of the table at a place.
pub readable_in : Decodes → (c : Catalog) → IsLawful c → (tables : List (List (List Value)))
    → AreTablesOf c tables → (place : ℕ) → place < length c.tables
    → All (IsReadable c (Some place)) (rows_in tables place)
readable_in decodes c l tables h place w =
    let many = as_many c tables h in
    let rows = get_or tables place [] in
    let at : slice_get tables place ≡ Some rows =
    slice_get-get_or tables place [] (omega (arith, many, w)) in
    subst (λ (o : Option (List (List Value))). All (IsReadable c (Some place)) (unwrap_or o []))
    (sym at) (readable decodes c l tables h place rows at)

pub readable_empty : (c : Catalog) → IsReadable c None []
readable_empty c = record {
  kept = λ k d w. absurd (omega arith);
  typed = λ place type e. absurd (cc);
}

-- So can those of a statement's source.
pub readable_source : Decodes → (c : Catalog) → IsLawful c → (tables : List (List (List Value)))
    → AreTablesOf c tables → (table : Option ℕ)
    → IfSome table (λ place. place < length c.tables)
    → All (IsReadable c table) (source tables table)
readable_source decodes c l tables h (Some place) w = readable_in decodes c l tables h place w
readable_source decodes c l tables h None w =
    All-from_recursion (IsReadable c None) ([] ∷ []) (readable_empty c, tt)
