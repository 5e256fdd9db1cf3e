-- A lawful catalog stays lawful with each entry that has no fault.
use Rattle.std.proofs.Common.{◌≡◌, ℕ, ◌^◌, ◌<◌, ◌≤◌, nat_le, Bool, true, false, not, cond, IsTrue, List, [], ◌∷◌, ◌++◌, length, map, take, drop, Option, None, Some, option_map, Result, Ok, Err, OnOk, refl, subst, ap, arith}
use Rattle.std.specs.List.{list_any, slice_get}
use Rattle.std.specs.Option.{is_some, is_none, IfSome, IsSomeAnd, option_and_then, option_to_list, unwrap_or}
use Rattle.std.specs.Str.{bytes_eq}
use Rattle.std.proofs.lemmas.List.{map-append, length-append, length-take, take-append-le, drop-append-le}
use Rattle.std.proofs.lemmas.List.Elements.{All-push, All-pop, All-weaker}
use Rattle.std.proofs.lemmas.List.Quantifiers.{position-Some}
use Rattle.std.proofs.lemmas.Option.{cond_some}
use Rattle.std.proofs.lemmas.Bool.Decides.{nat_tests}
use Rattle.mc_charset.specs.declared.charset.Charset.{Charset}
use Rattle.mc_charset.specs.declared.charset.Charset.TheVariants.{Latin1}
use Rattle.mc_charset.specs.declared.collation_id.CollId.{CollId}
use Rattle.mc_catalog.specs.declared.catalog.Kind.TheVariants.{Bin}
use Rattle.mc_catalog.specs.declared.fault.CatalogFaultKind.TheVariants.{WrongCharset, UnknownCollation, UnknownColumn, BadLength, Repeated, TooMany}
use Rattle.mc_catalog.specs.Entries.{may_have_rules}
use Rattle.mc_catalog.specs.declared.catalog.Kind.{Kind}
use Rattle.mc_catalog.specs.declared.catalog.CollDecl.{CollDecl}
use Rattle.mc_catalog.specs.declared.catalog.ColumnType.{ColumnType}
use Rattle.mc_catalog.specs.declared.catalog.ColumnType.TheVariants.{BigInt, Binary, VarBinary, Char as TypeChar, VarChar as TypeVarChar}
use Rattle.mc_catalog.specs.declared.catalog.ColumnDecl.{ColumnDecl}
use Rattle.mc_catalog.specs.declared.catalog.IndexDecl.{IndexDecl}
use Rattle.mc_catalog.specs.declared.catalog.TableDecl.{TableDecl}
use Rattle.mc_catalog.specs.declared.entry.ColumnForm.{ColumnForm}
use Rattle.mc_catalog.specs.declared.entry.ColumnForm.TheVariants.{Plain, Char, VarChar}
use Rattle.mc_catalog.specs.declared.entry.Entry.{Entry}
use Rattle.mc_catalog.specs.declared.entry.Entry.TheVariants.{Collation, Connection, Table, Column, Index}
use Rattle.mc_catalog.specs.declared.fault.CatalogFaultKind.{CatalogFaultKind}
use Rattle.mc_catalog.specs.BuiltIn.{built_in_collations}
use Rattle.mc_catalog.specs.Lawful.{IsLawfulSoFar, IsLawfulTable, IsLawfulType, IsLawfulCollation, IsLawfulIndex, IsLawfulName, AreApart, suits, width_of}
use Rattle.mc_catalog.specs.LookUp.{number_of}
use Rattle.mc_catalog.specs.Formed.{IsFormed, IsFormedColumn}
use Rattle.mc_catalog.specs.Progress.{Progress, tables_of, declared_of, id_of, type_of, with_column, column_named, width_at, indexed_column, with_index, with_entry, catalog_of}
use Rattle.mc_catalog.specs.CatalogFaults.{first_of, collation_tests, table_tests, column_tests, index_tests, tests_in, tests_of, indexed_width, is_bad_length}
use Rattle.mc_catalog.proofs.Lists.{apart_more, kept_at}

-- Where the first of two tests to find a fault is none, neither finds one.
two_clear : (k l : CatalogFaultKind) (a b : Bool) → first_of ((k, a) ∷ (l, b) ∷ []) ≡ None → (a ≡ false) × (b ≡ false)
two_clear k l true b e = absurd (let f : Some k ≡ None = e in cc)
two_clear k l false true e = absurd (let f : Some l ≡ None = e in cc)
two_clear k l false false e = (refl, refl)

-- the same of three tests
three_clear : (k l m : CatalogFaultKind) (a b c : Bool) → first_of ((k, a) ∷ (l, b) ∷ (m, c) ∷ []) ≡ None → (a ≡ false) × (b ≡ false) × (c ≡ false)
three_clear k l m true b c e = absurd (let f : Some k ≡ None = e in cc)
three_clear k l m false b c e = let rest = two_clear l m b c e in (refl, rest.0, rest.1)

-- the same of four
four_clear : (k l m n : CatalogFaultKind) (a b c d : Bool) → first_of ((k, a) ∷ (l, b) ∷ (m, c) ∷ (n, d) ∷ []) ≡ None → (a ≡ false) × (b ≡ false) × (c ≡ false) × (d ≡ false)
four_clear k l m n true b c d e = absurd (let f : Some k ≡ None = e in cc)
four_clear k l m n false b c d e = let rest = three_clear l m n b c d e in (refl, rest.0, rest.1, rest.2)

-- a choice that is not false
not_false : (b : Bool) → not b ≡ false → IsTrue b
not_false true e = refl
not_false false e = absurd (cc)

-- a number that is not at its limit
below : (limit n : ℕ) → nat_le limit n ≡ false → n < limit
below limit n e = grind (arith, nat_tests)

-- A type stays lawful with more collations.
type_kept : (n m : ℕ) (type : ColumnType) → n ≤ m → IsLawfulType n type → IsLawfulType m type
type_kept n m BigInt le h = h
type_kept n m (TypeChar k coll) le h = (h.0, h.1, omega (arith, h.2))
type_kept n m (TypeVarChar k coll) le h = (h.0, h.1, omega (arith, h.2))
type_kept n m (Binary k) le h = h
type_kept n m (VarBinary k) le h = h

-- A table stays lawful with more collations.
table_kept : (n m : ℕ) (table : TableDecl) → n ≤ m → IsLawfulTable n table → IsLawfulTable m table
table_kept n m table le h = record {
  few_columns = h.few_columns;
  few_indexes = h.few_indexes;
  types = All-weaker (λ column. IsLawfulType n column.ty) (λ column. IsLawfulType m column.ty) (λ column. type_kept n m column.ty le) table.columns h.types;
  indexes = h.indexes;
  column_names = h.column_names;
  index_names = h.index_names;
  lawful_names = h.lawful_names;
}

-- the built-in collations are nine
nine : (collations : List CollDecl) → take 9 collations ≡ built_in_collations → 9 ≤ length collations
nine collations e =
    let taken : length (take 9 collations) ≡ 9 = ap length e in
    omega (arith, length-take 9 collations)

collation_kept : (so_far : Progress) (declared : CollDecl) → IsLawfulSoFar (catalog_of so_far) → IsLawfulCollation declared → IsLawfulName declared.name → list_any (λ other. bytes_eq other.name declared.name) so_far.collations ≡ false → length so_far.collations < 73 → IsLawfulSoFar (catalog_of (record so_far { collations = so_far.collations ++ declared ∷ [] }))
collation_kept so_far declared h own name fresh few =
    let collations = so_far.collations in
    let some = nine collations h.built_in in
    let more : length collations ≤ length (collations ++ declared ∷ []) = omega (arith, length-append collations (declared ∷ [])) in
    record {
      built_in = rw (take-append-le 9 collations (declared ∷ []) some) h.built_in;
      few_collations = omega (arith, length-append collations (declared ∷ []));
      declared = rw (drop-append-le 9 collations (declared ∷ []) some) (All-push IsLawfulCollation (drop 9 collations) declared h.declared own);
      collation_names = apart_more (λ other. other.name) collations declared h.collation_names fresh;
      lawful_names = All-push (λ (other : CollDecl). IsLawfulName other.name) collations declared h.lawful_names name;
      few_tables = h.few_tables;
      tables = All-weaker (IsLawfulTable (length collations)) (IsLawfulTable (length (collations ++ declared ∷ [])))
          (λ table. table_kept (length collations) (length (collations ++ declared ∷ [])) table more) (tables_of so_far) h.tables;
      table_names = h.table_names;
      connection = omega (arith, h.connection, more);
    }

-- an entry that declares a collation
collation_step : (so_far : Progress) (name : List ℕ) (set : Option Charset) (kind : Option Kind) (file : List ℕ) (rules : Option (List ℕ)) → IsLawfulSoFar (catalog_of so_far) → IsLawfulName name × IfSome rules (λ _. IsTrue (may_have_rules kind)) → first_of (collation_tests so_far.collations name set kind) ≡ None → IsLawfulSoFar (catalog_of (record so_far { collations = so_far.collations ++ option_to_list (declared_of name set kind file rules) }))
unfolding declared_of
collation_step so_far name None kind file rules h formed e = absurd (cc)
collation_step so_far name (Some set) None file rules h formed e = absurd (cc)
collation_step so_far name (Some set) (Some kind) file rules h formed e =
    let clear = three_clear WrongCharset Repeated TooMany (not (suits kind set)) (list_any (λ other. bytes_eq other.name name) so_far.collations) (nat_le 73 (length so_far.collations)) e in
    collation_kept so_far (record { name = name; charset = set; kind = kind; file = file; rules = rules }) h (not_false (suits kind set) clear.0, formed.1) formed.0 clear.1 (below 73 (length so_far.collations) clear.2)

-- the number of a collation is that of one
id_within : (collations : List CollDecl) (name : List ℕ) (id : CollId) → id_of collations name ≡ Some id → id.0 < length collations
id_within collations name id e = of (number_of collations name) refl
  where
    of : (found : Option ℕ) → number_of collations name ≡ found → id.0 < length collations
    of None f = absurd (let g : None ≡ Some id = rw f at e in cc)
    of (Some n) f =
        let g : Some (record { 0 = n }) ≡ Some id = rw f at e in
        let same : n ≡ id.0 = ap (λ o. (unwrap_or o id).0) g in
        omega (arith, same, (position-Some (λ collation. bytes_eq collation.name name) collations n (record { name = []; charset = Latin1; kind = Bin; file = []; rules = None }) f).0)

-- the connection collation is one of the catalog's
connection_kept : (so_far : Progress) (name : List ℕ) → IsLawfulSoFar (catalog_of so_far) → IsLawfulSoFar (catalog_of (record so_far { connection = id_of so_far.collations name }))
connection_kept so_far name h = record {
  built_in = h.built_in;
  few_collations = h.few_collations;
  declared = h.declared;
  collation_names = h.collation_names;
  lawful_names = h.lawful_names;
  few_tables = h.few_tables;
  tables = h.tables;
  table_names = h.table_names;
  connection = of (id_of so_far.collations name) refl;
}
  where
    of : (id : Option CollId) → id_of so_far.collations name ≡ id → (unwrap_or id (record { 0 = 4 })).0 < length so_far.collations
    of None e = omega (arith, nine so_far.collations h.built_in)
    of (Some id) e = id_within so_far.collations name id e

-- a table without columns and indexes
new_table_lawful : (n : ℕ) (name file : List ℕ) → IsLawfulTable n (record { name = name; file = file; columns = []; indexes = [] })
new_table_lawful n name file = record {
  few_columns = omega arith;
  few_indexes = omega arith;
  types = λ k d lt. absurd (omega arith);
  indexes = λ k d lt. absurd (omega arith);
  column_names = λ i j d lt under. absurd (omega arith);
  index_names = λ i j d lt under. absurd (omega arith);
  lawful_names = λ k d lt. absurd (omega arith);
}

-- an entry that begins a table
table_step : (so_far : Progress) (number : ℕ) (name file : List ℕ) → IsLawfulSoFar (catalog_of so_far) → first_of (table_tests (tables_of so_far) name) ≡ None → IsLawfulSoFar (catalog_of (with_entry number so_far (Table name file)))
unfolding with_entry
table_step so_far number name file h e =
    let tables = tables_of so_far in
    let table : TableDecl = record { name = name; file = file; columns = []; indexes = [] } in
    let clear = two_clear Repeated TooMany (list_any (λ table. bytes_eq table.name name) tables) (nat_le 16 (length tables)) e in
    let few = below 16 (length tables) clear.1 in
    record {
      built_in = h.built_in;
      few_collations = h.few_collations;
      declared = h.declared;
      collation_names = h.collation_names;
      lawful_names = h.lawful_names;
      few_tables = omega (arith, few, length-append tables (table ∷ []));
      tables = All-push (IsLawfulTable (length so_far.collations)) tables table h.tables (new_table_lawful (length so_far.collations) name file);
      table_names = apart_more (λ table. table.name) tables table h.table_names clear.0;
      connection = h.connection;
    }

-- The last table may become another lawful one of its name.
last_kept : (so_far : Progress) (old new : TableDecl) → so_far.last ≡ Some old → IsLawfulSoFar (catalog_of so_far) → IsLawfulTable (length so_far.collations) new → old.name ≡ new.name → IsLawfulSoFar (catalog_of (record so_far { last = Some new }))
last_kept so_far old new e h own same =
    let earlier = so_far.earlier in
    let P = IsLawfulTable (length so_far.collations) in
    let tables : tables_of so_far ≡ earlier ++ old ∷ [] = ap (λ (last : Option TableDecl). earlier ++ option_to_list last) e in
    let names : map (λ (table : TableDecl). table.name) (tables_of so_far) ≡ map (λ (table : TableDecl). table.name) (earlier ++ new ∷ []) =
    rw (tables, map-append (λ (table : TableDecl). table.name) earlier (old ∷ []), map-append (λ (table : TableDecl). table.name) earlier (new ∷ []), same) refl in
    let long : length (tables_of so_far) ≡ length (earlier ++ new ∷ []) = rw (tables, length-append earlier (old ∷ []), length-append earlier (new ∷ [])) refl in
    record {
      built_in = h.built_in;
      few_collations = h.few_collations;
      declared = h.declared;
      collation_names = h.collation_names;
      lawful_names = h.lawful_names;
      few_tables = omega (arith, long, h.few_tables);
      tables = All-push P earlier new (All-pop P (tables_of so_far) earlier so_far.last refl h.tables).0 own;
      table_names = subst AreApart names h.table_names;
      connection = h.connection;
    }

-- The last table is lawful.
pub last_lawful : (so_far : Progress) → IsLawfulSoFar (catalog_of so_far) → IfSome so_far.last (IsLawfulTable (length so_far.collations))
last_lawful so_far h = (All-pop (IsLawfulTable (length so_far.collations)) (tables_of so_far) so_far.earlier so_far.last refl h.tables).1

-- The last table has few columns.
pub last_is_small : (so_far : Progress) → IsLawfulSoFar (catalog_of so_far) → IfSome so_far.last (λ table. length table.columns < 2 ^ 32)
last_is_small so_far h = of so_far.last (last_lawful so_far h)
  where
    of : (last : Option TableDecl) → IfSome last (IsLawfulTable (length so_far.collations)) → IfSome last (λ table. length table.columns < 2 ^ 32)
    of None own = tt
    of (Some table) own = omega (arith, own.few_columns)

-- The type of a column whose form is one is lawful.
type_lawful : (collations : List CollDecl) (form : ColumnForm) (type : ColumnType) → IsFormedColumn form → type_of collations form ≡ Some type → IsLawfulType (length collations) type
unfolding type_of
type_lawful collations (Plain BigInt) type formed e = let same : BigInt ≡ type = grind arith in subst (IsLawfulType (length collations)) same tt
type_lawful collations (Plain (Binary n)) type formed e = let same : Binary n ≡ type = grind arith in subst (IsLawfulType (length collations)) same formed
type_lawful collations (Plain (VarBinary n)) type formed e = let same : VarBinary n ≡ type = grind arith in subst (IsLawfulType (length collations)) same formed
type_lawful collations (Plain (TypeChar n coll)) type formed e = absurd formed
type_lawful collations (Plain (TypeVarChar n coll)) type formed e = absurd formed
type_lawful collations (Char n name) type formed e = of (id_of collations name) refl
  where
    of : (id : Option CollId) → id_of collations name ≡ id → IsLawfulType (length collations) type
    of None f = absurd (let g : None ≡ Some type = rw f at e in cc)
    of (Some id) f =
        let g : Some (TypeChar n id) ≡ Some type = rw f at e in
        let same : TypeChar n id ≡ type = grind arith in
        subst (IsLawfulType (length collations)) same (formed.0, formed.1, id_within collations name id f)
type_lawful collations (VarChar n name) type formed e = of (id_of collations name) refl
  where
    of : (id : Option CollId) → id_of collations name ≡ id → IsLawfulType (length collations) type
    of None f = absurd (let g : None ≡ Some type = rw f at e in cc)
    of (Some id) f =
        let g : Some (TypeVarChar n id) ≡ Some type = rw f at e in
        let same : TypeVarChar n id ≡ type = grind arith in
        subst (IsLawfulType (length collations)) same (formed.0, formed.1, id_within collations name id f)

-- A table with one more column is lawful.
column_kept : (n : ℕ) (table : TableDecl) (column : ColumnDecl) → IsLawfulTable n table → IsLawfulType n column.ty → list_any (λ other. bytes_eq other.name column.name) table.columns ≡ false → length table.columns < 32 → IsLawfulTable n (record table { columns = table.columns ++ column ∷ [] })
column_kept n table column h own fresh few = record {
  few_columns = omega (arith, few, length-append table.columns (column ∷ []));
  few_indexes = h.few_indexes;
  types = All-push (λ column. IsLawfulType n column.ty) table.columns column h.types own;
  indexes = All-weaker (IsLawfulIndex table.columns) (IsLawfulIndex (table.columns ++ column ∷ []))
      (λ index. kept_at (λ column. IsSomeAnd (width_of column.ty) (λ n. IfSome index.prefix (λ k. (1 ≤ k) × (k ≤ n)))) table.columns (column ∷ []) index.column)
      table.indexes h.indexes;
  column_names = apart_more (λ column. column.name) table.columns column h.column_names fresh;
  index_names = h.index_names;
  lawful_names = h.lawful_names;
}

-- what the tests of a column leave
column_clear : (collations : List CollDecl) (name : List ℕ) (form : ColumnForm) (table : TableDecl) → first_of (column_tests collations name form table) ≡ None → (is_none (type_of collations form) ≡ false) × (list_any (λ column. bytes_eq column.name name) table.columns ≡ false) × (nat_le 32 (length table.columns) ≡ false)
column_clear collations name form table e =
    three_clear UnknownCollation Repeated TooMany (is_none (type_of collations form)) (list_any (λ column. bytes_eq column.name name) table.columns) (nat_le 32 (length table.columns)) e

-- an entry that adds a column
column_step : (so_far : Progress) (number : ℕ) (name : List ℕ) (form : ColumnForm) (last : Option TableDecl) → so_far.last ≡ last → IsLawfulSoFar (catalog_of so_far) → IsFormedColumn form → first_of (tests_in (column_tests so_far.collations name form) last) ≡ None → IsLawfulSoFar (catalog_of (record so_far { last = option_and_then (with_column so_far.collations name form) last }))
unfolding with_column
column_step so_far number name form None is h formed e = absurd (cc)
column_step so_far number name form (Some table) is h formed e = of (type_of so_far.collations form) refl
  where
    of : (type : Option ColumnType) → type_of so_far.collations form ≡ type → IsLawfulSoFar (catalog_of (record so_far { last = option_map (λ type. record table { columns = table.columns ++ record { name = name; ty = type } ∷ [] }) type }))
    of None f = absurd (let k : true ≡ false = rw f at (column_clear so_far.collations name form table e).0 in cc)
    of (Some type) f =
        let clear = column_clear so_far.collations name form table e in
        let own = subst (λ (last : Option TableDecl). IfSome last (IsLawfulTable (length so_far.collations))) is (last_lawful so_far h) in
        let column : ColumnDecl = record { name = name; ty = type } in
        let new : TableDecl = record table { columns = table.columns ++ column ∷ [] } in
        last_kept so_far table new is h (column_kept (length so_far.collations) table column own (type_lawful so_far.collations form type formed f) clear.1 (below 32 (length table.columns) clear.2)) refl

-- A table with one more index is lawful.
index_kept : (n : ℕ) (table : TableDecl) (index : IndexDecl) → IsLawfulTable n table → IsLawfulIndex table.columns index → IsLawfulName index.name → list_any (λ other. bytes_eq other.name index.name) table.indexes ≡ false → length table.indexes < 8 → IsLawfulTable n (record table { indexes = table.indexes ++ index ∷ [] })
index_kept n table index h own formed fresh few = record {
  few_columns = h.few_columns;
  few_indexes = omega (arith, few, length-append table.indexes (index ∷ []));
  types = h.types;
  indexes = All-push (IsLawfulIndex table.columns) table.indexes index h.indexes own;
  column_names = h.column_names;
  index_names = apart_more (λ index. index.name) table.indexes index h.index_names fresh;
  lawful_names = All-push (λ (other : IndexDecl). IsLawfulName other.name) table.indexes index h.lawful_names formed;
}

-- a front that is no shorter than 1 and no longer than the values
front_within : (prefix : Option ℕ) (n : ℕ) → is_bad_length prefix (Some n) ≡ false → IfSome prefix (λ k. (1 ≤ k) × (k ≤ n))
unfolding is_bad_length
front_within None n e = tt
front_within (Some k) n e = (grind (arith, nat_tests), grind (arith, nat_tests))

-- the same of a width that is there
front_of : (width prefix : Option ℕ) → is_some width ≡ true → is_bad_length prefix width ≡ false → IsSomeAnd width (λ n. IfSome prefix (λ k. (1 ≤ k) × (k ≤ n)))
front_of None prefix some e = absurd (cc)
front_of (Some n) prefix some e = front_within prefix n e

-- the index of the column at a place, if its values have a length
place_lawful : (columns : List ColumnDecl) (prefix : Option ℕ) (place : ℕ) (found : Option ColumnDecl) → is_some (option_and_then (λ column. width_of column.ty) found) ≡ true → is_bad_length prefix (option_and_then (λ column. width_of column.ty) found) ≡ false → IsSomeAnd found (λ column. IsSomeAnd (width_of column.ty) (λ n. IfSome prefix (λ k. (1 ≤ k) × (k ≤ n))))
place_lawful columns prefix place None some fits = absurd (let e : false ≡ true = some in cc)
place_lawful columns prefix place (Some column) some fits = front_of (width_of column.ty) prefix some fits

-- The index of a column that has a length, over a front that fits, is lawful.
index_lawful : (columns : List ColumnDecl) (name column : List ℕ) (prefix : Option ℕ) (place : ℕ) → indexed_column columns column ≡ Some place → is_bad_length prefix (indexed_width columns column) ≡ false → IsLawfulIndex columns (record { name = name; column = place; prefix = prefix })
unfolding indexed_column indexed_width width_at
index_lawful columns name column prefix place e fits = of (column_named columns column) e fits
  where
    of : (at_name : Option ℕ) → option_and_then (λ place. cond (is_some (option_and_then (λ column. width_of column.ty) (slice_get columns place))) (Some place) None) at_name ≡ Some place → is_bad_length prefix (option_and_then (λ place. option_and_then (λ column. width_of column.ty) (slice_get columns place)) at_name) ≡ false → IsLawfulIndex columns (record { name = name; column = place; prefix = prefix })
    of None e fits = absurd (let f : None ≡ Some place = e in cc)
    of (Some p) e fits =
        let chosen = cond_some (is_some (option_and_then (λ column. width_of column.ty) (slice_get columns p))) p place e in
        rw (← chosen.1) (place_lawful columns prefix p (slice_get columns p) chosen.0 fits)

-- what the tests of an index leave
index_clear : (name column : List ℕ) (prefix : Option ℕ) (table : TableDecl) → first_of (index_tests name column prefix table) ≡ None → (is_none (indexed_column table.columns column) ≡ false) × (is_bad_length prefix (indexed_width table.columns column) ≡ false) × (list_any (λ index. bytes_eq index.name name) table.indexes ≡ false) × (nat_le 8 (length table.indexes) ≡ false)
index_clear name column prefix table e =
    four_clear UnknownColumn BadLength Repeated TooMany (is_none (indexed_column table.columns column)) (is_bad_length prefix (indexed_width table.columns column))
    (list_any (λ index. bytes_eq index.name name) table.indexes) (nat_le 8 (length table.indexes)) e

-- an entry that adds an index
index_step : (so_far : Progress) (number : ℕ) (name column : List ℕ) (prefix : Option ℕ) (last : Option TableDecl) → so_far.last ≡ last → IsLawfulSoFar (catalog_of so_far) → IsLawfulName name → first_of (tests_in (index_tests name column prefix) last) ≡ None → IsLawfulSoFar (catalog_of (record so_far { last = option_and_then (with_index name column prefix) last }))
unfolding with_index
index_step so_far number name column prefix None is h formed e = absurd (cc)
index_step so_far number name column prefix (Some table) is h formed e = of (indexed_column table.columns column) refl
  where
    of : (place : Option ℕ) → indexed_column table.columns column ≡ place → IsLawfulSoFar (catalog_of (record so_far { last = option_map (λ place. record table { indexes = table.indexes ++ record { name = name; column = place; prefix = prefix } ∷ [] }) place }))
    of None f = absurd (let k : true ≡ false = rw f at (index_clear name column prefix table e).0 in cc)
    of (Some place) f =
        let clear = index_clear name column prefix table e in
        let own = subst (λ (last : Option TableDecl). IfSome last (IsLawfulTable (length so_far.collations))) is (last_lawful so_far h) in
        let index : IndexDecl = record { name = name; column = place; prefix = prefix } in
        let new : TableDecl = record table { indexes = table.indexes ++ index ∷ [] } in
        last_kept so_far table new is h (index_kept (length so_far.collations) table index own (index_lawful table.columns name column prefix place f clear.1) formed clear.2 (below 8 (length table.indexes) clear.3)) refl

-- A lawful catalog stays lawful with an entry that has no fault.
pub lawful_entry : (number : ℕ) (so_far : Progress) (entry : Entry) → IsLawfulSoFar (catalog_of so_far) → IsFormed entry → first_of (tests_of so_far entry) ≡ None → IsLawfulSoFar (catalog_of (with_entry number so_far entry))
unfolding with_entry
lawful_entry number so_far (Collation name set kind file rules) h formed e = collation_step so_far name set kind file rules h formed e
lawful_entry number so_far (Connection name) h formed e = connection_kept so_far name h
lawful_entry number so_far (Table name file) h formed e = table_step so_far number name file h e
lawful_entry number so_far (Column name form) h formed e = column_step so_far number name form so_far.last refl h formed e
lawful_entry number so_far (Index name column prefix) h formed e = index_step so_far number name column prefix so_far.last refl h formed e

-- The same of an entry that was added, if it was.
pub lawful_added : (number : ℕ) (so_far : Progress) (entry : Entry) (new : Progress) (answer : Result (Unit {0}) CatalogFaultKind) → IsLawfulSoFar (catalog_of so_far) → IsFormed entry → OnOk answer (first_of (tests_of so_far entry) ≡ None) → OnOk answer (new ≡ with_entry number so_far entry) → OnOk answer (IsLawfulSoFar (catalog_of new))
lawful_added number so_far entry new (Ok _) h formed clear added = rw added (lawful_entry number so_far entry h formed clear)
lawful_added number so_far entry new (Err fault) h formed clear added = tt
