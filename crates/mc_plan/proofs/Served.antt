-- The indexes of a statement's table, the texts of its columns, and the constants of its conjuncts.
use Rattle.std.proofs.Common.{◌≡◌, ℕ, zero, suc, ◌<◌, List, [], ◌∷◌, Some, None, length, map, refl}
use Rattle.std.proofs.Common.{sym, ap, subst, ◌∙◌, arith, take}
use Rattle.std.proofs.lemmas.List.Elements.{All-weaker, recursion_from_All}
use Rattle.std.proofs.lemmas.Option.{slice_get-map}
use Rattle.std.specs.Prelude.{All, IfSome, IsSomeAnd, Option, option_and_then, option_map}
use Rattle.std.specs.Prelude.{slice_get}
use Rattle.std.specs.Prelude.{slice_index_or}
use Rattle.std.specs.List.{AllByRecursion}
use Rattle.std.specs.Option.{option_map_or}
use Rattle.mc_catalog.specs.BuiltIn.{built_in_collations}
use Rattle.mc_catalog.specs.Fits.{FitsCatalog}
use Rattle.mc_catalog.specs.Lawful.{IsLawful, IsLawfulTable, IsLawfulType}
use Rattle.mc_catalog.specs.LookUp.{collation_set}
use Rattle.mc_catalog.specs.declared.catalog.Catalog.{Catalog}
use Rattle.mc_catalog.specs.declared.catalog.CollDecl.{CollDecl}
use Rattle.mc_catalog.specs.declared.catalog.ColumnDecl.{ColumnDecl}
use Rattle.mc_catalog.specs.declared.catalog.ColumnType.{ColumnType}
use Rattle.mc_catalog.specs.declared.catalog.ColumnType.TheVariants as of
use Rattle.mc_catalog.specs.declared.catalog.IndexDecl.{IndexDecl}
use Rattle.mc_catalog.specs.declared.catalog.TableDecl.{TableDecl}
use Rattle.mc_charset.specs.Chars.{IsWellFormed}
use Rattle.mc_charset.specs.declared.charset.Charset.{Charset}
use Rattle.mc_charset.specs.declared.charset.Charset.TheVariants.{Binary}
use Rattle.mc_charset.specs.declared.collation_id.CollId.{CollId}
use Rattle.mc_coerce.specs.Levels.{implicit}
use Rattle.mc_coerce.specs.declared.operand.Operand.{Operand}
use Rattle.mc_convert.specs.Classes.{cap_of}
use Rattle.mc_order.specs.Meaning.{Meaning}
use Rattle.mc_typing.specs.Columns.{column_ty}
use Rattle.mc_typing.specs.OfType.{IsOfType, IsRowOf}
use Rattle.mc_typing.specs.Operands.{of_collation}
use Rattle.mc_typing.specs.Parts.{node_parts}
use Rattle.mc_typing.specs.Sound.{IsSound, IsSoundNode}
use Rattle.mc_typing.specs.declared.typed.Node.{Node, Node-F, out-Node}
use Rattle.mc_typing.specs.declared.typed.Ty.{Ty}
use Rattle.mc_typing.specs.declared.typed.Ty.TheVariants as ty
use Rattle.mc_typing.specs.declared.typed.TypedExpr.{TypedExpr}
use Rattle.mc_values.specs.Values.{IsTextOfSet}
use Rattle.mc_values.specs.declared.value.Value.{Value}
use Rattle.mc_values.specs.declared.value.Value.TheVariants as value
use Rattle.mc_plan.specs.Constants.{HasText, HasTexts, constant_of, literal}
use Rattle.mc_plan.specs.Entries.{value_at}
use Rattle.mc_plan.specs.Plans.{type_collation}
use Rattle.mc_plan.specs.Rejects.{IsOfSet}
use Rattle.mc_plan.specs.Steps.{HasSet, IsInBook}

each_get : {A : Type 0} (P : A → Type 0) (xs : List A) → AllByRecursion P xs → (i : ℕ) (x : A)
    → slice_get xs i ≡ Some x → P x
each_get P [] h i x e = absurd (cc)
each_get P (y ∷ xs) h zero x e = let same : y ≡ x = cc in subst P same h.0
each_get P (y ∷ xs) h (suc i) x e = each_get P xs h.1 i x e

-- The catalog's tables are lawful.
pub lawful_at : (c : Catalog) → IsLawful c → (place : ℕ) (table : TableDecl)
    → slice_get c.tables place ≡ Some table → IsLawfulTable (length c.collations) table
lawful_at c l place table e = each_get (IsLawfulTable (length c.collations)) c.tables
    (recursion_from_All (IsLawfulTable (length c.collations)) c.tables l.so_far.tables) place table
    e

-- There is a first collation, whose set is binary.
pub some_collations : (c : Catalog) → IsLawful c → 0 < length c.collations
some_collations c l = omega (arith, l.so_far.connection)

first_binary : (collations : List CollDecl) → take 9 collations ≡ built_in_collations
    → collation_set collations 0 ≡ Binary
first_binary [] e = absurd (cc)
first_binary (x ∷ xs) e =
    let k : option_map (λ (d : CollDecl). d.charset) (slice_get (take 9 (x ∷ xs)) 0) ≡ Some Binary =
    ap (λ l. option_map (λ (d : CollDecl). d.charset) (slice_get l 0)) e in
    cc

-- The collation of a type is one of the catalog.
in_catalog : (count : ℕ) (type : ColumnType) → 0 < count → IsLawfulType count type
    → IfSome (type_collation type) (λ coll. coll.0 < count)
in_catalog count of.BigInt z l = tt
in_catalog count (of.Char n coll) z l = l.2
in_catalog count (of.VarChar n coll) z l = l.2
in_catalog count (of.Binary n) z l = z
in_catalog count (of.VarBinary n) z l = z

column_in : (count : ℕ) (columns : List ColumnDecl) (o : Option ColumnDecl) → 0 < count
    → ((column : ColumnDecl) → o ≡ Some column → IsLawfulType count column.ty)
    → IfSome (option_and_then (λ column. type_collation column.ty) o) (λ coll. coll.0 < count)
column_in count columns None z l = tt
column_in count columns (Some column) z l = in_catalog count column.ty z (l column refl)

pub index_in : (count : ℕ) (table : TableDecl) → 0 < count → IsLawfulTable count table
    → (index : IndexDecl) → IsInBook count table.columns index
index_in count table z l index =
    column_in count table.columns (slice_get table.columns index.column) z
    (each_get (λ column. IsLawfulType count column.ty) table.columns
    (recursion_from_All (λ (column : ColumnDecl). IsLawfulType count column.ty) table.columns
    l.types) index.column)

pub indexes_in : (count : ℕ) (table : TableDecl) → 0 < count → IsLawfulTable count table
    → (indexes : List IndexDecl) → All (IsInBook count table.columns) indexes
indexes_in count table z l indexes =
    λ k d w. index_in count table z l (slice_index_or indexes k d)

-- Values of a text column are of the set of its collation.
text_of_set : (a : Operand) (set : Charset) (v : Value) → a.charset ≡ set → IsOfType (ty.Str a) v
    → IsOfSet set v
text_of_set a set value.Null s h = tt
text_of_set a set (value.Int number) s h = absurd h
text_of_set a set (value.Str from text) s h =
    (h.0 ∙ s, subst (λ f. IsWellFormed f text) (h.0 ∙ s) h.1)

-- What texts of a column of a collation are as operands, and binary strings of a column.
abbrev text_operand : Catalog → CollId → Operand
text_operand c id = of_collation (collation_set c.collations id.0) id implicit
    (cap_of (collation_set c.collations id.0))

abbrev binary_operand : Operand
binary_operand = of_collation Binary (record { 0 = 0 }) implicit (cap_of Binary)

value_of_set : (c : Catalog) (meaning : ℕ → Meaning) → IsLawful c
    → FitsCatalog c (length c.collations) (λ id. (meaning id).charset)
    → (type : ColumnType) → IfSome (type_collation type) (λ coll. coll.0 < length c.collations)
    → (v : Value) → IsOfType (column_ty c type) v
    → IfSome (type_collation type) (λ coll. IsOfSet (meaning coll.0).charset v)
value_of_set c meaning l f of.BigInt w v h = tt
value_of_set c meaning l f (of.Char n coll) w v h =
    text_of_set (text_operand c coll) (meaning coll.0).charset v (sym (f.sets coll.0 w)) h
value_of_set c meaning l f (of.VarChar n coll) w v h =
    text_of_set (text_operand c coll) (meaning coll.0).charset v (sym (f.sets coll.0 w)) h
value_of_set c meaning l f (of.Binary n) w v h =
    text_of_set binary_operand (meaning 0).charset v
    (sym (f.sets 0 w ∙ first_binary c.collations l.so_far.built_in)) h
value_of_set c meaning l f (of.VarBinary n) w v h =
    text_of_set binary_operand (meaning 0).charset v
    (sym (f.sets 0 w ∙ first_binary c.collations l.so_far.built_in)) h

at_value : (type : Ty) (o : Option Value) → IsSomeAnd o (IsOfType type)
    → IsOfType type (option_map_or (λ it. it) o value.Null)
at_value type None h = absurd h
at_value type (Some v) h = h

at_column : (c : Catalog) (meaning : ℕ → Meaning) → IsLawful c
    → FitsCatalog c (length c.collations) (λ id. (meaning id).charset) → (o : Option ColumnDecl)
    → IfSome (option_and_then (λ column. type_collation column.ty) o)
    (λ coll. coll.0 < length c.collations)
    → (v : Value) → ((column : ColumnDecl) → o ≡ Some column → IsOfType (column_ty c column.ty) v)
    → IfSome (option_and_then (λ column. type_collation column.ty) o)
    (λ coll. IsOfSet (meaning coll.0).charset v)
at_column c meaning l f None w v h = tt
at_column c meaning l f (Some column) w v h =
    value_of_set c meaning l f column.ty w v (h column refl)

-- A row of the table has texts of the set in the column of an index.
pub has_set : (c : Catalog) (meaning : ℕ → Meaning) → IsLawful c
    → FitsCatalog c (length c.collations) (λ id. (meaning id).charset) → (table : TableDecl)
    → IsLawfulTable (length c.collations) table → (index : IndexDecl) (row : List Value)
    → IsRowOf (map (λ column. column_ty c column.ty) table.columns) row
    → HasSet meaning table.columns index row
has_set c meaning l f table t index row h =
    at_column c meaning l f (slice_get table.columns index.column)
    (index_in (length c.collations) table (some_collations c l) t index)
    (value_at row index.column)
    (λ column e. at_value (column_ty c column.ty) (slice_get row index.column)
    (h index.column (column_ty c column.ty)
    (slice_get-map (λ (d : ColumnDecl). column_ty c d.ty) table.columns index.column
    ∙ ap (option_map (λ (d : ColumnDecl). column_ty c d.ty)) e)))

-- Constants

-- What is used of sound expressions.
pub record Sound (c : Catalog) (columns aggregates : List Ty) : Type 0 where
  pub node : (x : TypedExpr) → IsSound c columns aggregates x
      → IsSoundNode c columns aggregates x.ty (out-Node x.node)
  pub parts : (x : TypedExpr) → IsSound c columns aggregates x
      → All (IsSound c columns aggregates) (node_parts (out-Node x.node))

of_set : (type : Ty) (v : Value) → IsOfType type v → IsTextOfSet v
of_set type value.Null h = tt
of_set type (value.Int number) h = tt
of_set ty.Null (value.Str set text) h = absurd h
of_set ty.Int (value.Str set text) h = absurd h
of_set (ty.Str a) (value.Str set text) h = h.1

module _ (c : Catalog) (columns aggregates : List Ty) (sound : Sound c columns aggregates) where
  literal_text : (type : Ty) (node : Node-F Node TypedExpr)
      → IsSoundNode c columns aggregates type node → IfSome (literal node) IsTextOfSet
  literal_text type (Node-F.Const it) h = of_set type it h.0
  literal_text type node h = tt

  constant_text : (type : Ty) (node : Node-F Node TypedExpr)
      → IsSoundNode c columns aggregates type node
      → AllByRecursion (IsSound c columns aggregates) (node_parts node)
      → IfSome (constant_of node) IsTextOfSet
  constant_text type (Node-F.Collate x) h p =
      literal_text x.ty (out-Node x.node) (sound.node x p.0)
  constant_text type (Node-F.Const it) h p = literal_text type (Node-F.Const it) h
  constant_text type node h p = tt

  has_text : (e : TypedExpr) → IsSound c columns aggregates e → HasText e
  has_text e h = constant_text e.ty (out-Node e.node) (sound.node e h)
      (recursion_from_All (IsSound c columns aggregates) (node_parts (out-Node e.node))
      (sound.parts e h))

  has_texts : (e : TypedExpr) → IsSound c columns aggregates e → HasTexts e
  has_texts e h = All-weaker (IsSound c columns aggregates) HasText has_text
      (node_parts (out-Node e.node)) (sound.parts e h)

  -- The constants of sound conjuncts are texts of their sets.
  pub have_texts : (es : List TypedExpr) → All (IsSound c columns aggregates) es → All HasTexts es
  have_texts es h = All-weaker (IsSound c columns aggregates) HasTexts has_texts es h
