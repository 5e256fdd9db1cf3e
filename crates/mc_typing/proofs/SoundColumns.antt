-- Columns are sound.
use Rattle.std.proofs.Common.{◌≡◌, ℕ, suc, zero, List, [], ◌∷◌, Option, None, Some}
use Rattle.std.proofs.Common.{length, map, refl, ap, subst, arith}
use Rattle.std.proofs.lemmas.Option.{get_or_from_slice_get, slice_get_within}
use Rattle.std.specs.Prelude.{IfOk, Ok, Err, option_map, slice_get}
use Rattle.std.specs.Option.{option_map_or}
use Rattle.mc_charset.specs.declared.charset.Charset.TheVariants.{Binary as SetBinary}
use Rattle.mc_convert.specs.Classes.{cap_of}
use Rattle.mc_coerce.specs.Levels.{implicit}
use Rattle.mc_catalog.specs.Lawful.{IsLawful, IsLawfulType}
use Rattle.mc_catalog.specs.LookUp.{collation_set}
use Rattle.mc_catalog.specs.declared.catalog.Catalog.{Catalog}
use Rattle.mc_catalog.specs.declared.catalog.ColumnDecl.{ColumnDecl}
use Rattle.mc_catalog.specs.declared.catalog.ColumnType.{ColumnType}
use Rattle.mc_catalog.specs.declared.catalog.ColumnType.TheVariants.{BigInt, Char, VarChar, Binary}
use Rattle.mc_catalog.specs.declared.catalog.ColumnType.TheVariants.{VarBinary}
use Rattle.mc_typing.specs.declared.scope.Scope.{Scope}
use Rattle.mc_typing.specs.declared.typed.Node.{Node, Node-F}
use Rattle.mc_typing.specs.declared.typed.Node.TheVariants as node
use Rattle.mc_typing.specs.declared.typed.Ty.{Ty}
use Rattle.mc_typing.specs.declared.typed.TypedExpr.{TypedExpr}
use Rattle.mc_typing.specs.Columns.{column, column_at, column_of_table, column_ty}
use Rattle.mc_typing.specs.Columns.{found_column, is_table, place_of}
use Rattle.mc_typing.specs.Messages.{no_column}
use Rattle.mc_typing.specs.Operands.{IsTyOf}
use Rattle.mc_typing.specs.Scope.{IsScope, columns_of}
use Rattle.mc_typing.specs.SoundStatements.{row_types}
use Rattle.mc_typing.proofs.Scopes.{columns_lawful}
use Rattle.mc_typing.proofs.SoundOperands.{either}
use Rattle.mc_typing.proofs.SoundTexts.{of_collation_sound}
use Rattle.mc_typing.proofs.SoundTrees.{IsFine, fine_made}
use Rattle.mc_typing.proofs.Usual.{bin_of_set}

mapped_at : {A B : Type 0} (f : A → B) (xs : List A) (k : ℕ) (x : A) → slice_get xs k ≡ Some x
    → slice_get (map f xs) k ≡ Some (f x)
mapped_at f [] k x e = absurd (cc)
mapped_at f (y ∷ xs) zero x e = ap (option_map f) e
mapped_at f (y ∷ xs) (suc k) x e = mapped_at f xs k x e

column_typed : (c : Catalog) (ty : ColumnType) → IsLawful c → IsLawfulType (length c.collations) ty
    → IsTyOf c (column_ty c ty)
column_typed c BigInt lawful h = tt
column_typed c (Char n id) lawful h =
    of_collation_sound c (collation_set c.collations id.0) id implicit
    (cap_of (collation_set c.collations id.0)) (omega arith) (h.2, refl)
column_typed c (VarChar n id) lawful h =
    of_collation_sound c (collation_set c.collations id.0) id implicit
    (cap_of (collation_set c.collations id.0)) (omega arith) (h.2, refl)
column_typed c (Binary n) lawful h =
    of_collation_sound c SetBinary (record { 0 = 0 }) implicit (cap_of SetBinary) (omega arith)
    (bin_of_set c SetBinary lawful)
column_typed c (VarBinary n) lawful h =
    of_collation_sound c SetBinary (record { 0 = 0 }) implicit (cap_of SetBinary) (omega arith)
    (bin_of_set c SetBinary lawful)

module _ (c : Catalog) (s : Scope) (scope : IsScope c s) (aggregates : List Ty) where
  abbrev Sound : TypedExpr → Type 0
  Sound x = IsFine c (row_types c s.table) aggregates x

  pub column_at_sound : (place : ℕ) (d : ColumnDecl) → slice_get (columns_of c s) place ≡ Some d
      → Sound (column_at c place d)
  column_at_sound place d e =
      let lawful : IsLawfulType (length c.collations) d.ty =
      subst (λ (x : ColumnDecl). IsLawfulType (length c.collations) x.ty)
      (get_or_from_slice_get (columns_of c s) place d d e)
      ((columns_lawful c s scope).0 place d (slice_get_within (columns_of c s) place d e)) in
      subst (λ (n : Node). Sound (record { node = n; ty = column_ty c d.ty }))
      (node.rolls-Column place)
      (fine_made c (row_types c s.table) aggregates (Node-F.Column place) (column_ty c d.ty)
      (column_typed c d.ty scope.lawful lawful)
      (mapped_at (λ x. column_ty c x.ty) (columns_of c s) place d e) tt)

  found_sound : (name : List ℕ) (place : ℕ) (found : Option ColumnDecl)
      → slice_get (columns_of c s) place ≡ found
      → IfOk (option_map_or (λ x. Ok x) (option_map (column_at c place) found)
      (Err (no_column name))) Sound
  found_sound name place None e = tt
  found_sound name place (Some d) e = column_at_sound place d e

  place_sound : (name : List ℕ) (place : Option ℕ)
      → IfOk (elim place [
        | None ↦ Err (no_column name)
        | Some p ↦ option_map_or (λ x. Ok x) (found_column c (columns_of c s) p)
            (Err (no_column name))
      ]) Sound
  place_sound name None = tt
  place_sound name (Some p) = found_sound name p (slice_get (columns_of c s) p) refl

  pub column_sound : (name : List ℕ) → IfOk (column c s name) Sound
  column_sound name = place_sound name (place_of (columns_of c s) name)

  pub column_of_table_sound : (table name : List ℕ) → IfOk (column_of_table c s table name) Sound
  column_of_table_sound table name = either Sound (is_table c s table) (column c s name)
      (Err (no_column name)) (λ _. column_sound name) (λ _. tt)
