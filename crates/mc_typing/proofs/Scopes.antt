-- The columns in scope are those of a lawful table.
use Rattle.std.proofs.Common.{◌≡◌, ℕ, ◌<◌, ◌^◌, List, [], Option, None, Some, length, refl, subst, arith}
use Rattle.std.proofs.lemmas.Option.{get_or_from_slice_get, slice_get_within}
use Rattle.std.specs.Prelude.{All, option_map, slice_get, unwrap_or}
use Rattle.std.specs.Option.{option_and_then}
use Rattle.mc_catalog.specs.declared.catalog.Catalog.{Catalog}
use Rattle.mc_catalog.specs.declared.catalog.ColumnDecl.{ColumnDecl}
use Rattle.mc_catalog.specs.declared.catalog.TableDecl.{TableDecl}
use Rattle.mc_catalog.specs.Lawful.{IsLawfulTable, IsLawfulType}
use Rattle.mc_typing.specs.declared.scope.Scope.{Scope}
use Rattle.mc_typing.specs.Scope.{IsScope, columns_of}

abbrev AreLawful : ℕ → List ColumnDecl → Type 0
AreLawful n columns =
    All (λ column. IsLawfulType n column.ty) columns × (length columns < 2 ^ 32)

of_found : (n : ℕ) (found : Option TableDecl) → ((t : TableDecl) → found ≡ Some t → IsLawfulTable n t)
    → AreLawful n (unwrap_or (option_map (λ table. table.columns) found) [])
of_found n None h = ((λ k a e. absurd (omega (arith, e))), omega arith)
of_found n (Some t) h = ((h t refl).types, omega (arith, (h t refl).few_columns))

at_place : (n : ℕ) (tables : List TableDecl) (p : ℕ) (t : TableDecl) → All (IsLawfulTable n) tables
    → slice_get tables p ≡ Some t → IsLawfulTable n t
at_place n tables p t all e = subst (IsLawfulTable n) (get_or_from_slice_get tables p t t e)
    (all p t (slice_get_within tables p t e))

of_place : (n : ℕ) (tables : List TableDecl) (table : Option ℕ) → All (IsLawfulTable n) tables
    → AreLawful n (unwrap_or (option_map (λ t. t.columns) (option_and_then (λ p. slice_get tables p) table)) [])
of_place n tables None all = ((λ k a e. absurd (omega (arith, e))), omega arith)
of_place n tables (Some p) all = of_found n (slice_get tables p) (λ t e. at_place n tables p t all e)

pub columns_lawful : (c : Catalog) (s : Scope) → IsScope c s
    → AreLawful (length c.collations) (columns_of c s)
columns_lawful c s h = of_place (length c.collations) c.tables s.table h.lawful.so_far.tables
