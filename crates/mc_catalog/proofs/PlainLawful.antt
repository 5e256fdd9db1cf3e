-- The catalog of the built-in collations alone is lawful.
use Rattle.std.proofs.Common.{◌≡◌, ◌≤◌, zero, suc, List, length, drop, refl, arith, rules}
use Rattle.std.specs.List.{IsDistinct, All}
use Rattle.std.specs.Str.{bytes_eq}
use Rattle.std.proofs.lemmas.Map.Made.{AllPairs-from_IsDistinct}
use Rattle.std.proofs.lemmas.Slice.Eq.{bytes_eq-Decides}
use Rattle.mc_charset.specs.Names.{built_in_names}
use Rattle.mc_catalog.specs.BuiltIn.{plain}
use Rattle.mc_catalog.specs.declared.catalog.TableDecl.{TableDecl}
use Rattle.mc_catalog.specs.Lawful.{IsLawful, IsLawfulSoFar, IsLawfulCollation, IsLawfulName, IsLawfulTable}
use Rattle.mc_catalog.specs.declared.catalog.CollDecl.{CollDecl}

-- The names of the built-in collations differ.
distinct : IsDistinct bytes_eq built_in_names
unfolding IsDistinct
distinct = search rules

-- what holds of each member of a list that has none
nothing : {X : Type 0} (P : X → Type 0) (xs : List X) → length xs ≡ 0 → All P xs
nothing P xs e = λ k d lt. absurd (omega arith)

-- The names of the built-in collations are short words of ASCII.
names_lawful : All (λ (declared : CollDecl). IsLawfulName declared.name) plain.collations
names_lawful zero d lt = (omega arith, refl)
names_lawful (suc zero) d lt = (omega arith, refl)
names_lawful (suc (suc zero)) d lt = (omega arith, refl)
names_lawful (suc (suc (suc zero))) d lt = (omega arith, refl)
names_lawful (suc (suc (suc (suc zero)))) d lt = (omega arith, refl)
names_lawful (suc (suc (suc (suc (suc zero))))) d lt = (omega arith, refl)
names_lawful (suc (suc (suc (suc (suc (suc zero)))))) d lt = (omega arith, refl)
names_lawful (suc (suc (suc (suc (suc (suc (suc zero))))))) d lt = (omega arith, refl)
names_lawful (suc (suc (suc (suc (suc (suc (suc (suc zero)))))))) d lt = (omega arith, refl)
names_lawful (suc (suc (suc (suc (suc (suc (suc (suc (suc k))))))))) d lt = absurd (omega arith)

pub plain_so_far : IsLawfulSoFar plain
plain_so_far = record {
  built_in = refl;
  few_collations = omega arith;
  declared = nothing IsLawfulCollation (drop 9 plain.collations) refl;
  collation_names = AllPairs-from_IsDistinct bytes_eq-Decides built_in_names distinct;
  lawful_names = names_lawful;
  few_tables = omega arith;
  tables = nothing (IsLawfulTable 9) plain.tables refl;
  table_names = λ i j d lt below. absurd (omega arith);
  connection = omega arith;
}

pub plain_lawful : IsLawful plain
plain_lawful = record {
  so_far = plain_so_far;
  some_columns = nothing (λ (table : TableDecl). 1 ≤ length table.columns) plain.tables refl;
}
