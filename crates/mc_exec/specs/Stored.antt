-- The tables of a catalog with their rows and their indexes.
use Rattle.std.specs.Prelude.{List}
use Rattle.mc_catalog.specs.declared.catalog.Catalog.{Catalog}
use Rattle.mc_index.specs.Entries.{SeenIndex}
use Rattle.mc_values.specs.declared.value.Value.{Value}

-- A catalog, and the rows and the indexes of each of its tables, in the catalog's order.
pub record Stored : Type 0 where
  pub catalog : Catalog
  pub rows : List (List (List Value))
  pub indexes : List (List SeenIndex)
