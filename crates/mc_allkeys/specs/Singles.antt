-- The elements of single code points.
use Rattle.std.specs.Prelude.{ℕ, List, Option}
use Rattle.mc_allkeys.specs.Cells.{cell_at, elements_in}
use Rattle.mc_allkeys.specs.declared.element.Element.{Element}
use Rattle.mc_allkeys.specs.declared.page.Cell.{Cell}

-- cells in pages, and the elements that they share
pub record Store : Type 0 where
  pub pages : List (List Cell)
  pub shared : List Element

-- the elements of a code point's entry, if it has one
unfoldable pub single_in : Store → ℕ → Option (List Element)
single_in store code = elements_in store.shared (cell_at store.pages code)

-- how many code points are noted for the contractions that begin with a code point, else 1
unfoldable pub reach_in : Store → ℕ → ℕ
reach_in store code = (cell_at store.pages code).reach
