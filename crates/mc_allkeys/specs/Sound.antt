-- What holds of each table: texts of one to six code points, and weights of two bytes.
use Rattle.std.specs.Prelude.{◌≡◌, ℕ, ◌≤◌, true, List, length, Some}
use Rattle.std.specs.FinMap as map
use Rattle.std.specs.List.{All}
use Rattle.mc_allkeys.specs.Table.{ElementTable}
use Rattle.mc_allkeys.specs.declared.element.Element.{Element}
use Rattle.mc_allkeys.specs.declared.range.Range.{Range}

-- Each weight of an element is a number of two bytes.
pub record HasWeights (element : Element) : Type 0 where
  pub primary : element.p ≤ 0xFFFF
  pub secondary : element.s ≤ 0xFFFF
  pub tertiary : element.t ≤ 0xFFFF

-- A text has one to six code points.
pub record IsText (text : List ℕ) : Type 0 where
  pub some : 1 ≤ length text
  pub short : length text ≤ 6
  pub codes : All (λ code. code ≤ 0x10FFFF) text

-- Each text that has an entry is one to six code points; each weight and each base has two bytes.
pub record IsSound (table : ElementTable) : Type 0 where
  pub texts : (text : List ℕ) → map.contains_key table.entries text ≡ true → IsText text
  pub weights : (text : List ℕ) (elements : List Element) →
      map.get table.entries text ≡ Some elements → All HasWeights elements
  pub bases : All (λ (range : Range). range.base ≤ 0xFFFF) table.ranges
