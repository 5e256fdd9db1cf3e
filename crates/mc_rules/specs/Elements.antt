-- The elements of a piece, and the weight lists of a text: UTS #10, S2.1, S3 and 10.1.3.
use Rattle.std.specs.Prelude.{ℕ, List, [], ◌∷◌}
use Rattle.std.specs.FinMap as map
use Rattle.std.specs.Option.{option_map_or}
use Rattle.mc_allkeys.specs.Levels.{level_list}
use Rattle.mc_allkeys.specs.Table.{ElementTable, contractions_of}
use Rattle.mc_allkeys.specs.declared.element.Element.{Element}
use Rattle.mc_rules.specs.Outside.{outside_of}
use Rattle.mc_rules.specs.declared.family.UcaFamily.{UcaFamily}

-- the elements of a piece without an entry, which is one code point
abbrev pub unlisted_elements : ElementTable → UcaFamily → List ℕ → List Element
unlisted_elements table kind (code ∷ []) = outside_of table kind code
unlisted_elements table kind _ = []

-- the elements of a piece: those of its entry, else those of its code point
abbrev pub elements_of : ElementTable → UcaFamily → List ℕ → List Element
elements_of table kind piece =
    option_map_or (λ elements. elements) (map.get table.entries piece)
    (unlisted_elements table kind piece)

-- the list of a text on a level, by a table and its contractions
abbrev pub table_list : ElementTable → UcaFamily → ℕ → List ℕ → List ℕ
table_list table kind level codes =
    level_list (contractions_of table.entries) (elements_of table kind) level codes
