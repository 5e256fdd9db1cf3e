-- The contractions of a set, and the lists of its texts: UTS #10, S2.1 and S3.
use Rattle.std.specs.Prelude.{ℕ, Bool, List, filter}
use Rattle.std.specs.List.{list_all}
use Rattle.std.specs.Option.{is_some}
use Rattle.mc_charset.specs.declared.charset.Charset.{Charset}
use Rattle.mc_charset.specs.Chars.{spell}
use Rattle.mc_allkeys.specs.Levels.{text_elements, level_list}
use Rattle.mc_allkeys.specs.Table.{Entries, ElementTable, contractions_of}
use Rattle.mc_allkeys.specs.declared.element.Element.{Element}
use Rattle.mc_rules.specs.Elements.{elements_of}
use Rattle.mc_uca.specs.Kind.{family_of}
use Rattle.mc_uca.specs.declared.kind.UcaKind.{UcaKind}

-- whether the set has each of these characters
abbrev pub is_of_set : Charset → List ℕ → Bool
is_of_set set codes = list_all (λ code. is_some (spell set code)) codes

-- the contractions of a table whose characters all belong to the set: no other one can begin a text
abbrev pub set_contractions : Charset → Entries → List (List ℕ)
set_contractions set entries = filter (is_of_set set) (contractions_of entries)

-- the elements of a text
abbrev pub uca_elements : Charset → UcaKind → ElementTable → List ℕ → List Element
uca_elements set kind table codes =
    text_elements (set_contractions set table.entries) (elements_of table (family_of kind)) codes

-- the list of a text on a level
abbrev pub uca_list : Charset → UcaKind → ElementTable → ℕ → List ℕ → List ℕ
uca_list set kind table level codes =
    level_list (set_contractions set table.entries) (elements_of table (family_of kind)) level codes
