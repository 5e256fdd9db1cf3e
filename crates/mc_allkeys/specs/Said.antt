-- What a line of an element table says: UTS #10, 9.1 and 9.2.
use Rattle.std.specs.Prelude.{ℕ, ◌==◌, ◌&&◌, Bool, nat_le, nat_lt, nat_eq, List, ◌∷◌, Option, Some}
use Rattle.std.specs.Prelude.{slice_index, if◌then◌else◌}
use Rattle.std.specs.List.{list_any, list_all, starts_with}
use Rattle.std.specs.Option.{option_map_or}
use Rattle.mc_allkeys.specs.Cuts.{cut_at}
use Rattle.mc_allkeys.specs.Listed.{codes_of, elements_of}
use Rattle.mc_allkeys.specs.RangeLine.{range_word, range_line}
use Rattle.mc_allkeys.specs.declared.element.Element.{Element}
use Rattle.mc_allkeys.specs.declared.line.Kind.{Kind}
use Rattle.mc_allkeys.specs.declared.line.Kind.TheVariants as kind
use Rattle.mc_allkeys.specs.declared.range.Range.{Range}

-- what a line says
pub data Said : Type 0 where
  Bad : Said
  Skipped : Said
  Surrogate : Said
  Ranged : Range → Said
  Listed : List ℕ → List Element → Said

-- whether a code point is a surrogate
abbrev pub is_surrogate : ℕ → Bool
is_surrogate code = nat_le 0xD800 code && nat_le code 0xDFFF

-- what a text and its elements say: each has one member or more
abbrev pub listed_by : Option (List ℕ) → Option (List Element) → Said
listed_by (Some (code ∷ codes)) (Some (element ∷ elements)) =
    if list_any is_surrogate (code ∷ codes) then Surrogate
    else Listed (code ∷ codes) (element ∷ elements)
listed_by _ _ = Bad

-- what a line without `@` says: a text, `;`, and its elements
abbrev pub listing : List ℕ → Said
listing body =
    option_map_or (λ cut. listed_by (codes_of cut.0) (elements_of cut.1)) (cut_at 59 body) Bad

-- what a line with `@` at its start says: a range of implicit weights, or something that is skipped
abbrev pub at_line : List ℕ → Said
at_line body =
    if starts_with nat_eq body range_word then option_map_or Ranged (range_line body) Bad
    else if list_all (λ byte. nat_lt byte 128) body then Skipped else Bad

-- what a line says
unfoldable pub said_of : List ℕ → Said
said_of body = if slice_index body 0 == 64 then at_line body else listing body

-- what a line of a kind says with a text and elements
abbrev pub said_by : Kind → List ℕ → List Element → Said
said_by kind.Bad codes elements = Bad
said_by kind.Skipped codes elements = Skipped
said_by kind.Surrogate codes elements = Surrogate
said_by (kind.Ranged range) codes elements = Ranged range
said_by kind.Listed codes elements = Listed codes elements
