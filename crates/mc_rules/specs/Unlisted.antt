-- The elements of a code point without an entry, in a place of one size: UTS #10, 10.1.3.
use Rattle.std.specs.Prelude.{List, [], ◌∷◌}
use Rattle.std.specs.List.{flat_map}
use Rattle.std.specs.Option.{option_to_list}
use Rattle.mc_allkeys.specs.Table.{Entries}
use Rattle.mc_allkeys.specs.declared.element.Element.{Element}
use Rattle.mc_rules.specs.Outside.{jamo_elements}
use Rattle.mc_rules.specs.declared.unlisted.Unlisted.{Unlisted}
use Rattle.mc_rules.specs.declared.unlisted.Unlisted.TheVariants.{One, Pair, Syllable}

-- the elements that it holds, those of a syllable by the entries of its jamo
abbrev pub elements_by : Entries → Unlisted → List Element
elements_by entries (One element) = element ∷ []
elements_by entries (Pair first second) = first ∷ second ∷ []
elements_by entries (Syllable jamo) =
    flat_map (jamo_elements entries) (jamo.leading ∷ jamo.vowel ∷ option_to_list jamo.trailing)
