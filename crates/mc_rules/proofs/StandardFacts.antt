-- The definitions at worked characters: bases, ranges, syllables.
use Rattle.std.proofs.Common.{◌≡◌, ℕ, List, [], ◌∷◌, refl}
use Rattle.std.specs.FinMap as map
use Rattle.mc_allkeys.specs.Table.{ElementTable}
use Rattle.mc_allkeys.specs.declared.element.Element.{Element}
use Rattle.mc_allkeys.specs.declared.range.Range.{Range}
use Rattle.mc_rules.specs.Jamo.{jamo_of}
use Rattle.mc_rules.specs.Outside.{pair, outside_of}
use Rattle.mc_rules.specs.declared.family.UcaFamily.TheVariants.{Uca4, Uca520, Uca9}

-- a table of one range and no entries
abbrev bare : ElementTable
bare = record {
  entries = map.empty;
  ranges = record { first = 0x17000; last = 0x18AFF; base = 0xFB00 } ∷ [];
}

-- U+9FA6 is no ideograph of the older versions, and one of 9.0.0.
later_ideograph : outside_of bare Uca520 0x9FA6 ≡ pair 0xFBC1 0x9FA6
unfolding outside_of
later_ideograph = refl

new_ideograph : outside_of bare Uca9 0x9FA6 ≡ pair 0xFB41 0x9FA6
unfolding outside_of
new_ideograph = refl

-- U+20000: the elements of U+FFFD, a number with the last base, an extension.
replaced : outside_of bare Uca4 0x20000 ≡ record { p = 0xFFFD; s = 0x20; t = 2 } ∷ []
unfolding outside_of
replaced = refl

numbered : outside_of bare Uca520 0x20000 ≡ pair 0xFBC4 0x8000
unfolding outside_of
numbered = refl

extension : outside_of bare Uca9 0x20000 ≡ pair 0xFB84 0x8000
unfolding outside_of
extension = refl

-- A range's base comes first.
covered : outside_of bare Uca9 0x17001 ≡ pair 0xFB00 0x8001
unfolding outside_of
covered = refl

-- A syllable of three jamo, and one of two.
three_jamo : jamo_of 1 ≡ 0x1100 ∷ 0x1161 ∷ 0x11A8 ∷ []
three_jamo = refl

two_jamo : jamo_of 28 ≡ 0x1100 ∷ 0x1162 ∷ []
two_jamo = refl
