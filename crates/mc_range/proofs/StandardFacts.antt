-- The definitions at worked examples, computed: an excerpt of the keys of UTS #10, version 4.0.0,
-- padded with the space's weight, and the same with the contraction ch.
use Rattle.std.proofs.Common.{◌≡◌, ℕ, ◌==◌, true, false, List, [], ◌∷◌, None, length, refl}
use Rattle.std.proofs.Common.{if◌then◌else◌}
use Rattle.std.specs.List.{flat_map}
use Rattle.mc_charset.specs.declared.charset.Charset.TheVariants.{Utf8mb4}
use Rattle.mc_order.specs.declared.pad.Pad.TheVariants.{PadSpace, NoPad}
use Rattle.mc_order.specs.Meaning.{Meaning}
use Rattle.mc_order.specs.Order.{list_order, order_to_end}
use Rattle.mc_key.specs.Keys.{top}
use Rattle.mc_like.specs.declared.item.PatternItem.TheVariants.{Literal, Any}
use Rattle.mc_like.specs.Items.{literal_front}
use Rattle.mc_range.specs.Candidates.{numbers_from, candidates, ends, greatest}
use Rattle.mc_range.specs.Intervals.{from_to, begins_with, equal_front, like_list}
use Rattle.mc_range.specs.Safe.{is_safe, literal_list}

-- the first weight of a, c, C and TAB; no other character of the examples is weighed alone
unfoldable weight : ℕ → List ℕ
weight code =
    if code == 0x61 then 0xE33 ∷ []
    else (if code == 0x63 then 0xE60 ∷ [] else (if code == 0x43 then 0xE60 ∷ [] else []))

-- the excerpt, with these contractions and tails
abbrev excerpt : List (List ℕ) → List (List ℕ) → Meaning
excerpt contractions tails = record {
  charset = Utf8mb4;
  pad = PadSpace;
  space = 0x209;
  levels = 1;
  weight_width = 2;
  added = 0;
  level_list = λ level codes. flat_map weight codes;
  contractions = contractions;
  tails = tails;
  floor = λ k. 0;
}

abbrev plain : Meaning
plain = excerpt [] []

abbrev with_ch : Meaning
with_ch = excerpt ((0x63 ∷ 0x68 ∷ []) ∷ []) ((0xE60 ∷ []) ∷ [])

-- ß has the weights of ss, so one character of a text equal to it may have none, one or both.
sharp_s :
    candidates 0 [] (0xFEA ∷ 0xFEA ∷ []) ≡ [] ∷ (0xFEA ∷ []) ∷ (0xFEA ∷ 0xFEA ∷ []) ∷ []
unfolding candidates numbers_from
sharp_s = refl

-- ch has weights behind those of c; one character of a text equal to it may be c: each of three
-- fronts alone and with the tail, and the lists that go on.
ch_in_seven : length (equal_front with_ch 1 (0xE60 ∷ 0xFC00 ∷ [])) ≡ 7
unfolding candidates numbers_from
ch_in_seven = refl

-- What is not above a, by its first character: up to the list of a, above the empty list.
up_to_a : greatest PadSpace 0x209 (ends plain 1 (0xE33 ∷ []) []) ≡ 0xE33 ∷ []
unfolding candidates numbers_from list_order order_to_end
up_to_a = refl

-- c begins the contraction ch, C has its weight, and a doesn't.
c_unsafe : is_safe with_ch 0x63 ≡ false
unfolding weight
c_unsafe = refl

capital_unsafe : is_safe with_ch 0x43 ≡ false
unfolding weight
capital_unsafe = refl

a_safe : is_safe with_ch 0x61 ≡ true
unfolding weight
a_safe = refl

-- 'c%' has no safe literals, and 'a%' has one.
no_list : literal_list with_ch None (Literal 0x63 ∷ Any ∷ []) ≡ []
unfolding weight literal_front
no_list = refl

one_list : literal_list with_ch None (Literal 0x61 ∷ Any ∷ []) ≡ 0xE33 ∷ []
unfolding weight literal_front
one_list = refl

-- U+00AD has no weights, so a pattern of it names no intervals.
soft_hyphen : like_list PadSpace (literal_list plain None (Literal 0xAD ∷ [])) ≡ None
unfolding weight literal_front
soft_hyphen = refl

-- Unpadded, the list that a pattern begins with lies in its own interval.
unpadded : begins_with NoPad (0xE33 ∷ []) ≡ from_to (0xE33 ∷ []) (0xE33 ∷ top ∷ [])
unpadded = refl
