-- The definitions at known values: binary digits of powers of two and of the numbers before them,
-- and the places of 'a' among 'a' and 'a ' under latin1_bin, padded, and under binary, unpadded.
use Rattle.std.proofs.Common.{◌≡◌, ℕ, [], ◌∷◌, Some, refl}
use Rattle.mc_order.specs.declared.pad.Pad.{Pad}
use Rattle.mc_order.specs.declared.pad.Pad.TheVariants.{NoPad, PadSpace}
use Rattle.mc_order.specs.Order.{list_order, order_to_end}
use Rattle.mc_index.specs.declared.side.Side.TheVariants.{Before, After}
use Rattle.mc_index.specs.Digits.{binary_digits, digits_within}
use Rattle.mc_index.specs.Entries.{SeenIndex}
use Rattle.mc_index.specs.Places.{count_between, place_of}

no_digits : binary_digits 0 ≡ 0
unfolding digits_within
no_digits = refl

digits_of_3 : binary_digits 3 ≡ 2
unfolding digits_within
digits_of_3 = refl

digits_of_4 : binary_digits 4 ≡ 3
unfolding digits_within
digits_of_4 = refl

digits_of_255 : binary_digits 255 ≡ 8
unfolding digits_within
digits_of_255 = refl

digits_of_256 : binary_digits 256 ≡ 9
unfolding digits_within
digits_of_256 = refl

-- 'a', 'a ' with the weights of a character and its number plus 1
two_entries : Pad → ℕ → SeenIndex
two_entries pad space = record {
  pad = pad;
  space = space;
  entries = record { weights = 98 ∷ []; row = 0 } ∷ record { weights = 98 ∷ 33 ∷ []; row = 1 }
      ∷ [];
}

both_padded : place_of (two_entries PadSpace 33) (98 ∷ []) After ≡ 2
unfolding list_order order_to_end two_entries
both_padded = refl

one_unpadded : place_of (two_entries NoPad 0) (98 ∷ []) After ≡ 1
unfolding list_order order_to_end two_entries
one_unpadded = refl

none_before : place_of (two_entries NoPad 0) (98 ∷ []) Before ≡ 0
unfolding list_order order_to_end two_entries
none_before = refl

one_between : count_between (two_entries NoPad 0) (Some (98 ∷ [])) (Some (98 ∷ [])) ≡ 1
unfolding list_order order_to_end two_entries
one_between = refl
