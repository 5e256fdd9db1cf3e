-- The binary collations keep the laws.
use Rattle.std.proofs.Common.{◌≡◌, ℕ, ◌+◌, ◌-◌, ◌^◌, ◌<◌, ◌≤◌, Bool}
use Rattle.std.proofs.Common.{true, false, cond, List, []}
use Rattle.std.proofs.Common.{◌∷◌, Some, map, length, take, drop, append-nil, refl, sym, ap}
use Rattle.std.proofs.Common.{◌∙◌}
use Rattle.std.proofs.Common.{inl, arith}
use Rattle.std.specs.List.{All}
use Rattle.std.proofs.lemmas.List.Elements.{All-nil, All-cons}
use Rattle.mc_charset.specs.declared.charset.Charset.{Charset}
use Rattle.mc_charset.specs.declared.charset.Charset.TheVariants.{Latin1, Ascii, Utf8mb3, Utf8mb4}
use Rattle.mc_charset.specs.declared.charset.Charset.TheVariants.{Ucs2, Utf16, Utf32, Binary}
use Rattle.mc_charset.specs.Chars.{spell, code_points}
use Rattle.mc_charset.specs.CodePoints.{spelled_code_point}
use Rattle.mc_order.specs.declared.pad.Pad.{Pad}
use Rattle.mc_order.specs.declared.pad.Pad.TheVariants.{PadSpace, NoPad}
use Rattle.mc_order.specs.Meaning.{IsCharOf, AreCharsOf}
use Rattle.mc_order.specs.Laws.{KeepsSpace, KeepsSettings, IsWeight, IsCut, HasWeightPerChar}
use Rattle.mc_order.specs.Laws.{IsLawful}
use Rattle.mc_order.specs.WithoutContractions.{without_tails, map-split, map-enough}
use Rattle.mc_order.specs.Bin.{is_one_byte, first_byte, bin_number, bin_meaning}
use Rattle.mc_order.specs.Characters.{AreCharsOf-parts}
use Rattle.mc_order.specs.Spelling.{one_byte}

space_number : (set : Charset) → bin_number set 0x20 + 1 ≡ 0x21
unfolding bin_number spell
space_number Latin1 = refl
space_number Ascii = refl
space_number Utf8mb3 = refl
space_number Utf8mb4 = refl
space_number Ucs2 = refl
space_number Utf16 = refl
space_number Utf32 = refl
space_number Binary = refl

bin_space_weight : (set : Charset) (pad : Pad) → KeepsSpace pad (bin_meaning (set, pad))
bin_space_weight set PadSpace = ap (λ w. w ∷ []) (space_number set)
bin_space_weight set NoPad = refl

width_some : (one : Bool) → 1 ≤ cond one 1 3
width_some true = omega arith
width_some false = omega arith

width_three : (one : Bool) → cond one 1 3 ≤ 3
width_three true = omega arith
width_three false = omega arith

bin_settings : (set : Charset) (pad : Pad) → KeepsSettings (bin_meaning (set, pad))
bin_settings set pad = record {
  some_level = omega arith;
  three_levels = omega arith;
  levels_unpadded = λ more. absurd (omega arith);
  some_width = width_some (is_one_byte set);
  three_wide = width_three (is_one_byte set);
  one_added = omega arith;
  space_weight = bin_space_weight set pad;
}

number_fits : (set : Charset) (one : Bool) (code : ℕ) (text : List ℕ)
    → is_one_byte set ≡ one →
    spell set code ≡ Some text →
    (bin_number set code < 256 ^ cond one 1 3) × (bin_number set code < code_points)
unfolding bin_number
number_fits set true code text is s =
    let h = one_byte set code text is s in
    let b : first_byte (spell set code) ≡ h.0 =
    ap first_byte s ∙ ap (λ t. first_byte (Some t)) h.1 in
    rw is (let l = h.2 in (omega arith, omega arith))
number_fits set false code text is s = let h =
    spelled_code_point set code text s in rw is (omega arith, omega arith)

back : (n : ℕ) → n + 1 - 1 ≡ n
back n = omega arith

bin_weight_fits : (set : Charset) (pad : Pad) (code : ℕ) → IsCharOf set code →
    IsWeight (bin_meaning (set, pad)) (bin_number set code + 1)
bin_weight_fits set pad code c =
    let h = number_fits set (is_one_byte set) code c.0 refl c.1 in
    let l = h.0 in let u = h.1 in
    (omega arith, omega arith, omega arith, rw (back (bin_number set code)) l)

bin_bounds : (set : Charset) (pad : Pad) (codes : List ℕ) → AreCharsOf set codes →
    All (IsWeight (bin_meaning (set, pad))) (map (λ code. bin_number set code + 1) codes)
bin_bounds set pad [] chars = All-nil (IsWeight (bin_meaning (set, pad)))
bin_bounds set pad (c ∷ cs) chars =
    let parts = AreCharsOf-parts set c cs chars in
    All-cons (IsWeight (bin_meaning (set, pad))) (bin_number set c + 1) (map
    (λ code. bin_number set code + 1) cs) (bin_weight_fits set pad c parts.0)
    (bin_bounds set pad cs parts.1)

bin_cut : (set : Charset) (pad : Pad) (k : ℕ) (codes : List ℕ) →
    IsCut (bin_meaning (set, pad)) k codes
bin_cut set pad k codes =
    let f : ℕ → ℕ = λ code. bin_number set code + 1 in record {
      kept = map f (take k codes);
      tail = [];
      rest = map f (drop k codes);
      front = sym (append-nil (map f (take k codes)));
      whole = map-split f k codes;
      none_or_tail = inl refl;
      enough = map-enough f k codes;
    }

bin_weights : (set : Charset) (pad : Pad) → HasWeightPerChar (bin_meaning (set, pad))
bin_weights set pad = (refl, λ code c e. cc)

pub bin_lawful : (bin : Charset × Pad) → IsLawful (bin_meaning bin)
bin_lawful (set, pad) = record {
  settings = bin_settings set pad;
  bounds = λ level codes some within chars. bin_bounds set pad codes chars;
  empty = λ level some within. refl;
  cut = λ k codes chars. bin_cut set pad k codes;
  head = λ level code codes some within chars head. refl;
  floor_of = λ k. ((λ weights. refl), λ none. absurd (none (bin_weights set pad)));
  contractions_of = All-nil (λ codes. (2 ≤ length codes) × AreCharsOf set codes);
  tails_of = without_tails (bin_meaning (set, pad)) refl refl;
}
