-- A range is a number, two dots and a number.
use Rattle.std.proofs.Common.{◌≡◌, ℕ, zero, suc, ◌<◌, Bool, true, false, ◌&&◌, nat_le, Some, None, Option, option_map, List, [], ◌∷◌, ◌++◌, length, length-append, take, drop, position, arith, if◌then◌else◌, fold, refl, sym, ap, ◌∙◌, ◌⊎◌, inl, inr, ◌↔◌, lt-ltb}
use Rattle.std.specs.List.{position_or_len}
use Rattle.std.specs.Option.{option_and_then}
use Rattle.std.proofs.Math.Seq.{take-append_seam, drop-append_seam}
use Rattle.std.proofs.lemmas.Bool.{cases_Bool}
use Rattle.std.proofs.lemmas.Bool.Decides.{nat_tests}
use Rattle.mc_base.specs.Hex.{with_digit, hex_value}
use Rattle.mc_table8.specs.Fields.{number_of, is_dot, behind_dots, parts_of, both, range_of}
use Rattle.mc_table8.specs.WeightFileLaws.{IsRange}

-- No digits make a number of none.
value_none : (digits : List ℕ) (value : ℕ) → fold with_digit None digits ≡ Some value → ⊥
value_none [] value e = cc
value_none (digit ∷ digits) value e = value_none digits value e

-- A dot is no digit.
with_dot : (acc : Option ℕ) → with_digit acc 46 ≡ None
with_dot None = refl
with_dot (Some value) = refl

dot_is : (byte : ℕ) → is_dot byte ≡ true → byte ≡ 46
dot_is byte e = grind (arith, nat_tests)

dot_step : (digit : ℕ) (digits rest : List ℕ) (acc : Option ℕ) (value : ℕ) →
    fold with_digit (with_digit acc digit) digits ≡ Some value →
    (is_dot digit ≡ true) ⊎ (is_dot digit ≡ false) →
    position_or_len is_dot (digits ++ 46 ∷ rest) ≡ length digits →
    position_or_len is_dot (digit ∷ digits ++ 46 ∷ rest) ≡ length (digit ∷ digits)
dot_step digit digits rest acc value e (inl dot) ih =
    let none : with_digit acc digit ≡ None = ap (with_digit acc) (dot_is digit dot) ∙
    with_dot acc in
    absurd (value_none digits value (rw none at e))
dot_step digit digits rest acc value e (inr other) ih = rw (other, ih) (omega arith)

-- The first dot behind digits is the one behind all of them.
dot_place : (digits rest : List ℕ) (acc : Option ℕ) (value : ℕ) →
    fold with_digit acc digits ≡ Some value →
    position_or_len is_dot (digits ++ 46 ∷ rest) ≡ length digits
dot_place [] rest acc value e = refl
dot_place (digit ∷ digits) rest acc value e =
    dot_step digit digits rest acc value e (cases_Bool (is_dot digit))
    (dot_place digits rest (with_digit acc digit) value e)

value_by : (short proper : Bool) (given : Option ℕ) (value : ℕ) →
    (if short then (if proper then given else None) else None) ≡ Some value → given ≡ Some value
value_by true true given value e = e
value_by true false given value e = cc
value_by false proper given value e = cc

-- The digits of a number have a value.
number_value : (digits : ℕ) (field : List ℕ) (value : ℕ) → number_of digits field ≡ Some value →
    fold with_digit (Some 0) field ≡ Some value
number_value digits field value e =
    value_by (nat_le (length field) digits) (nat_le 1 (length field) && nat_le (length field) 6)
    (hex_value field) value e

-- What stands before and behind the dots of a range.
parts_are : (from to : List ℕ) (value : ℕ) → fold with_digit (Some 0) from ≡ Some value →
    parts_of (from ++ 46 ∷ 46 ∷ to) ≡ Some (from, to)
parts_are from to value e =
    let place = dot_place from (46 ∷ to) (Some 0) value e in
    let within : length from < length (from ++ 46 ∷ 46 ∷ to) = omega
    (arith, length-append from (46 ∷ 46 ∷ to)) in
    rw (
      place,
      lt-ltb (length from) (length (from ++ 46 ∷ 46 ∷ to)) within,
      take-append_seam from (46 ∷ 46 ∷ to),
      drop-append_seam from (46 ∷ 46 ∷ to),
    ) refl

-- A number, two dots and a number are read as the range of the two.
range_read : (digits : ℕ) (from to : List ℕ) (first last : ℕ) → number_of digits from ≡ Some first →
    number_of digits to ≡ Some last → range_of digits (from ++ 46 ∷ 46 ∷ to) ≡ Some (first, last)
range_read digits from to first last e i =
    rw (parts_are from to first (number_value digits from first e), e, i) refl

-- A list is its front and what follows.
front_and_rest : (xs : List ℕ) (n : ℕ) → xs ≡ take n xs ++ drop n xs
front_and_rest xs zero = refl
front_and_rest [] (suc n) = refl
front_and_rest (x ∷ xs) (suc n) = ap (λ (ys : List ℕ). x ∷ ys) (front_and_rest xs n)

-- two lists, as a pair
abbrev paired : List ℕ → List ℕ → List ℕ × List ℕ
paired one other = (one, other)

lists-injective : (one other : List ℕ × List ℕ) → Some one ≡ Some other → one ≡ other
lists-injective one other e = cc

numbers-injective : (one other : ℕ × ℕ) → Some one ≡ Some other → one ≡ other
numbers-injective one other e = cc

list-injective : (one other : List ℕ) → Some one ≡ Some other → one ≡ other
list-injective one other e = cc

none_is_not_some : (to : List ℕ) → None ≡ Some to → ⊥
none_is_not_some to e = cc

dots_by : (one other : ℕ) (rest to : List ℕ) → (is_dot one ≡ true) ⊎ (is_dot one ≡ false) →
    (is_dot other ≡ true) ⊎ (is_dot other ≡ false) →
    (if is_dot one && is_dot other then Some rest else None) ≡ Some to →
    one ∷ other ∷ rest ≡ 46 ∷ 46 ∷ to
dots_by one other rest to (inl a) (inl b) e =
    let same : rest ≡ to = list-injective rest to (rw (a, b) at e) in
    rw (dot_is one a, dot_is other b, same) refl
dots_by one other rest to (inl a) (inr b) e = absurd (none_is_not_some to (rw (a, b) at e))
dots_by one other rest to (inr a) b e = absurd (none_is_not_some to (rw a at e))

dots_from : (rest to : List ℕ) → behind_dots rest ≡ Some to → rest ≡ 46 ∷ 46 ∷ to
dots_from [] to e = cc
dots_from (one ∷ []) to e = cc
dots_from (one ∷ other ∷ rest) to e =
    dots_by one other rest to (cases_Bool (is_dot one)) (cases_Bool (is_dot other)) e

parts_at : (field : List ℕ) (dot : ℕ) (behind : Option (List ℕ)) (from to : List ℕ) →
    behind_dots (drop dot field) ≡ behind →
    option_map (λ last. paired (take dot field) last) behind ≡ Some (from, to) →
    field ≡ from ++ 46 ∷ 46 ∷ to
parts_at field dot None from to b e = cc
parts_at field dot (Some last) from to b e =
    let pair = lists-injective (take dot field, last) (from, to) e in
    let front : take dot field ≡ from = ap (λ (parts : List ℕ × List ℕ). parts.0) pair in
    let behind : last ≡ to = ap (λ (parts : List ℕ × List ℕ). parts.1) pair in
    front_and_rest field dot ∙ rw (dots_from (drop dot field) last b, front, behind) refl

parts_by : (field : List ℕ) (place : Option ℕ) (from to : List ℕ) →
    option_and_then
    (λ dot. option_map (λ last. paired (take dot field) last) (behind_dots (drop dot field))) place ≡ Some (from, to) →
    field ≡ from ++ 46 ∷ 46 ∷ to
parts_by field None from to e = cc
parts_by field (Some dot) from to e =
    parts_at field dot (behind_dots (drop dot field)) from to refl e

-- What is read as a range is a number, two dots and a number.
parts_from : (field from to : List ℕ) → parts_of field ≡ Some (from, to) →
    field ≡ from ++ 46 ∷ 46 ∷ to
parts_from field from to e = parts_by field (position is_dot field) from to e

both_are : (one other : Option ℕ) (first last : ℕ) → both one other ≡ Some (first, last) →
    (one ≡ Some first) × (other ≡ Some last)
both_are None other first last e = cc
both_are (Some one) None first last e = cc
both_are (Some one) (Some other) first last e =
    let pair = numbers-injective (one, other) (first, last) e in
    (ap (λ (numbers : ℕ × ℕ). Some numbers.0) pair, ap (λ (numbers : ℕ × ℕ). Some numbers.1) pair)

is_range : (digits : ℕ) (field : List ℕ) (parts : Option (List ℕ × List ℕ)) (first last : ℕ) →
    parts_of field ≡ parts →
    option_and_then
    (λ parts. both (number_of digits parts.0) (number_of digits parts.1)) parts ≡ Some
    (first, last) →
    IsRange digits field first last
is_range digits field None first last p e = cc
is_range digits field (Some (from, to)) first last p e =
    let numbers = both_are (number_of digits from) (number_of digits to) first last e in
    (from, to, parts_from field from to p, numbers.0, numbers.1)

pub range_iff : (digits : ℕ) (field : List ℕ) (first last : ℕ) →
    (range_of digits field ≡ Some (first, last)) ↔ IsRange digits field first last
range_iff digits field first last = (
  (λ e. is_range digits field (parts_of field) first last refl e),
  (λ (from, to, e, here, there). sym (ap (range_of digits) (sym e)) ∙ range_read digits from to first last here there),
)
