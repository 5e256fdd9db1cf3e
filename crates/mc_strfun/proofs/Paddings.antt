-- Fillings as whole copies and the front of another one, and the values of padded texts.
use Rattle.std.proofs.Common.{◌≡◌, ℕ, zero, suc, ◌+◌, ◌-◌, ◌*◌, ◌/◌, ◌%◌, ◌<◌, ◌≤◌, ℤ, pos, negsuc, ◌<ℤ◌, ◌≤ℤ◌, List, [], ◌∷◌, ◌++◌, Option, Some, None, length, take, append_assoc, append-nil, refl, sym, ap, subst, ◌∙◌, arith, length-append}
use Rattle.std.specs.Prelude.{option_and_then, option_map}
use Rattle.std.specs.List.{repeat}
use Rattle.std.proofs.lemmas.Int.{ints}
use Rattle.std.proofs.lemmas.List.{length-take, take-append-le}
use Rattle.std.proofs.Math.Seq.{take-append-add}
use Rattle.std.proofs.Math.Nat.{suc-mul, mod-lt, div-add-mod', mul-le-mul_left}
use Rattle.mc_charset.specs.declared.charset.Charset.{Charset}
use Rattle.mc_charset.specs.Chars.{chars, spell_all, Spells}
use Rattle.mc_values.specs.Values.{greatest_string, within_limit}
use Rattle.mc_strfun.specs.Joins.{spelled_within}
use Rattle.mc_strfun.specs.Numbers.{natural}
use Rattle.mc_strfun.specs.Pads.{filling, left_padded, right_padded}
use Rattle.mc_strfun.proofs.Joined.{Joins, copies_spelled, spelled_value}
use Rattle.mc_strfun.proofs.Lengths.{as_long, Spells_nil}
use Rattle.mc_strfun.proofs.Limits.{length-repeat, within_limit-fits, within_limit-long}

-- The list

front_of_copies : (r k : ℕ) (xs : List ℕ) → r < length xs → r ≤ k → take r (repeat k xs) ≡ take r xs
front_of_copies zero zero xs h l = refl
front_of_copies (suc r) zero xs h l = absurd (omega (arith, l))
front_of_copies r (suc k) xs h l = take-append-le r xs (repeat k xs) (omega (arith, h))

take_copies : (q r k : ℕ) (xs : List ℕ) → r < length xs → r ≤ k → take (q * length xs + r) (repeat (q + k) xs) ≡ repeat q xs ++ take r xs
take_copies zero r k xs h l =
    let n : 0 * length xs + r ≡ r = omega arith in
    let m : 0 + k ≡ k = omega arith in
    ap (λ x. take x (repeat (0 + k) xs)) n ∙ ap (λ x. take r (repeat x xs)) m ∙ front_of_copies r k xs h l
take_copies (suc q) r k xs h l =
    let n : suc q * length xs + r ≡ length xs + (q * length xs + r) = omega (arith, suc-mul q (length xs)) in
    let m : suc q + k ≡ suc (q + k) = omega arith in
    ap (λ x. take x (repeat (suc q + k) xs)) n ∙ ap (λ x. take (length xs + (q * length xs + r)) (repeat x xs)) m
    ∙ take-append-add xs (repeat (q + k) xs) (q * length xs + r)
    ∙ ap (λ ys. xs ++ ys) (take_copies q r k xs h l) ∙ sym (append_assoc xs (repeat q xs) (take r xs))

pub whole_copies : (n : ℕ) (xs : List ℕ) → 0 < length xs → take n (repeat n xs) ≡ repeat (n / length xs) xs ++ take (n % length xs) xs
whole_copies n xs p =
    let m = length xs in
    let q = n / m in
    let r = n % m in
    let sum : q * m + r ≡ n = div-add-mod' n m in
    let once : q * 1 ≤ q * m = mul-le-mul_left q (omega (arith, p)) in
    let short : r < m = mod-lt n p in
    let parts : n ≡ q + (n - q) = omega (arith, sum, once) in
    ap (λ x. take x (repeat n xs)) (sym sum) ∙ ap (λ x. take (q * m + r) (repeat x xs)) parts
    ∙ take_copies q r (n - q) xs short (omega (arith, sum, once))

pub length-filling : (n : ℕ) (xs : List ℕ) → 0 < length xs → length (take n (repeat n xs)) ≡ n
length-filling n xs p =
    let once : n * 1 ≤ n * length xs = mul-le-mul_left n (omega (arith, p)) in
    omega (arith, length-take n (repeat n xs), length-repeat n xs, once)

-- The padded text

pub padded_spelled : Joins → (set : Charset) (codes more its before behind pad rest : List ℕ) (n : ℕ) → Spells set codes before → Spells set more behind
    → Spells set its pad → 0 < length its → Spells set (take (n % length its) its) rest
    → Spells set (codes ++ (take n (repeat n its) ++ more)) (before ++ (repeat (n / length its) pad ++ (rest ++ behind)))
padded_spelled j set codes more its before behind pad rest n b m p l r =
    let copies = copies_spelled j set its pad (n / length its) p in
    let tail = j set (take (n % length its) its) more rest behind r m in
    let both = j set _ _ _ _ copies tail in
    let e : repeat (n / length its) its ++ (take (n % length its) its ++ more) ≡ take n (repeat n its) ++ more =
    sym (append_assoc (repeat (n / length its) its) (take (n % length its) its) more) ∙ ap (λ c. c ++ more) (sym (whole_copies n its l)) in
    j set codes _ before _ b (subst (λ (c : List ℕ). Spells set c (repeat (n / length its) pad ++ (rest ++ behind))) e both)

-- Where there are more characters than a string may have bytes.
by_spelling : (set : Charset) (codes : List ℕ) (o : Option (List ℕ)) → spell_all set codes ≡ o → greatest_string < length codes → option_and_then within_limit o ≡ None
by_spelling set codes None e h = refl
by_spelling set codes (Some text) e h = within_limit-long text (omega (arith, h, as_long set codes text e))

pub too_many : (set : Charset) (codes : List ℕ) → greatest_string < length codes → spelled_within set codes ≡ None
too_many set codes h = by_spelling set codes (spell_all set codes) refl h

-- Fillings

filling_none : (n : ℕ) (pad : List ℕ) → pad ≡ [] → 0 < n → filling n pad ≡ None
filling_none zero pad e h = absurd (omega (arith, h))
filling_none (suc n) pad e h = ap (λ p. filling (suc n) p) e

filling_some : (n : ℕ) (pad : List ℕ) → 0 < length pad → 0 < n → filling n pad ≡ Some (take n (repeat n pad))
filling_some zero pad l h = absurd (omega (arith, h))
filling_some (suc n) [] l h = absurd (omega (arith, l))
filling_some (suc n) (code ∷ pad) l h = refl

abbrev left_value : Charset → ℕ → List ℕ → Option (List ℕ) → Option (List ℕ)
left_value set n codes o = option_and_then (spelled_within set) (option_map (λ fill. fill ++ take n codes) o)

abbrev right_value : Charset → ℕ → List ℕ → Option (List ℕ) → Option (List ℕ)
right_value set n codes o = option_and_then (spelled_within set) (option_map (λ fill. take n codes ++ fill) o)

left_by : (set : Charset) (count : ℤ) (pad codes : List ℕ) (m : ℕ) (o : Option (List ℕ)) → pos 0 ≤ℤ count → m ≡ natural count - length codes → filling m pad ≡ o
    → left_value set (natural count) codes o ≡ option_and_then (spelled_within set) (left_padded count pad codes)
unfolding left_padded
left_by set (pos n) pad codes m o h e f = ap (left_value set n codes) (sym f ∙ ap (λ k. filling k pad) e)
left_by set (negsuc n) pad codes m o h e f = absurd (omega (arith, ints, h))

right_by : (set : Charset) (count : ℤ) (pad codes : List ℕ) (m : ℕ) (o : Option (List ℕ)) → pos 0 ≤ℤ count → m ≡ natural count - length codes → filling m pad ≡ o
    → right_value set (natural count) codes o ≡ option_and_then (spelled_within set) (right_padded count pad codes)
unfolding right_padded
right_by set (pos n) pad codes m o h e f = ap (right_value set n codes) (sym f ∙ ap (λ k. filling k pad) e)
right_by set (negsuc n) pad codes m o h e f = absurd (omega (arith, ints, h))

pub left_negative : (set : Charset) (count : ℤ) (pad codes : List ℕ) → count <ℤ pos 0 → None ≡ option_and_then (spelled_within set) (left_padded count pad codes)
unfolding left_padded
left_negative set (pos n) pad codes h = absurd (omega (arith, ints, h))
left_negative set (negsuc n) pad codes h = refl

pub right_negative : (set : Charset) (count : ℤ) (pad codes : List ℕ) → count <ℤ pos 0 → None ≡ option_and_then (spelled_within set) (right_padded count pad codes)
unfolding right_padded
right_negative set (pos n) pad codes h = absurd (omega (arith, ints, h))
right_negative set (negsuc n) pad codes h = refl

pub left_cut : (set : Charset) (count : ℤ) (pad codes text : List ℕ) (m : ℕ) → pos 0 ≤ℤ count → m ≡ natural count - length codes → m ≡ 0 → Spells set (take (natural count) codes) text
    → within_limit text ≡ option_and_then (spelled_within set) (left_padded count pad codes)
left_cut set count pad codes text m h e z s =
    spelled_value set (take (natural count) codes) text s ∙ left_by set count pad codes m (Some []) h e (ap (λ k. filling k pad) z)

pub right_cut : (set : Charset) (count : ℤ) (pad codes text : List ℕ) (m : ℕ) → pos 0 ≤ℤ count → m ≡ natural count - length codes → m ≡ 0 → Spells set (take (natural count) codes) text
    → within_limit text ≡ option_and_then (spelled_within set) (right_padded count pad codes)
right_cut set count pad codes text m h e z s =
    spelled_value set (take (natural count) codes) text s
    ∙ ap (spelled_within set) (sym (append-nil (take (natural count) codes)))
    ∙ right_by set count pad codes m (Some []) h e (ap (λ k. filling k pad) z)

-- Nothing to pad with, or more than a string may have.
pub left_refused : (set : Charset) (count : ℤ) (pad codes : List ℕ) (m : ℕ) → pos 0 ≤ℤ count → m ≡ natural count - length codes → 0 < m → (0 < length pad → greatest_string < m)
    → None ≡ option_and_then (spelled_within set) (left_padded count pad codes)
left_refused set count [] codes m h e p l = left_by set count [] codes m None h e (filling_none m [] refl p)
left_refused set count (code ∷ pad) codes m h e p l =
    let long = length-filling m (code ∷ pad) (omega arith) in
    let fill = take m (repeat m (code ∷ pad)) in
    let many : greatest_string < m = l (omega arith) in
    sym (too_many set (fill ++ take (natural count) codes) (omega (arith, long, many, length-append fill (take (natural count) codes))))
    ∙ left_by set count (code ∷ pad) codes m (Some fill) h e (filling_some m (code ∷ pad) (omega arith) p)

pub right_refused : (set : Charset) (count : ℤ) (pad codes : List ℕ) (m : ℕ) → pos 0 ≤ℤ count → m ≡ natural count - length codes → 0 < m → (0 < length pad → greatest_string < m)
    → None ≡ option_and_then (spelled_within set) (right_padded count pad codes)
right_refused set count [] codes m h e p l = right_by set count [] codes m None h e (filling_none m [] refl p)
right_refused set count (code ∷ pad) codes m h e p l =
    let long = length-filling m (code ∷ pad) (omega arith) in
    let fill = take m (repeat m (code ∷ pad)) in
    let many : greatest_string < m = l (omega arith) in
    sym (too_many set (take (natural count) codes ++ fill) (omega (arith, long, many, length-append (take (natural count) codes) fill)))
    ∙ right_by set count (code ∷ pad) codes m (Some fill) h e (filling_some m (code ∷ pad) (omega arith) p)

pub left_filled : (set : Charset) (count : ℤ) (pad codes : List ℕ) (m : ℕ) → pos 0 ≤ℤ count → m ≡ natural count - length codes → 0 < m → 0 < length pad
    → spelled_within set ([] ++ (take m (repeat m pad) ++ take (natural count) codes)) ≡ option_and_then (spelled_within set) (left_padded count pad codes)
left_filled set count pad codes m h e p l =
    left_by set count pad codes m (Some (take m (repeat m pad))) h e (filling_some m pad l p)

pub right_filled : (set : Charset) (count : ℤ) (pad codes : List ℕ) (m : ℕ) → pos 0 ≤ℤ count → m ≡ natural count - length codes → 0 < m → 0 < length pad
    → spelled_within set (take (natural count) codes ++ (take m (repeat m pad) ++ [])) ≡ option_and_then (spelled_within set) (right_padded count pad codes)
right_filled set count pad codes m h e p l =
    ap (λ fill. spelled_within set (take (natural count) codes ++ fill)) (append-nil (take m (repeat m pad)))
    ∙ right_by set count pad codes m (Some (take m (repeat m pad))) h e (filling_some m pad l p)

-- What the calls tell

pub chars_filled : (set : Charset) (codes text : List ℕ) → Spells set codes text → 0 < length text → 0 < length codes
chars_filled set [] text s h = absurd (omega (arith, h, ap (λ t. length t) (Spells_nil set text s)))
chars_filled set (code ∷ codes) text s h = omega arith

pub kept_by : (set : Charset) (count : ℤ) (n : ℕ) (text slice kept : List ℕ) → n ≡ natural count → slice ≡ text → Spells set (take n (chars set slice)) kept
    → Spells set (take (natural count) (chars set text)) kept
kept_by set count n text slice kept e f s =
    subst (λ (t : List ℕ). Spells set (take (natural count) (chars set t)) kept) f
    (subst (λ (k : ℕ). Spells set (take k (chars set slice)) kept) e s)

pub missing_by : (set : Charset) (count : ℤ) (m n : ℕ) (text slice : List ℕ) → n ≡ natural count → slice ≡ text → m ≡ n - length (chars set slice)
    → m ≡ natural count - length (chars set text)
missing_by set count m n text slice e f h =
    h ∙ ap (λ k. k - length (chars set slice)) e ∙ ap (λ t. natural count - length (chars set t)) f

length-padded : (q : ℕ) (before pad rest behind : List ℕ)
    → length (before ++ (repeat q pad ++ (rest ++ behind))) ≡ length before + q * length pad + length rest + length behind
length-padded q before pad rest behind =
    omega (
      arith,
      length-append before (repeat q pad ++ (rest ++ behind)),
      length-append (repeat q pad) (rest ++ behind),
      length-append rest behind,
      length-repeat q pad,
    )

padded_text : Joins → (set : Charset) (codes more its before behind pad rest : List ℕ) (n w : ℕ) → w ≡ length its → Spells set codes before → Spells set more behind
    → Spells set its pad → 0 < length its → Spells set (take (n % w) its) rest
    → within_limit (before ++ (repeat (n / w) pad ++ (rest ++ behind))) ≡ spelled_within set (codes ++ (take n (repeat n its) ++ more))
padded_text j set codes more its before behind pad rest n w e b m p l r =
    ap (λ k. within_limit (before ++ (repeat (n / k) pad ++ (rest ++ behind)))) e
    ∙ spelled_value set (codes ++ (take n (repeat n its) ++ more)) _
    (padded_spelled j set codes more its before behind pad rest n b m p l (subst (λ (k : ℕ). Spells set (take (n % k) its) rest) e r))

pub padded_short : Joins → (set : Charset) (codes more its before behind pad rest out : List ℕ) (n w : ℕ) → w ≡ length its → Spells set codes before → Spells set more behind
    → Spells set its pad → 0 < length its → Spells set (take (n % w) its) rest
    → length before + n / w * length pad + length rest + length behind ≤ greatest_string → out ≡ before ++ (repeat (n / w) pad ++ (rest ++ behind))
    → Some out ≡ spelled_within set (codes ++ (take n (repeat n its) ++ more))
padded_short j set codes more its before behind pad rest out n w e b m p l r h o =
    let text = before ++ (repeat (n / w) pad ++ (rest ++ behind)) in
    ap (λ t. Some t) o ∙ sym (within_limit-fits text (omega (arith, h, length-padded (n / w) before pad rest behind)))
    ∙ padded_text j set codes more its before behind pad rest n w e b m p l r

pub padded_long : Joins → (set : Charset) (codes more its before behind pad rest : List ℕ) (n w : ℕ) → w ≡ length its → Spells set codes before → Spells set more behind
    → Spells set its pad → 0 < length its → Spells set (take (n % w) its) rest
    → greatest_string < length before + n / w * length pad + length rest + length behind
    → None ≡ spelled_within set (codes ++ (take n (repeat n its) ++ more))
padded_long j set codes more its before behind pad rest n w e b m p l r h =
    let text = before ++ (repeat (n / w) pad ++ (rest ++ behind)) in
    sym (within_limit-long text (omega (arith, h, length-padded (n / w) before pad rest behind)))
    ∙ padded_text j set codes more its before behind pad rest n w e b m p l r
