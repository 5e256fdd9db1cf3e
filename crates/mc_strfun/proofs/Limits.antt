-- Where a text is within the greatest length, and how long copies, digits and joined texts are.
use Rattle.std.proofs.Common.{◌≡◌, Bool, IsTrue, false, ℕ, zero, suc, ◌+◌, ◌*◌, ◌/◌, ◌%◌, ◌<◌, ◌≤◌, List, [], ◌∷◌, ◌++◌, Some, None, length, append_assoc, append-nil, refl, sym, ap, ◌∙◌, arith, length-append}
use Rattle.std.specs.List.{flat_map, join_by, repeat, sum_by}
use Rattle.std.proofs.lemmas.Bool.{false≢true}
use Rattle.std.proofs.lemmas.Bool.Decides.{nat_tests}
use Rattle.std.proofs.lemmas.List.Sums.{sum_by-cons}
use Rattle.std.proofs.lemmas.Nat.{div-add-mod'}
use Rattle.std.proofs.Math.Nat.{suc-mul, div-lt_iff_lt-mul, le-div_iff_mul-le}
use Rattle.mc_values.specs.Hexadecimal.{hex_digits, hex_pair}
use Rattle.mc_values.specs.Values.{greatest_string, within_limit}
use Rattle.mc_strfun.specs.Joins.{allowed_length}

pub within_limit-fits : (text : List ℕ) → length text ≤ greatest_string → within_limit text ≡ Some text
within_limit-fits text h = grind (arith, nat_tests)

pub within_limit-long : (text : List ℕ) → greatest_string < length text → within_limit text ≡ None
within_limit-long text h = grind (arith, nat_tests)

pub repeat_last : (n : ℕ) (xs : List ℕ) → repeat n xs ++ xs ≡ repeat (suc n) xs
repeat_last zero xs = sym (append-nil xs)
repeat_last (suc n) xs = append_assoc xs (repeat n xs) xs ∙ ap (λ ys. xs ++ ys) (repeat_last n xs)

pub repeat_more : (n : ℕ) (xs : List ℕ) → repeat n xs ++ xs ≡ repeat (n + 1) xs
repeat_more n xs = let e : suc n ≡ n + 1 = omega arith in repeat_last n xs ∙ ap (λ k. repeat k xs) e

pub length-repeat : (n : ℕ) (xs : List ℕ) → length (repeat n xs) ≡ n * length xs
length-repeat zero xs = omega arith
length-repeat (suc n) xs =
    omega (arith, length-append xs (repeat n xs), length-repeat n xs, suc-mul n (length xs))

repeat-nil : (n : ℕ) → repeat {A = ℕ} n [] ≡ []
repeat-nil zero = refl
repeat-nil (suc n) = repeat-nil n

pub no_copies : (n : ℕ) (text : List ℕ) → text ≡ [] → Some [] ≡ within_limit (repeat n text)
no_copies n text e = sym (ap (λ t. within_limit (repeat n t)) e ∙ ap within_limit (repeat-nil n))

pub filled : (text : List ℕ) (answer : Bool) → (text ≡ [] → IsTrue answer) → answer ≡ false → 0 < length text
filled [] answer f e = absurd (false≢true (sym e ∙ f refl))
filled (b ∷ text) answer f e = omega arith

pub many_copies : (n m len : ℕ) (text : List ℕ) → 0 < length text → len ≡ length text → m ≡ n → greatest_string / len < m → None ≡ within_limit (repeat n text)
many_copies n m len text p l e h =
    let positive : 0 < len = omega (arith, p, l) in
    let long : greatest_string < m * len = (div-lt_iff_lt-mul positive).0 h in
    let product : m * len ≡ n * length text = ap (λ k. k * len) e ∙ ap (λ k. n * k) l in
    sym (within_limit-long (repeat n text) (omega (arith, long, product, length-repeat n text)))

pub few_bytes : (m len : ℕ) (text slice : List ℕ) → 0 < length text → len ≡ length text → slice ≡ text → m ≤ greatest_string / len → m * length slice ≤ greatest_string
few_bytes m len text slice p l e h =
    let positive : 0 < len = omega (arith, p, l) in
    let short : m * len ≤ greatest_string = (le-div_iff_mul-le positive).0 h in
    let product : m * length slice ≡ m * len = ap (λ k. m * k) (ap (λ t. length t) e ∙ sym l) in
    omega (arith, short, product)

pub few_copies : (n m : ℕ) (text slice out : List ℕ) → slice ≡ text → m ≡ n → m * length slice ≤ greatest_string → out ≡ repeat m slice → Some out ≡ within_limit (repeat n text)
few_copies n m text slice out e k h o =
    let same : out ≡ repeat n text = o ∙ ap (λ c. repeat c slice) k ∙ ap (λ t. repeat n t) e in
    ap (λ t. Some t) same
    ∙ sym (within_limit-fits (repeat n text) (omega (arith, h, length-repeat m slice, ap (λ t. length t) (sym o ∙ same))))

pub length-digits : (bytes : List ℕ) → length (hex_digits bytes) ≡ 2 * length bytes
unfolding hex_digits
length-digits [] = refl
length-digits (byte ∷ bytes) = let e : length (flat_map hex_pair bytes) ≡ 2 * length bytes = length-digits bytes in omega (arith, e)

others_length : {A : Type 0} → (f : A → List ℕ) (separator : List ℕ) (others : List A)
    → length (flat_map (λ part. separator ++ f part) others) ≡ sum_by (λ part. length separator + length (f part)) others
others_length f separator [] = refl
others_length f separator (part ∷ others) =
    let one = length-append (separator ++ f part) (flat_map (λ p. separator ++ f p) others) in
    let two = length-append separator (f part) in
    let later = others_length f separator others in
    let sum = sum_by-cons (λ p. length separator + length (f p)) part others in
    omega (arith, one, two, later, sum)

pub length-joined : {A : Type 0} → (f : A → List ℕ) (separator : List ℕ) (first : A) (others : List A)
    → length (join_by f separator (first ∷ others)) ≡ length (f first) + sum_by (λ part. length separator + length (f part)) others
length-joined f separator first others =
    length-append (f first) (flat_map (λ part. separator ++ f part) others) ∙ ap (λ k. length (f first) + k) (others_length f separator others)

none_long : (len : ℕ) → allowed_length len ≡ None → greatest_string < len
none_long len h = grind (arith, nat_tests)

some_short : (len n : ℕ) → allowed_length len ≡ Some n → len ≤ greatest_string
some_short len n h = grind (arith, nat_tests)

pub joined_long : {A : Type 0} → (f : A → List ℕ) (separator : List ℕ) (first : A) (others parts : List A) (n : ℕ) → parts ≡ first ∷ others → n ≡ length (f first)
    → allowed_length (n + sum_by (λ part. length separator + length (f part)) others) ≡ None → None ≡ within_limit (join_by f separator parts)
joined_long f separator first others parts n e k h =
    sym (ap (λ ps. within_limit (join_by f separator ps)) e
    ∙ within_limit-long _ (omega (arith, none_long _ h, k, length-joined f separator first others)))

pub joined_short : {A : Type 0} → (f : A → List ℕ) (separator : List ℕ) (first : A) (others parts : List A) (n len : ℕ) (front out : List ℕ) → parts ≡ first ∷ others → n ≡ length (f first)
    → allowed_length (n + sum_by (λ part. length separator + length (f part)) others) ≡ Some len
    → front ≡ f first → out ≡ front ++ flat_map (λ part. separator ++ f part) others → Some out ≡ within_limit (join_by f separator parts)
joined_short f separator first others parts n len front out e k h g o =
    ap (λ t. Some t) (o ∙ ap (λ t. t ++ flat_map (λ part. separator ++ f part) others) g)
    ∙ sym (ap (λ ps. within_limit (join_by f separator ps)) e
    ∙ within_limit-fits _ (omega (arith, some_short _ len h, k, length-joined f separator first others)))

repeat-add : (n m : ℕ) (xs : List ℕ) → repeat n xs ++ repeat m xs ≡ repeat (n + m) xs
repeat-add zero m xs = let e : m ≡ zero + m = omega arith in ap (λ k. repeat k xs) e
repeat-add (suc n) m xs =
    let e : suc (n + m) ≡ suc n + m = omega arith in
    append_assoc xs (repeat n xs) (repeat m xs) ∙ ap (λ ys. xs ++ ys) (repeat-add n m xs) ∙ ap (λ k. repeat k xs) e

repeat-repeat : (n m : ℕ) (xs : List ℕ) → repeat n (repeat m xs) ≡ repeat (n * m) xs
repeat-repeat zero m xs = let e : zero ≡ zero * m = omega arith in ap (λ k. repeat k xs) e
repeat-repeat (suc n) m xs =
    let e : m + n * m ≡ suc n * m = omega (arith, suc-mul n m) in
    ap (λ ys. repeat m xs ++ ys) (repeat-repeat n m xs) ∙ repeat-add m (n * m) xs ∙ ap (λ k. repeat k xs) e

-- Copies of a block of copies, and those that are left, are as many copies as are wanted.
pub in_blocks : (count each : ℕ) (text block out more : List ℕ) → block ≡ repeat each text → more ≡ out ++ repeat (count / each) block
    → more ++ repeat (count % each) text ≡ out ++ repeat count text
in_blocks count each text block out more b m =
    ap (λ xs. xs ++ repeat (count % each) text) (m ∙ ap (λ ys. out ++ repeat (count / each) ys) b)
    ∙ append_assoc out (repeat (count / each) (repeat each text)) (repeat (count % each) text)
    ∙ ap (λ ys. out ++ (ys ++ repeat (count % each) text)) (repeat-repeat (count / each) each text)
    ∙ ap (λ ys. out ++ ys) (repeat-add (count / each * each) (count % each) text)
    ∙ ap (λ k. out ++ repeat k text) (div-add-mod' count each)
