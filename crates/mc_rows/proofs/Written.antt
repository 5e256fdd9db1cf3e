-- Bytes and numbers as fields write them.
use Rattle.std.proofs.Common.{◌≡◌, ◌≢◌, ℕ, zero, suc, ◌+◌, ◌-◌, ◌*◌, ◌<◌, ◌≤◌, ◌&&◌, ◌==◌, Bool, true, false, List, [], ◌∷◌, ◌++◌, take, drop, length, get_or, replicate, slice_index_or, Option, Some, None, refl, sym, ap, subst, ◌∙◌, append_assoc, ⊎_elim, arith, if◌then◌else◌}
use Rattle.std.specs.Prelude.{option_map, option_and_then, nat_le}
use Rattle.std.specs.Char.{is_ascii_digit}
use Rattle.std.specs.List.{list_all}
use Rattle.std.specs.Str.Parse.{digits_value}
use Rattle.std.proofs.lemmas.Bool.Decides.{nat_tests, eqb_tells}
use Rattle.std.proofs.lemmas.Int.Digits.{digits_value_more}
use Rattle.std.proofs.lemmas.List.{append-nil, length-append, length-replicate, get_or-take, take-take, take_all, length-take}
use Rattle.std.proofs.Common.{IsUtf8}
use Rattle.std.proofs.lemmas.List.Folds.{list_all_at}
use Rattle.std.proofs.lemmas.Str.{digit_value_digit, IsUtf8-take, IsCharBoundary-before_ascii}
use Rattle.std.proofs.lemmas.Str.Parse.{digits_value-take-le}
use Rattle.mc_rows.specs.Fields.{in_front, space, without_end_spaces}
use Rattle.mc_rows.specs.HexBytes.{hex_bytes, padded, pair_byte}
use Rattle.mc_rows.specs.Numbers.{are_digits, magnitude}

-- Spaces at the end

in_front_space : (byte : ℕ) → byte ≡ space → in_front byte [] ≡ []
in_front_space byte e = ⊎_elim (λ t. ap (λ b. if b then [] else byte ∷ []) t.0) (λ f. absurd (f.1 e)) (eqb_tells byte space)

in_front_other : (byte : ℕ) → byte ≢ space → in_front byte [] ≡ byte ∷ []
in_front_other byte n = ⊎_elim (λ t. absurd (n t.1)) (λ f. ap (λ b. if b then [] else byte ∷ []) f.0) (eqb_tells byte space)

space_behind : (k : ℕ) (text : List ℕ) → k < length text → slice_index_or text k 0 ≡ space → without_end_spaces (take (suc k) text) ≡ without_end_spaces (take k text)
unfolding without_end_spaces
space_behind k [] h e = absurd (omega arith)
space_behind zero (byte ∷ bytes) h e = in_front_space byte e
space_behind (suc k) (byte ∷ bytes) h e = ap (in_front byte) (space_behind k bytes (omega arith) e)

other_behind : (k : ℕ) (text : List ℕ) → k < length text → slice_index_or text k 0 ≢ space → without_end_spaces (take (suc k) text) ≡ take (suc k) text
unfolding without_end_spaces
other_behind k [] h n = absurd (omega arith)
other_behind zero (byte ∷ bytes) h n = in_front_other byte n
other_behind (suc k) (byte ∷ []) h n = absurd (omega arith)
other_behind (suc k) (byte ∷ next ∷ more) h n = ap (in_front byte) (other_behind k (next ∷ more) (omega arith) n)

pub one_space_less : (len : ℕ) (text : List ℕ) → 0 < len → len ≤ length text → slice_index_or text (len - 1) 0 ≡ space
    → without_end_spaces (take len text) ≡ without_end_spaces text → without_end_spaces (take (len - 1) text) ≡ without_end_spaces text
one_space_less zero text some h e w = absurd (omega arith)
one_space_less (suc k) text some h e w =
    let less : suc k - 1 ≡ k = omega arith in
    ap (λ n. without_end_spaces (take n text)) less ∙ sym (space_behind k text (omega arith) (sym (ap (λ n. slice_index_or text n 0) less) ∙ e)) ∙ w

pub no_space_less : (len : ℕ) (text : List ℕ) → 0 < len → len ≤ length text → slice_index_or text (len - 1) 0 ≢ space
    → without_end_spaces (take len text) ≡ without_end_spaces text → take len text ≡ without_end_spaces text
no_space_less zero text some h n w = absurd (omega arith)
no_space_less (suc k) text some h n w =
    let less : suc k - 1 ≡ k = omega arith in
    sym (other_behind k text (omega arith) (λ e. n (ap (λ m. slice_index_or text m 0) less ∙ e))) ∙ w

pub no_spaces : without_end_spaces [] ≡ []
unfolding without_end_spaces
no_spaces = refl

-- a text without a byte at its end that is a space
pub shorter_utf8 : (len : ℕ) (text : List ℕ) → 0 < len → len ≤ length text → slice_index_or text (len - 1) 0 ≡ space → IsUtf8 (take len text) → IsUtf8 (take (len - 1) text)
shorter_utf8 len text some h e u =
    let front = take len text in
    let within = length-take len text in
    let low : get_or front (len - 1) 0 < 128 = omega (arith, e, get_or-take len text (len - 1) 0 (omega arith)) in
    let here = IsCharBoundary-before_ascii front (len - 1) (omega (arith, within, some, h)) low in
    subst IsUtf8 (take-take (len - 1) len text (omega arith)) (IsUtf8-take front (len - 1) u here)

-- Pairs of digits

more-behind : (front : List ℕ) (byte : ℕ) (more : Option (List ℕ))
    → option_map (λ m. front ++ m) (option_map (λ bytes. byte ∷ bytes) more) ≡ option_map (λ m. (front ++ byte ∷ []) ++ m) more
more-behind front byte None = refl
more-behind front byte (Some m) = ap (λ l. Some l) (sym (append_assoc front (byte ∷ []) m))

pub pair_more : (all front rest behind : List ℕ) (high low byte : ℕ) → rest ≡ high ∷ low ∷ behind → Some byte ≡ pair_byte high low
    → hex_bytes all ≡ option_map (λ m. front ++ m) (hex_bytes rest) → hex_bytes all ≡ option_map (λ m. (front ++ byte ∷ []) ++ m) (hex_bytes behind)
unfolding hex_bytes
pair_more all front rest behind high low byte e p h =
    h ∙ ap (λ r. option_map (λ m. front ++ m) (hex_bytes r)) e
    ∙ ap (λ b. option_map (λ m. front ++ m) (option_and_then (λ byte. option_map (λ bytes. byte ∷ bytes) (hex_bytes behind)) b)) (sym p)
    ∙ more-behind front byte (hex_bytes behind)

pub no_pair : (all front rest behind : List ℕ) (high low : ℕ) → rest ≡ high ∷ low ∷ behind → None ≡ pair_byte high low
    → hex_bytes all ≡ option_map (λ m. front ++ m) (hex_bytes rest) → hex_bytes all ≡ None
unfolding hex_bytes
no_pair all front rest behind high low e p h =
    h ∙ ap (λ r. option_map (λ m. front ++ m) (hex_bytes r)) e
    ∙ ap (λ b. option_map (λ m. front ++ m) (option_and_then (λ byte. option_map (λ bytes. byte ∷ bytes) (hex_bytes behind)) b)) (sym p)

pub two_front : (rest : List ℕ) → 2 ≤ length rest → rest ≡ slice_index_or rest 0 0 ∷ slice_index_or rest 1 0 ∷ take (length rest - 2) (drop 2 rest)
two_front [] h = absurd (omega arith)
two_front (a ∷ []) h = absurd (omega arith)
two_front (a ∷ b ∷ more) h =
    let len : suc (suc (length more)) - 2 ≡ length more = omega arith in
    rw len (ap (λ l. a ∷ b ∷ l) (sym (take_all (length more) more (omega arith))))

pub pairs_end : (all front rest : List ℕ) (b : Bool) → length rest < 2 → b ≡ (length rest == 0)
    → hex_bytes all ≡ option_map (λ m. front ++ m) (hex_bytes rest) → hex_bytes all ≡ (if b then Some front else None)
unfolding hex_bytes
pairs_end all front [] b short e h = rw e (h ∙ ap (λ l. Some l) (append-nil front))
pairs_end all front (x ∷ []) b short e h = rw e h
pairs_end all front (x ∷ y ∷ more) b short e h = absurd (omega (arith, short))

-- Zeros behind bytes

zero_behind : (n : ℕ) (bytes : List ℕ) → (bytes ++ 0 ∷ []) ++ replicate n 0 ≡ bytes ++ replicate (suc n) 0
zero_behind n bytes = append_assoc bytes (0 ∷ []) (replicate n 0)

pub zero_more : (len : ℕ) (bytes : List ℕ) → length bytes < len → padded len (bytes ++ 0 ∷ []) ≡ padded len bytes
unfolding padded
zero_more len bytes h =
    let longer = length-append bytes (0 ∷ []) in
    let one : len - length bytes ≡ suc (len - length (bytes ++ 0 ∷ [])) = omega (arith, h, longer) in
    zero_behind (len - length (bytes ++ 0 ∷ [])) bytes ∙ ap (λ n. bytes ++ replicate n 0) (sym one)

pub padded_length : (len : ℕ) (bytes : List ℕ) → length bytes ≤ len → length (padded len bytes) ≡ len
unfolding padded
padded_length len bytes h = omega (arith, h, length-append bytes (replicate (len - length bytes) 0), length-replicate {A = ℕ} (len - length bytes) 0)

pub zeros_end : (len : ℕ) (bytes : List ℕ) → len ≤ length bytes → padded len bytes ≡ bytes
unfolding padded
zeros_end len bytes h =
    let none : len - length bytes ≡ 0 = omega (arith, h) in
    ap (λ n. bytes ++ replicate n 0) none ∙ append-nil bytes

-- Decimal digits

record Digit (byte : ℕ) : Type 0 where
  low : 48 ≤ byte
  high : byte ≤ 57

digit_of : (byte : ℕ) → is_ascii_digit byte ≡ true → Digit byte
digit_of byte e = record { low = grind (arith, nat_tests); high = grind (arith, nat_tests) }

-- the value with one more digit
pub digit_more : (digits : List ℕ) (at value : ℕ) → at < length digits → is_ascii_digit (get_or digits at 0) ≡ true → value ≡ digits_value 10 (take at digits)
    → value * 10 + (get_or digits at 0 - 48) ≡ digits_value 10 (take (at + 1) digits)
digit_more digits at value h digit e =
    let d = digit_of (get_or digits at 0) digit in
    let one = digit_value_digit (get_or digits at 0) (d.low, d.high) in
    let more = digits_value_more 10 digits at h in
    omega (arith, d.low, one, more, e)

-- no number is made of what isn't all digits, or of too many
pub no_digits : (most : ℕ) (digits : List ℕ) (at : ℕ) → at < length digits → is_ascii_digit (get_or digits at 0) ≡ false → None ≡ magnitude most digits
unfolding magnitude
no_digits most digits at h e =
    let bad : list_all is_ascii_digit digits ≡ false = list_all_at is_ascii_digit digits at 0 h e in
    rw bad (by (nat_le 1 (length digits)))
  where
    by : (b : Bool) → None ≡ (if (b && false) && nat_le (digits_value 10 digits) most then Some (digits_value 10 digits) else None)
    by true = refl
    by false = refl

pub too_great : (most : ℕ) (digits : List ℕ) (at : ℕ) → most < digits_value 10 (take at digits) → None ≡ magnitude most digits
unfolding magnitude
too_great most digits at h =
    let le = digits_value-take-le 10 digits at (omega arith) in
    let over : nat_le (digits_value 10 digits) most ≡ false = grind (arith, nat_tests) in
    rw over (by (are_digits digits))
  where
    by : (b : Bool) → None ≡ (if b && false then Some (digits_value 10 digits) else None)
    by true = refl
    by false = refl

pub no_number : (most : ℕ) (digits : List ℕ) → (length digits == 0) ≡ true → None ≡ magnitude most digits
unfolding magnitude
no_number most [] e = refl
no_number most (digit ∷ digits) e =
    let zero : length (digit ∷ digits) ≡ 0 = grind (arith, nat_tests) in
    absurd (omega (arith, zero))

pub all_digits : (most : ℕ) (digits : List ℕ) (value : ℕ) → 0 < length digits → list_all is_ascii_digit digits ≡ true → value ≡ digits_value 10 digits → value ≤ most
    → Some value ≡ magnitude most digits
unfolding magnitude
all_digits most digits value some all e small =
    let one : nat_le 1 (length digits) ≡ true = grind (arith, nat_tests) in
    let fits : nat_le (digits_value 10 digits) most ≡ true = grind (arith, nat_tests) in
    rw (one, all, fits) (ap (λ n. Some n) e)

pub ruleset digit_steps = (digit_more, no_digits, too_great, no_number, all_digits)

pub ruleset pair_steps = (pair_more, no_pair)

pub ruleset zero_steps = (zero_more, zeros_end)

pub ruleset space_steps = (one_space_less, no_space_less, no_spaces)
