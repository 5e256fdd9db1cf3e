-- A text as it is written, up to its first escape and behind it.
use Rattle.std.proofs.Common.{◌≡◌, ℕ, zero, suc, ◌+◌, ◌≤◌, Bool, ◌||◌, true, false, List, [], ◌∷◌}
use Rattle.std.proofs.Common.{◌++◌, take, drop, refl, sym, ap, ◌∙◌, append-nil, append_assoc}
use Rattle.std.proofs.Common.{length, not, arith}
use Rattle.std.specs.List.{flat_map, list_any, position_or_len}
use Rattle.std.proofs.lemmas.Bool.{or_parts, true≢false}
use Rattle.std.proofs.lemmas.Bool.Decides.{nat_tests}
use Rattle.mc_print.specs.Escapes.{is_escaped, escaped_byte}

-- A byte that no escape writes stands for itself.
plain_byte : (b : ℕ) → is_escaped b ≡ false → escaped_byte b ≡ b ∷ []
plain_byte b h = grind (arith, nat_tests)

take_one_more : (b n : ℕ) (text : List ℕ) → take (1 + n) (b ∷ text) ≡ b ∷ take n text
take_one_more b n text = let e : 1 + n ≡ suc n = omega arith in rw e refl

drop_one_more : (b n : ℕ) (text : List ℕ) → drop (1 + n) (b ∷ text) ≡ drop n text
drop_one_more b n text = let e : 1 + n ≡ suc n = omega arith in rw e refl

split_one : (b : ℕ) (text : List ℕ) (t : Bool) → is_escaped b ≡ t
    → flat_map escaped_byte text ≡ take (position_or_len is_escaped text) text ++ flat_map escaped_byte (drop (position_or_len is_escaped text) text)
    → flat_map escaped_byte (b ∷ text) ≡ take (position_or_len is_escaped (b ∷ text)) (b ∷ text) ++ flat_map escaped_byte (drop (position_or_len is_escaped (b ∷ text)) (b ∷ text))
split_one b text true e h = rw e refl
split_one b text false e h =
    let n = position_or_len is_escaped text in
    rw (e, plain_byte b e, take_one_more b n text, drop_one_more b n text) (ap (λ rest. b ∷ rest) h)

-- Before its first escape a text is written as it stands.
pub escaped_parts : (text : List ℕ) → flat_map escaped_byte text ≡ take (position_or_len is_escaped text) text ++ flat_map escaped_byte (drop (position_or_len is_escaped text) text)
escaped_parts [] = refl
escaped_parts (b ∷ text) = split_one b text (is_escaped b) refl (escaped_parts text)

-- A text without an escape is written as it stands.
pub escaped_end : (text plain behind : List ℕ) → plain ≡ take (position_or_len is_escaped text) text
    → behind ≡ drop (position_or_len is_escaped text) text → behind ≡ [] → flat_map escaped_byte text ≡ plain
escaped_end text plain behind p b e =
    escaped_parts text ∙ ap (λ x. take (position_or_len is_escaped text) text ++ flat_map escaped_byte x) (sym b ∙ e)
    ∙ append-nil (take (position_or_len is_escaped text) text) ∙ sym p

-- What stands before an escape, the escape, and the rest.
pub escaped_more : (text plain behind : List ℕ) (byte : ℕ) (more : List ℕ) → plain ≡ take (position_or_len is_escaped text) text
    → behind ≡ drop (position_or_len is_escaped text) text → behind ≡ byte ∷ more
    → flat_map escaped_byte text ≡ plain ++ (escaped_byte byte ++ flat_map escaped_byte more)
escaped_more text plain behind byte more p b e =
    escaped_parts text ∙ ap (λ x. take (position_or_len is_escaped text) text ++ flat_map escaped_byte x) (sym b ∙ e)
    ∙ ap (λ x. x ++ (escaped_byte byte ++ flat_map escaped_byte more)) (sym p)

-- A list of no length is empty.
pub length_zero : (text : List ℕ) → length text ≡ 0 → text ≡ []
length_zero [] h = refl
length_zero (b ∷ text) h = absurd (omega arith)

-- One turn of writing: what stands before an escape, and the escape.
pub one_turn : (out next after all before plain more text : List ℕ) (byte : ℕ) → next ≡ out ++ plain → after ≡ next ++ escaped_byte byte
    → flat_map escaped_byte text ≡ plain ++ (escaped_byte byte ++ flat_map escaped_byte more)
    → out ++ flat_map escaped_byte text ≡ before ++ flat_map escaped_byte all
    → after ++ flat_map escaped_byte more ≡ before ++ flat_map escaped_byte all
one_turn out next after all before plain more text byte n a t i =
    ap (λ x. x ++ flat_map escaped_byte more) (a ∙ ap (λ x. x ++ escaped_byte byte) n)
    ∙ append_assoc (out ++ plain) (escaped_byte byte) (flat_map escaped_byte more)
    ∙ append_assoc out plain (escaped_byte byte ++ flat_map escaped_byte more)
    ∙ ap (λ x. out ++ x) (sym t) ∙ i

-- One byte more of a block without an escape.
past_one : (b n : ℕ) (text : List ℕ) (t : Bool) → is_escaped b ≡ t
    → (is_escaped b || list_any is_escaped (take n text)) ≡ false
    → (list_any is_escaped (take n text) ≡ false
    → position_or_len is_escaped text ≡ n + position_or_len is_escaped (drop n text))
    → position_or_len is_escaped (b ∷ text) ≡ suc n + position_or_len is_escaped (drop n text)
past_one b n text true e f h = absurd (true≢false (sym e ∙ (or_parts _ _ f).0))
past_one b n text false e f h =
    let rest = h (or_parts (is_escaped b) _ f).1 in
    let first : position_or_len is_escaped (b ∷ text) ≡ 1 + position_or_len is_escaped text = rw e refl in
    omega (arith, rest, first)

-- The first escape behind a block without any.
pub past_block : (n : ℕ) (text : List ℕ) → n ≤ length text
    → list_any is_escaped (take n text) ≡ false
    → position_or_len is_escaped text ≡ n + position_or_len is_escaped (drop n text)
past_block zero text h f = omega arith
past_block (suc n) [] h f = absurd (omega (arith, h))
past_block (suc n) (b ∷ text) h f =
    past_one b n text (is_escaped b) refl f (past_block n text (omega (arith, h)))

-- Nothing is found where what is not found is said.
pub none_found : (found : Bool) → not found ≡ true → found ≡ false
none_found true h = absurd (true≢false (sym h))
none_found false h = refl
