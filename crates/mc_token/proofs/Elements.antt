-- One step of each recursion over the bytes of a script, at a place.
use Rattle.std.proofs.Common.{◌≡◌, ℕ, ◌+◌, ◌-◌, ◌<◌, ◌≤◌, ◌==◌, ◌&&◌, ◌||◌, Bool, true, false, not, cond, List, [], ◌∷◌, Some, None, length, take, drop, get_or, ltb, suc, zero, refl, ap, sym, ◌∙◌, arith}
use Rattle.std.specs.List.{position_or_len}
use Rattle.std.proofs.lemmas.List.{at_drop_more, at_drop_all, get_or-drop, drop-drop, length-drop, take_all}
use Rattle.std.proofs.lemmas.Bool.Decides.{nat_tests}
use Rattle.mc_token.specs.Bytes.{star, slash, backslash}
use Rattle.mc_token.specs.Elements.{block_end, quote_end, element_of, elements_behind, elements}
use Rattle.mc_token.specs.declared.element.Element.{Element}

-- the byte behind the first of the bytes at a place
pub second_of : (bytes : List ℕ) (at : ℕ) → get_or (drop (at + 1) bytes) 0 0 ≡ get_or bytes (at + 1) 0
second_of bytes at = get_or-drop (at + 1) bytes 0 0 ∙ ap (λ n. get_or bytes n 0) (omega arith)

pub third_of : (bytes : List ℕ) (at : ℕ) → drop 1 (drop (at + 1) bytes) ≡ drop (at + 2) bytes
third_of bytes at = drop-drop 1 (at + 1) bytes ∙ ap (λ n. drop n bytes) (omega arith)

pub longer_at : (bytes : List ℕ) (at : ℕ) → ltb 0 (length (drop (at + 1) bytes)) ≡ ltb (at + 1) (length bytes)
longer_at bytes at = let e = length-drop (at + 1) bytes in grind (arith, nat_tests)

-- The slice behind the first of the bytes at a place is all that is behind it.
pub behind_of : (bytes : List ℕ) (at : ℕ) → take (length bytes - (at + 1)) (drop (at + 1) bytes) ≡ drop (at + 1) bytes
behind_of bytes at = take_all (length bytes - (at + 1)) (drop (at + 1) bytes) (omega (arith, length-drop (at + 1) bytes))

pub block_end-done : (bytes : List ℕ) (at : ℕ) → length bytes ≤ at → block_end at (drop at bytes) ≡ None
unfolding block_end
block_end-done bytes at h = at_drop_all (block_end at) bytes at h

pub block_end-step : (bytes : List ℕ) (at : ℕ) → at < length bytes → block_end at (drop at bytes)
    ≡ cond (get_or bytes at 0 == star && get_or bytes (at + 1) 0 == slash) (Some (at + 2)) (block_end (at + 1) (drop (at + 1) bytes))
unfolding block_end
block_end-step bytes at h = at_drop_more (block_end at) bytes at 0 h
    ∙ ap (λ b. cond (get_or bytes at 0 == star && b == slash) (Some (at + 2)) (block_end (at + 1) (drop (at + 1) bytes))) (second_of bytes at)

pub quote_end-done : (quote : ℕ) (bytes : List ℕ) (at : ℕ) → length bytes ≤ at → quote_end quote at (drop at bytes) ≡ None
unfolding quote_end
quote_end-done quote bytes at h = at_drop_all (quote_end quote at) bytes at h

-- at the front of a list
quote_end-front : (quote at byte : ℕ) (behind : List ℕ) → quote_end quote at (byte ∷ behind)
    ≡ cond (byte == quote && not (ltb 0 (length behind) && get_or behind 0 0 == quote)) (Some (at + 1))
    (cond (byte == quote || byte == backslash) (quote_end quote (at + 2) (drop 1 behind)) (quote_end quote (at + 1) behind))
unfolding quote_end
quote_end-front quote at byte [] = grind (arith, nat_tests)
quote_end-front quote at byte (next ∷ behind) = grind (arith, nat_tests)

pub quote_end-step : (quote : ℕ) (bytes : List ℕ) (at : ℕ) → at < length bytes → quote_end quote at (drop at bytes)
    ≡ cond (get_or bytes at 0 == quote && not (ltb (at + 1) (length bytes) && get_or bytes (at + 1) 0 == quote)) (Some (at + 1))
    (cond (get_or bytes at 0 == quote || get_or bytes at 0 == backslash) (quote_end quote (at + 2) (drop (at + 2) bytes)) (quote_end quote (at + 1) (drop (at + 1) bytes)))
quote_end-step quote bytes at h =
    let front = at_drop_more (quote_end quote at) bytes at 0 h in
    let cut = quote_end-front quote at (get_or bytes at 0) (drop (at + 1) bytes) in
    let second = second_of bytes at in
    let third = third_of bytes at in
    let longer = longer_at bytes at in
    grind (arith, nat_tests)

-- The byte is the quote or a backslash.
abbrev pub is_special : ℕ → ℕ → Bool
is_special quote byte = byte == quote || byte == backslash

-- How many bytes stand before the first of those, or before the end.
abbrev pub plain_len : ℕ → List ℕ → ℕ
plain_len quote bytes = position_or_len (is_special quote) bytes

pub drop_one_more : (byte n : ℕ) (bytes : List ℕ) → drop (1 + n) (byte ∷ bytes) ≡ drop n bytes
drop_one_more byte n bytes = let e : 1 + n ≡ suc n = omega arith in rw e refl

-- the first of the bytes, beside those behind it
quote_end-plain-one : (quote at byte : ℕ) (behind : List ℕ) (t : Bool) → is_special quote byte ≡ t
    → quote_end quote (at + 1) behind ≡ quote_end quote (at + 1 + plain_len quote behind) (drop (plain_len quote behind) behind)
    → quote_end quote at (byte ∷ behind) ≡ quote_end quote (at + plain_len quote (byte ∷ behind)) (drop (plain_len quote (byte ∷ behind)) (byte ∷ behind))
quote_end-plain-one quote at byte behind true e h = rw e (ap (λ n. quote_end quote n (byte ∷ behind)) (omega arith))
quote_end-plain-one quote at byte behind false e h =
    let n = plain_len quote behind in
    let front = quote_end-front quote at byte behind in
    let left = drop_one_more byte n behind in
    let sum : at + (1 + n) ≡ at + 1 + n = omega arith in
    grind (arith, nat_tests)

-- Bytes that are neither the quote nor a backslash are passed over.
quote_end-plain : (quote at : ℕ) (bytes : List ℕ)
    → quote_end quote at bytes ≡ quote_end quote (at + plain_len quote bytes) (drop (plain_len quote bytes) bytes)
unfolding quote_end
quote_end-plain quote at [] = refl
quote_end-plain quote at (byte ∷ behind) = quote_end-plain-one quote at byte behind (is_special quote byte) refl (quote_end-plain quote (at + 1) behind)

-- So are a byte at a place that is neither, and those behind it.
pub quote_end-run : (quote : ℕ) (bytes : List ℕ) (at n : ℕ) → at < length bytes → is_special quote (get_or bytes at 0) ≡ false
    → n ≡ plain_len quote (take (length bytes - (at + 1)) (drop (at + 1) bytes))
    → quote_end quote (at + (1 + n)) (drop (at + (1 + n)) bytes) ≡ quote_end quote at (drop at bytes)
quote_end-run quote bytes at n h plain e =
    let sum : at + 1 + n ≡ at + (1 + n) = omega arith in
    let run = quote_end-plain quote (at + 1) (drop (at + 1) bytes)
    ∙ ap (λ k. quote_end quote (at + 1 + k) (drop k (drop (at + 1) bytes))) (sym (e ∙ ap (plain_len quote) (behind_of bytes at)))
    ∙ ap (quote_end quote (at + 1 + n)) (drop-drop n (at + 1) bytes ∙ ap (λ k. drop k bytes) (omega arith))
    ∙ ap (λ k. quote_end quote k (drop (at + (1 + n)) bytes)) sum in
    let step = quote_end-step quote bytes at h in
    grind (arith, nat_tests)

-- skipping bytes is dropping them
pub elements_behind-drop : (skipped : ℕ) (bytes : List ℕ) → elements_behind skipped bytes ≡ elements (drop skipped bytes)
unfolding elements_behind
elements_behind-drop zero bytes = refl
elements_behind-drop (suc skipped) [] = refl
elements_behind-drop (suc skipped) (byte ∷ behind) = elements_behind-drop skipped behind

-- the element at a place
abbrev pub element_at : List ℕ → ℕ → Element
element_at script at = element_of (get_or script at 0) (drop (at + 1) script)

pub elements-done : (script : List ℕ) (at : ℕ) → length script ≤ at → elements (drop at script) ≡ []
unfolding elements_behind
elements-done script at h = at_drop_all elements script at h

pub elements-step : (script : List ℕ) (at : ℕ) → at < length script → 0 < (element_at script at).len → elements (drop at script) ≡ element_at script at ∷ elements (drop (at + (element_at script at).len) script)
unfolding elements_behind
elements-step script at h long =
    at_drop_more elements script at 0 h
    ∙ ap (λ behind. element_at script at ∷ behind) (elements_behind-drop ((element_at script at).len - 1) (drop (at + 1) script)
    ∙ ap elements (drop-drop ((element_at script at).len - 1) (at + 1) script ∙ ap (λ n. drop n script) (omega arith)))

pub ruleset elements_steps = (elements-step, elements-done)

pub ruleset block_end_steps = (block_end-step, block_end-done)

pub ruleset quote_end_steps = (quote_end-run, quote_end-step, quote_end-done)
