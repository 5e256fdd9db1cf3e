-- One step of the text of a string, at a place between its quotes.
use Rattle.std.proofs.Common.{◌≡◌, ℕ, ◌+◌, ◌-◌, ◌<◌, ◌≤◌, ◌==◌, ◌&&◌, ◌||◌, Bool, true, false, cond, List, [], ◌∷◌, ◌++◌, length, take, drop, get_or, ltb, suc, refl, ap, sym, append_assoc, append-nil, ◌∙◌, arith}
use Rattle.std.proofs.lemmas.List.{at_drop_more, at_drop_all, drop-drop}
use Rattle.std.proofs.lemmas.Bool.Decides.{nat_tests}
use Rattle.mc_token.specs.Bytes.{backslash}
use Rattle.mc_token.specs.Lexemes.{pair, content}
use Rattle.mc_token.proofs.Elements.{second_of, third_of, longer_at, behind_of, is_special, plain_len, drop_one_more}

pub content-done : (quote : ℕ) (bytes : List ℕ) (at : ℕ) → length bytes ≤ at → content quote (drop at bytes) ≡ []
unfolding content
content-done quote bytes at h = at_drop_all (content quote) bytes at h

-- at the front of a list
content-front : (quote byte : ℕ) (behind : List ℕ) → content quote (byte ∷ behind)
    ≡ cond (ltb 0 (length behind) && (byte == backslash || (byte == quote && get_or behind 0 0 == quote))) (pair byte (get_or behind 0 0) ++ content quote (drop 1 behind)) (byte ∷ content quote behind)
unfolding content
content-front quote byte [] = refl
content-front quote byte (next ∷ behind) = grind (arith, nat_tests)

-- The byte at a place and the next one are an escape or a doubled quote.
abbrev pub is_pair : ℕ → List ℕ → ℕ → Bool
is_pair quote bytes at = ltb (at + 1) (length bytes) && (get_or bytes at 0 == backslash || (get_or bytes at 0 == quote && get_or bytes (at + 1) 0 == quote))

content-step : (quote : ℕ) (bytes : List ℕ) (at : ℕ) → at < length bytes → content quote (drop at bytes)
    ≡ cond (is_pair quote bytes at)
    (pair (get_or bytes at 0) (get_or bytes (at + 1) 0) ++ content quote (drop (at + 2) bytes)) (get_or bytes at 0 ∷ content quote (drop (at + 1) bytes))
content-step quote bytes at h =
    let front = at_drop_more (content quote) bytes at 0 h in
    let cut = content-front quote (get_or bytes at 0) (drop (at + 1) bytes) in
    let second = second_of bytes at in
    let third = third_of bytes at in
    let longer = longer_at bytes at in
    cc

-- A pair behind this text goes on with it.
pub content-pair : (text : List ℕ) (quote : ℕ) (bytes : List ℕ) (at : ℕ) → at < length bytes → is_pair quote bytes at ≡ true
    → (text ++ pair (get_or bytes at 0) (get_or bytes (at + 1) 0)) ++ content quote (drop (at + 2) bytes) ≡ text ++ content quote (drop at bytes)
content-pair text quote bytes at h is_one = append_assoc text (pair (get_or bytes at 0) (get_or bytes (at + 1) 0)) (content quote (drop (at + 2) bytes)) ∙ ap (λ rest. text ++ rest) (sym (rw is_one at (content-step quote bytes at h)))

take_one_more : (byte n : ℕ) (bytes : List ℕ) → take (1 + n) (byte ∷ bytes) ≡ byte ∷ take n bytes
take_one_more byte n bytes = let e : 1 + n ≡ suc n = omega arith in rw e refl

-- the first of the bytes, beside those behind it
content-plain-one : (quote byte : ℕ) (behind : List ℕ) (t : Bool) → is_special quote byte ≡ t
    → content quote behind ≡ take (plain_len quote behind) behind ++ content quote (drop (plain_len quote behind) behind)
    → content quote (byte ∷ behind) ≡ take (plain_len quote (byte ∷ behind)) (byte ∷ behind) ++ content quote (drop (plain_len quote (byte ∷ behind)) (byte ∷ behind))
content-plain-one quote byte behind true e h = rw e refl
content-plain-one quote byte behind false e h =
    let n = plain_len quote behind in
    let front = content-front quote byte behind in
    let taken = take_one_more byte n behind in
    let left = drop_one_more byte n behind in
    grind (arith, nat_tests)

-- Before the first quote or backslash each byte stands for itself.
content-plain : (quote : ℕ) (bytes : List ℕ)
    → content quote bytes ≡ take (plain_len quote bytes) bytes ++ content quote (drop (plain_len quote bytes) bytes)
content-plain quote [] = refl
content-plain quote (byte ∷ behind) = content-plain-one quote byte behind (is_special quote byte) refl (content-plain quote behind)

-- Any other byte, with the plain ones behind it, does too.
pub content-run : (text : List ℕ) (quote : ℕ) (bytes : List ℕ) (at n : ℕ) → at < length bytes → is_pair quote bytes at ≡ false
    → n ≡ plain_len quote (take (length bytes - (at + 1)) (drop (at + 1) bytes))
    → (text ++ take (at + 1 + n - at) (drop at bytes)) ++ content quote (drop (at + 1 + n) bytes) ≡ text ++ content quote (drop at bytes)
content-run text quote bytes at n h is_none e =
    let byte = get_or bytes at 0 in
    let behind = drop (at + 1) bytes in
    let taken = ap (λ k. take k (drop at bytes)) (omega arith) ∙ at_drop_more (take (1 + n)) bytes at 0 h ∙ take_one_more byte n behind in
    let run = content-plain quote behind
    ∙ ap (λ k. take k behind ++ content quote (drop k behind)) (sym (e ∙ ap (plain_len quote) (behind_of bytes at)))
    ∙ ap (λ rest. take n behind ++ content quote rest) (drop-drop n (at + 1) bytes) in
    ap (λ run. (text ++ run) ++ content quote (drop (at + 1 + n) bytes)) taken
    ∙ append_assoc text (byte ∷ take n behind) (content quote (drop (at + 1 + n) bytes))
    ∙ ap (λ rest. text ++ byte ∷ rest) (sym run)
    ∙ ap (λ rest. text ++ rest) (sym (rw is_none at (content-step quote bytes at h)))

pub content-end : (text : List ℕ) (quote : ℕ) (bytes : List ℕ) (at : ℕ) → length bytes ≤ at → text ++ content quote (drop at bytes) ≡ text
content-end text quote bytes at h = ap (λ rest. text ++ rest) (content-done quote bytes at h) ∙ append-nil text

pub ruleset content_steps = (content-pair, content-run, content-end)
