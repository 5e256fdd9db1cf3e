-- Whole copies alone are removed, and no more of them are there.
use Rattle.std.proofs.Common.{◌≡◌, ℕ, zero, suc, ◌<◌, Bool, true, false, List, ◌++◌, length, take, drop, reverse, append_assoc, refl, sym, ap, subst, ◌∙◌, arith, length-append, ◌-◌, Some, append-nil, ◌∷◌, []}
use Rattle.std.specs.List.{repeat}
use Rattle.std.proofs.lemmas.Bool.{false≢true}
use Rattle.std.proofs.lemmas.Slice.Eq.{bytes_eq-Decides}
use Rattle.std.proofs.lemmas.List.{length-reverse, reverse-append, reverse-reverse}
use Rattle.std.proofs.Math.Seq.{drop-append_seam, take-append_seam}
use Rattle.mc_charset.specs.declared.charset.Charset.{Charset}
use Rattle.mc_charset.specs.Chars.{Spells}
use Rattle.mc_strfun.specs.Replaced.{begins}
use Rattle.mc_strfun.specs.Trimmed.{IsLeftBefore, IsLeftBehind, without_leading, without_trailing}
use Rattle.mc_strfun.proofs.Lengths.{Spells_split}
use Rattle.mc_strfun.proofs.Limits.{repeat_last}
use Rattle.mc_strfun.proofs.Replaced.{split_codes}
use Rattle.mc_strfun.proofs.Trimmed.{leading-copy, leading-none}

-- In front

begun_by : (removed others codes : List ℕ) → codes ≡ removed ++ others → begins removed codes ≡ true
begun_by removed others codes e =
    (bytes_eq-Decides removed (take (length removed) codes)).1
    (sym (ap (take (length removed)) e ∙ take-append_seam removed others))

none_left : (removed codes : List ℕ) → begins removed codes ≡ false → IsLeftBehind removed codes (without_leading removed codes)
none_left removed codes b =
    subst (IsLeftBehind removed codes) (sym (leading-none removed codes b)) record {
      copies = 0;
      joins = refl;
      no_more = λ others e. false≢true (sym b ∙ begun_by removed others codes e);
    }

one_more : (removed codes rest : List ℕ) → codes ≡ removed ++ rest → IsLeftBehind removed rest (without_leading removed rest)
    → IsLeftBehind removed codes (without_leading removed codes)
one_more removed codes rest e left =
    subst (IsLeftBehind removed codes) (sym (ap (without_leading removed) e ∙ leading-copy removed rest)) record {
      copies = suc left.copies;
      joins = e ∙ ap (λ x. removed ++ x) left.joins ∙ sym (append_assoc removed (repeat left.copies removed) (without_leading removed rest));
      no_more = left.no_more;
    }

either_begun : (removed codes : List ℕ) → 0 < length removed
    → ((rest : List ℕ) → length rest < length codes → IsLeftBehind removed rest (without_leading removed rest))
    → (b : Bool) → begins removed codes ≡ b → IsLeftBehind removed codes (without_leading removed codes)
either_begun removed codes h shorter false e = none_left removed codes e
either_begun removed codes h shorter true e =
    let rest = drop (length removed) codes in
    let split = split_codes removed codes (sym ((bytes_eq-Decides removed (take (length removed) codes)).0 e)) in
    one_more removed codes rest split
    (shorter rest (omega (arith, ap (λ x. length x) split, length-append removed rest, h)))

left_up_to : (n : ℕ) (removed codes : List ℕ) → 0 < length removed → length codes < n → IsLeftBehind removed codes (without_leading removed codes)
left_up_to zero removed codes h l = absurd (omega (arith, l))
left_up_to (suc n) removed codes h l =
    either_begun removed codes h (λ rest s. left_up_to n removed rest h (omega (arith, s, l))) (begins removed codes) refl

pub left_behind : (removed codes : List ℕ) → 0 < length removed → IsLeftBehind removed codes (without_leading removed codes)
left_behind removed codes h = left_up_to (suc (length codes)) removed codes h (omega arith)

-- At the end

reverse-repeat : (n : ℕ) (removed : List ℕ) → reverse (repeat n (reverse removed)) ≡ repeat n removed
reverse-repeat zero removed = refl
reverse-repeat (suc n) removed =
    reverse-append (reverse removed) (repeat n (reverse removed))
    ∙ ap (λ x. x ++ reverse (reverse removed)) (reverse-repeat n removed)
    ∙ ap (λ x. repeat n removed ++ x) (reverse-reverse removed) ∙ repeat_last n removed

mirrored : (removed codes left : List ℕ) → IsLeftBehind (reverse removed) (reverse codes) left → IsLeftBefore removed codes (reverse left)
mirrored removed codes left behind = record {
  copies = behind.copies;
  joins = sym (reverse-reverse codes) ∙ ap reverse behind.joins ∙ reverse-append (repeat behind.copies (reverse removed)) left
      ∙ ap (λ x. reverse left ++ x) (reverse-repeat behind.copies removed);
  no_more = λ others e. behind.no_more (reverse others)
      (sym (reverse-reverse left) ∙ ap reverse e ∙ reverse-append others removed);
}

pub left_before : (removed codes : List ℕ) → 0 < length removed → IsLeftBefore removed codes (without_trailing removed codes)
unfolding without_trailing
left_before removed codes h =
    mirrored removed codes (without_leading (reverse removed) (reverse codes))
    (left_behind (reverse removed) (reverse codes) (omega (arith, h, length-reverse removed)))

-- The bytes of what ends with a copy end with the bytes of the copy.
back_bytes : (set : Charset) (front removed bytes text : List ℕ) → Spells set removed bytes → Spells set (front ++ removed) text
    → (before : List ℕ) × (text ≡ before ++ bytes)
back_bytes set [] removed bytes text r s =
    ([], let e : Some text ≡ Some bytes = sym s ∙ r in cc)
back_bytes set (code ∷ front) removed bytes text r s =
    let p = Spells_split set code (front ++ removed) text s in
    let behind = back_bytes set front removed bytes p.rest r p.rest_spelled in
    (p.front ++ behind.0, p.joins ∙ ap (λ x. p.front ++ x) behind.1 ∙ sym (append_assoc p.front behind.0 bytes))

ends_so : (before bytes text : List ℕ) → text ≡ before ++ bytes → drop (length text - length bytes) text ≡ bytes
ends_so before bytes text e =
    let n : length text - length bytes ≡ length before = omega (arith, ap (λ x. length x) e, length-append before bytes) in
    ap (λ k. drop k text) n ∙ ap (drop (length before)) e ∙ drop-append_seam before bytes

no_copies : (set : Charset) (removed codes left bytes text : List ℕ) (copies : ℕ) → Spells set removed bytes → Spells set codes text
    → (drop (length text - length bytes) text ≡ bytes → ⊥) → codes ≡ left ++ repeat copies removed → left ≡ codes
no_copies set removed codes left bytes text zero r s differ e = sym (e ∙ append-nil left)
no_copies set removed codes left bytes text (suc copies) r s differ e =
    let last : codes ≡ (left ++ repeat copies removed) ++ removed =
    e ∙ ap (λ x. left ++ x) (sym (repeat_last copies removed)) ∙ sym (append_assoc left (repeat copies removed) removed) in
    let found = back_bytes set (left ++ repeat copies removed) removed bytes text r (subst (λ (c : List ℕ). Spells set c text) last s) in
    absurd (differ (ends_so found.0 bytes text found.1))

-- Where the bytes do not end with those of a copy, nothing is removed at the end.
pub none_at_end : (set : Charset) (removed codes bytes text : List ℕ) → 0 < length removed → Spells set removed bytes → Spells set codes text
    → (drop (length text - length bytes) text ≡ bytes → ⊥) → without_trailing removed codes ≡ codes
none_at_end set removed codes bytes text h r s differ =
    let left = left_before removed codes h in
    no_copies set removed codes (without_trailing removed codes) bytes text left.copies r s differ left.joins
