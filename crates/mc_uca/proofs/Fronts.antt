-- A text's first characters, and the bytes that spell them.
use Rattle.std.proofs.Common.{◌≡◌, ℕ, zero, suc, ◌+◌, ◌⊎◌, ◌≤◌, Bool, true, false, List, [], ◌∷◌, ◌++◌, Some, length, take, drop, append-nil, take_all, refl, sym, ap, subst, ◌∙◌, arith}
use Rattle.std.specs.Bool.{OnTrue}
use Rattle.std.proofs.Math.Seq.{take-add}
use Rattle.mc_charset.specs.declared.charset.Charset.{Charset}
use Rattle.mc_charset.specs.Chars.{spell, spell_all, chars, Spells}
use Rattle.std.proofs.lemmas.List.{take-append-drop, take-take}
use Rattle.mc_order.specs.Boundary.{SharesFront}
use Rattle.mc_uca.specs.FreshFronts.{IsFreshFront}
use Rattle.mc_uca.proofs.CodeLemmas.{drop_none, drop_next}

one_spells : (set : Charset) (code : ℕ) (text : List ℕ) → spell set code ≡ Some text →
    Spells set (code ∷ []) text
unfolding spell_all
one_spells set code text e = rw e (ap Some (append-nil text))

take_next : (n : ℕ) (codes : List ℕ) (code : ℕ) (rest : List ℕ) → drop n codes ≡ code ∷ rest →
    take (n + 1) codes ≡ take n codes ++ code ∷ []
take_next zero codes code rest e = ap (take 1) e
take_next (suc n) [] code rest e = absurd cc
take_next (suc n) (c ∷ cs) code rest e =
    let more : suc n + 1 ≡ suc (n + 1) = omega arith in
    rw more (ap (λ t. c ∷ t) (take_next n cs code rest e))

drop_both : (n m : ℕ) (text : List ℕ) → drop (n + m) text ≡ drop m (drop n text)
drop_both zero m text = let e : 0 + m ≡ m = omega arith in ap (λ k. drop k text) e
drop_both (suc n) m [] =
    let more : suc n + m ≡ suc (n + m) = omega arith in
    ap (λ k. drop {A = ℕ} k []) more ∙ sym (drop_none m)
drop_both (suc n) m (b ∷ bs) =
    let more : suc n + m ≡ suc (n + m) = omega arith in
    ap (λ k. drop k (b ∷ bs)) more ∙ drop_both n m bs

-- What the first characters, so many, and the bytes before a place are to each other.
pub record IsFrontOf (set : Charset) (text : List ℕ) (count at : ℕ) : Type 0 where
  pub within : at ≤ length text
  pub before : Spells set (take count (chars set text)) (take at text)
  pub behind : chars set (drop at text) ≡ drop count (chars set text)

pub front_none : (set : Charset) (text : List ℕ) → IsFrontOf set text 0 0
unfolding spell_all
front_none set text = record { within = omega arith; before = refl; behind = refl }

pub front_more : (set : Charset) (text : List ℕ) (count at code len : ℕ) →
    ((set : Charset) (codes more text rest : List ℕ) → Spells set codes text →
    Spells set more rest → Spells set (codes ++ more) (text ++ rest)) →
    IsFrontOf set text count at → spell set code ≡ Some (take len (drop at text)) →
    at + len ≤ length text →
    chars set (drop at text) ≡ code ∷ chars set (drop len (drop at text)) →
    IsFrontOf set text (count + 1) (at + len)
front_more set text count at code len joins h e within heads =
    let codes = chars set text in
    let next = sym h.behind ∙ heads in
    record {
      within = within;
      before = subst (λ t. Spells set (take (count + 1) codes) t) (sym (take-add at len text))
          (subst (λ c. Spells set c (take at text ++ take len (drop at text)))
          (sym (take_next count codes code _ next))
          (joins set (take count codes) (code ∷ []) (take at text) (take len (drop at text)) h.before
          (one_spells set code (take len (drop at text)) e)));
      behind = ap (chars set) (drop_both at len text) ∙ sym (drop_next count codes code _ next);
    }

none_left : (n : ℕ) (codes : List ℕ) → drop n codes ≡ [] → length codes ≤ n
none_left zero codes e = let l = ap length e in omega arith
none_left (suc n) [] e = omega arith
none_left (suc n) (c ∷ cs) e = let l = none_left n cs e in omega arith

pub front_ends : (set : Charset) (text : List ℕ) (count at most : ℕ) → IsFrontOf set text count at →
    chars set (drop at text) ≡ [] → count ≤ most → chars set text ≡ take most (chars set text)
front_ends set text count at most h none le =
    let codes = chars set text in
    let l = none_left count codes (sym h.behind ∙ none) in
    sym (take_all most codes (omega arith))

-- One text is spelled by the same characters.
pub same_spelled : (set : Charset) (codes a b : List ℕ) → Spells set codes a → Spells set codes b →
    a ≡ b
same_spelled set codes a b h k = some_same (sym h ∙ k)
  where
    some_same : {x y : List ℕ} → Some x ≡ Some y → x ≡ y
    some_same e = cc

-- What is known of the last place that no contraction reaches over, or of the start.
abbrev pub IsLast : Charset → List (List ℕ) → List ℕ → List ℕ → ℕ → Type 0
IsLast set contractions a b last =
    (last ≤ length a) × (last ≤ length b)
    × ((last ≡ 0) ⊎ IsFreshFront set contractions a b last)

pub on_true : {P : Type 0} (fresh : Bool) → fresh ≡ true → OnTrue fresh P → P
on_true true e p = p
on_true false e p = absurd cc

-- Two texts share what one of them has before a place where its characters end.
pub shared_before : (set : Charset) (a b : List ℕ) (count at end : ℕ) →
    ((codes front rest : List ℕ) → Spells set codes front →
    chars set (front ++ rest) ≡ codes ++ chars set rest) →
    IsFrontOf set a count at → at ≤ end → take end a ≡ take end b → SharesFront set a b at
shared_before set a b count at end fronts walked le same =
    let codes = take count (chars set a) in
    let before : take at a ≡ take at b =
    sym (take-take at end a le) ∙ ap (take at) same ∙ take-take at end b le in
    let spelled : Spells set codes (take at b) = subst (Spells set codes) before walked.before in
    (codes, parts a walked.before, parts b spelled, walked.before, spelled)
  where
    parts : (text : List ℕ) → Spells set (take count (chars set a)) (take at text) →
        chars set text ≡ take count (chars set a) ++ chars set (drop at text)
    parts text h =
        ap (chars set) (sym (take-append-drop at text))
        ∙ fronts (take count (chars set a)) (take at text) (drop at text) h
