-- Converting character by character, and texts that keep their bytes.
use Rattle.std.proofs.Common.{◌≡◌, ℕ, ◌<◌, ◌⊎◌, Bool, true, false, not, cond, ltb, ◌&&◌, ◌||◌, List, [], ◌∷◌, ◌++◌, Option, Some, None, length, drop, get_or, map, refl, sym, ap, ◌∙◌, subst, arith, inl, inr, zero, suc, ◌≤◌}
use Rattle.std.proofs.lemmas.List.{length-drop}
use Rattle.std.specs.Bool.{MatchBool, OnTrue}
use Rattle.std.specs.Option.{is_some, option_map, option_and_then}
use Rattle.std.proofs.lemmas.Bool.Decides.{nat_tests}
use Rattle.mc_charset.specs.declared.charset.Charset.{Charset}
use Rattle.mc_charset.specs.Chars.{spell, spell_all, chars, Spells}
use Rattle.mc_convert.specs.Conversion.{is_binary, fits, stand_in, IsConverted, KeepsBytes, HasSpellings}
use Rattle.mc_convert.specs.Plain.{IsPlain}

-- What was written, continued by the rest's conversion, is the whole text's.
abbrev pub Continues : Charset → Charset → List ℕ → List ℕ → List ℕ → Type 0
Continues from to text rest done =
    (more : List ℕ) → Spells to (map (stand_in from to) (chars from rest)) more
    → Spells to (map (stand_in from to) (chars from text)) (done ++ more)

pub put_parts : (o : Option (List ℕ)) (old new : List ℕ)
    → option_map (λ front. old ++ front) o ≡ Some new
    → (front : List ℕ) × (o ≡ Some front) × (old ++ front ≡ new)
put_parts (Some front) old new h = (front, refl, cc)
put_parts None old new h = absurd (cc)

pub Spells_first : (set : Charset) (code : ℕ) (codes front more : List ℕ) → spell set code ≡ Some front
    → Spells set codes more → Spells set (code ∷ codes) (front ++ more)
unfolding spell_all
Spells_first set code codes front more h k = rw (h, k)

pub Spells_none : (set : Charset) → Spells set [] []
unfolding spell_all
Spells_none set = refl

-- Texts that keep their bytes

pub joined_parts : (o u : Option (List ℕ)) (text : List ℕ)
    → option_and_then (λ front. option_and_then (λ rest. Some (front ++ rest)) u) o ≡ Some text
    → (front : List ℕ) × (rest : List ℕ) × (o ≡ Some front) × (u ≡ Some rest)
joined_parts (Some front) (Some rest) text h = (front, rest, refl, refl)
joined_parts (Some front) None text h = absurd (cc)
joined_parts None u text h = absurd (cc)

itself : (binary low : Bool) (o : Option (List ℕ)) (front : List ℕ) (code : ℕ)
    → (not binary || low) ≡ true → o ≡ Some front
    → cond ((not binary || low) && is_some o) code 0x3F ≡ code
itself binary low o front code h k = rw (h, k)

either_way : (binary : Bool) (code : ℕ) → (binary ≡ false) ⊎ (code < 0x80)
    → (not binary || ltb code 0x80) ≡ true
either_way false code h = refl
either_way true code (inl e) = absurd (cc)
either_way true code (inr l) = grind (arith, nat_tests)

first_low : (from : Charset) (codes : List ℕ) (code : ℕ)
    → (is_binary from ≡ false) ⊎ ((k : ℕ) → get_or (code ∷ codes) k 0 < 0x80)
    → (is_binary from ≡ false) ⊎ (code < 0x80)
first_low from codes code (inl e) = inl e
first_low from codes code (inr h) = inr (h 0)

later_low : (from : Charset) (codes : List ℕ) (code : ℕ)
    → (is_binary from ≡ false) ⊎ ((k : ℕ) → get_or (code ∷ codes) k 0 < 0x80)
    → (is_binary from ≡ false) ⊎ ((k : ℕ) → get_or codes k 0 < 0x80)
later_low from codes code (inl e) = inl e
later_low from codes code (inr h) = inr (λ k. h (suc k))

-- Characters that the new set has stand for themselves.
pub stand_ins : (from to : Charset) (codes text : List ℕ)
    → (is_binary from ≡ false) ⊎ ((k : ℕ) → get_or codes k 0 < 0x80) → Spells to codes text
    → map (stand_in from to) codes ≡ codes
unfolding spell_all
stand_ins from to [] text h k = refl
stand_ins from to (code ∷ codes) text h k =
    let p = joined_parts (spell to code) (spell_all to codes) text k in
    let e : stand_in from to code ≡ code =
    itself (is_binary from) (ltb code 0x80) (spell to code) p.0 code
    (either_way (is_binary from) code (first_low from codes code h)) p.2 in
    let i : map (stand_in from to) codes ≡ codes =
    stand_ins from to codes p.1 (later_low from codes code h) p.3 in
    ap (λ c. c ∷ map (stand_in from to) codes) e ∙ ap (λ cs. code ∷ cs) i

fit_itself : (binary low : Bool) (o : Option (List ℕ)) (front : List ℕ) → (not binary || low) ≡ true
    → o ≡ Some front → ((not binary || low) && is_some o) ≡ true
fit_itself binary low o front h k = rw (h, k)

-- Characters that are spelled in the new set fit.
pub all_fit : (from to : Charset) (codes text : List ℕ)
    → (is_binary from ≡ false) ⊎ ((k : ℕ) → get_or codes k 0 < 0x80) → Spells to codes text
    → (k : ℕ) → k < length codes → fits from to (get_or codes k 0) ≡ true
unfolding spell_all
all_fit from to [] text h s k l = absurd (omega arith)
all_fit from to (code ∷ codes) text h s zero l =
    let p = joined_parts (spell to code) (spell_all to codes) text s in
    fit_itself (is_binary from) (ltb code 0x80) (spell to code) p.0
    (either_way (is_binary from) code (first_low from codes code h)) p.2
all_fit from to (code ∷ codes) text h s (suc k) l =
    let p = joined_parts (spell to code) (spell_all to codes) text s in
    all_fit from to codes p.1 (later_low from codes code h) p.3 k (omega arith)

-- A set that has each spelling of another one keeps the bytes of its texts.
pub wider_keeps : (from to : Charset) (text : List ℕ) → HasSpellings to from → is_binary to ≡ false
    → Spells from (chars from text) text → KeepsBytes from to text
wider_keeps from to text w n s =
    let s' : Spells to (chars from text) text = w.spelled (chars from text) text s in
    let b : is_binary from ≡ false = w.alike ∙ n in
    record {
      spelled = ap (spell_all to) (stand_ins from to (chars from text) text (inl b) s') ∙ s';
      all_fit = all_fit from to (chars from text) text (inl b) s';
    }

pub one_wider : (from to : Charset) → from ≡ to → HasSpellings to from
one_wider from to e = record {
  spelled = λ codes text h. subst (λ (set : Charset). Spells set codes text) e h;
  alike = ap is_binary e;
}

pub both_plain : (from to : Charset) (text : List ℕ) → IsPlain from text → IsPlain to text
    → KeepsBytes from to text
both_plain from to text p q = record {
  spelled =
      ap (λ cs. spell_all to (map (stand_in from to) cs)) p.its_chars
      ∙ ap (spell_all to) (stand_ins from to text text (inr p.below) q.spelled) ∙ q.spelled;
  all_fit =
      subst (λ (cs : List ℕ). (k : ℕ) → k < length cs → fits from to (get_or cs k 0) ≡ true)
      (sym p.its_chars) (all_fit from to text text (inr p.below) q.spelled);
}

pub both_tell : (answer : Bool) (from to : Charset) (text : List ℕ)
    → OnTrue answer (IsPlain from text × IsPlain to text) → OnTrue answer (KeepsBytes from to text)
both_tell true from to text h = both_plain from to text h.0 h.1
both_tell false from to text h = tt

pub converted_each : (from to : Charset) (text converted : List ℕ) → is_binary to ≡ false
    → Spells to (map (stand_in from to) (chars from text)) converted
    → IsConverted from to text converted
converted_each from to text converted n s =
    subst (λ (b : Bool). MatchBool b (converted ≡ text)
    (Spells to (map (stand_in from to) (chars from text)) converted)) (sym n) s

-- Places of characters

pub at_place : (cs : List ℕ) (place code : ℕ) (tail : List ℕ) → drop place cs ≡ code ∷ tail
    → get_or cs place 0 ≡ code
at_place [] zero code tail h = absurd (cc)
at_place [] (suc place) code tail h = absurd (cc)
at_place (c ∷ cs) zero code tail h = cc
at_place (c ∷ cs) (suc place) code tail h = at_place cs place code tail h

pub within_at : (cs : List ℕ) (place code : ℕ) (tail : List ℕ) → drop place cs ≡ code ∷ tail
    → place < length cs
within_at cs place code tail h = let e = ap length h in omega (arith, length-drop place cs, e)

pub none_left : (cs : List ℕ) (place : ℕ) → drop place cs ≡ [] → length cs ≤ place
none_left cs place h = let e = ap length h in omega (arith, length-drop place cs, e)
