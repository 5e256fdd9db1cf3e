-- Characters replaced one after the other, and the bytes that spell them.
use Rattle.std.proofs.Common.{◌≡◌, ℕ, zero, suc, ◌+◌, ◌-◌, ◌<◌, ◌≤◌, Bool, true, false, cond, List, [], ◌∷◌, ◌++◌, Some, None, length, take, drop, append_assoc, append-nil, refl, sym, ap, subst, ◌∙◌, arith, length-append}
use Rattle.std.proofs.lemmas.Slice.Eq.{bytes_eq-Decides}
use Rattle.std.proofs.lemmas.List.{drop-drop, length-drop, length-take, take-append-drop}
use Rattle.std.proofs.Math.Seq.{drop-append-add, take-append_seam, take-append-add}
use Rattle.mc_charset.specs.declared.charset.Charset.{Charset}
use Rattle.mc_charset.specs.Chars.{chars, chars_behind, Spells, IsWellFormed}
use Rattle.mc_charset.specs.NextChar.{IsFirst}
use Rattle.mc_values.specs.Values.{greatest_string}
use Rattle.mc_strfun.specs.Joins.{spelled_within}
use Rattle.mc_strfun.specs.Replaced.{begins, replaced, replaced_behind}
use Rattle.mc_strfun.proofs.Joined.{Joins, spelled_value}
use Rattle.mc_strfun.proofs.Lengths.{Spells_cons, Spells_nil, Spells_split, empty_spelled}
use Rattle.mc_strfun.proofs.Limits.{within_limit-fits, within_limit-long}

-- What `chars_law` says.
abbrev pub Fronts : Type 0
Fronts = (set : Charset) (codes front rest : List ℕ) → Spells set codes front → chars set (front ++ rest) ≡ codes ++ chars set rest

-- The lists

passed_all : (from to front codes : List ℕ) → replaced_behind (length front) from to (front ++ codes) ≡ replaced_behind zero from to codes
unfolding replaced_behind
passed_all from to [] codes = refl
passed_all from to (c ∷ front) codes = passed_all from to front codes

pub by_begins : (b : Bool) (A B : List ℕ) → b ≡ true → cond b A B ≡ A
by_begins true A B e = refl
by_begins false A B e = absurd (cc)

pub by_not : (b : Bool) (A B : List ℕ) → b ≡ false → cond b A B ≡ B
by_not true A B e = absurd (cc)
by_not false A B e = refl

pub replaced-copy : (first : ℕ) (others to codes : List ℕ) → replaced_behind zero (first ∷ others) to ((first ∷ others) ++ codes) ≡ to ++ replaced_behind zero (first ∷ others) to codes
unfolding replaced_behind
replaced-copy first others to codes =
    let from = first ∷ others in
    let begun : begins from (from ++ codes) ≡ true = (bytes_eq-Decides from (take (length from) (from ++ codes))).1 (sym (take-append_seam from codes)) in
    let one : length from - 1 ≡ length others = omega arith in
    by_begins (begins from (from ++ codes)) (to ++ replaced_behind (length from - 1) from to (others ++ codes)) (first ∷ replaced_behind zero from to (others ++ codes)) begun
    ∙ ap (λ n. to ++ replaced_behind n from to (others ++ codes)) one
    ∙ ap (λ x. to ++ x) (passed_all from to others codes)

pub replaced-char : (from to : List ℕ) (code : ℕ) (codes : List ℕ) → begins from (code ∷ codes) ≡ false → replaced_behind zero from to (code ∷ codes) ≡ code ∷ replaced_behind zero from to codes
unfolding replaced_behind
replaced-char from to code codes e = by_not (begins from (code ∷ codes)) _ _ e

-- What is replaced in a well-formed text is spelled.
pub spelled_rest : Joins → (set : Charset) (from to bytes : List ℕ) (passed : ℕ) (codes text : List ℕ) → Spells set to bytes → Spells set codes text
    → (tail : List ℕ) × Spells set (replaced_behind passed from to codes) tail
unfolding replaced_behind
spelled_rest j set from to bytes passed [] text t s = ([], empty_spelled set)
spelled_rest j set from to bytes (suc passed) (code ∷ codes) text t s =
    let p = Spells_split set code codes text s in
    spelled_rest j set from to bytes passed codes p.rest t p.rest_spelled
spelled_rest j set from to bytes zero (code ∷ codes) text t s =
    let p = Spells_split set code codes text s in
    let copied = spelled_rest j set from to bytes (length from - 1) codes p.rest t p.rest_spelled in
    let kept = spelled_rest j set from to bytes zero codes p.rest t p.rest_spelled in
    either (begins from (code ∷ codes)) (to ++ replaced_behind (length from - 1) from to codes) (code ∷ replaced_behind zero from to codes)
    (bytes ++ copied.0, j set to _ bytes copied.0 t copied.1)
    (p.front ++ kept.0, Spells_cons set code _ p.front kept.0 p.spelled kept.1)
  where
    either : (b : Bool) (A B : List ℕ) → (tail : List ℕ) × Spells set A tail → (tail : List ℕ) × Spells set B tail → (tail : List ℕ) × Spells set (cond b A B) tail
    either true A B a b = a
    either false A B a b = b

-- Where the characters of a text begin with some, its bytes begin with their bytes, and the others
-- spell what is behind.
pub front_bytes : (set : Charset) (front more bytes text : List ℕ) → Spells set front bytes → Spells set (front ++ more) text
    → (take (length bytes) text ≡ bytes) × Spells set more (drop (length bytes) text)
front_bytes set [] more bytes text b t =
    let e = Spells_nil set bytes b in (
      ap (λ x. take (length x) text) e ∙ sym e,
      subst (λ (x : List ℕ). Spells set more (drop (length x) text)) (sym e) t,
    )
front_bytes set (code ∷ front) more bytes text b t =
    let p = Spells_split set code front bytes b in
    let q = Spells_split set code (front ++ more) text t in
    let same : p.front ≡ q.front = let e : Some p.front ≡ Some q.front = sym p.spelled ∙ q.spelled in cc in
    let later = front_bytes set front more p.rest q.rest p.rest_spelled q.rest_spelled in
    let whole : text ≡ p.front ++ q.rest = q.joins ∙ ap (λ x. x ++ q.rest) (sym same) in
    let len : length bytes ≡ length p.front + length p.rest = ap (λ x. length x) p.joins ∙ length-append p.front p.rest in (
      ap (λ n. take n text) len ∙ ap (take (length p.front + length p.rest)) whole
          ∙ take-append-add p.front q.rest (length p.rest) ∙ ap (λ x. p.front ++ x) later.0 ∙ sym p.joins,
      subst (λ (x : List ℕ). Spells set more x)
          (sym (ap (λ n. drop n text) len ∙ ap (drop (length p.front + length p.rest)) whole ∙ drop-append-add p.front q.rest (length p.rest))) later.1,
    )

-- A piece of the text, up to another place, and the bytes that stand for it.
pub record IsPiece (set : Charset) (from to text : List ℕ) (at next : ℕ) (bytes : List ℕ) : Type 0 where
  pub codes : List ℕ
  pub spelled : Spells set codes bytes
  pub replaces : replaced_behind zero from to (chars set (drop at text)) ≡ codes ++ replaced_behind zero from to (chars set (drop next text))
  pub well_formed : IsWellFormed set (drop next text)
  pub within : next ≤ length text

abbrev Encodes : Type 0
Encodes = (set : Charset) (text : List ℕ) → IsWellFormed set text → Spells set (chars set text) text

pub split_codes : (front codes : List ℕ) → take (length front) codes ≡ front → codes ≡ front ++ drop (length front) codes
split_codes front codes e = sym (take-append-drop (length front) codes) ∙ ap (λ x. x ++ drop (length front) codes) e

-- The bytes of a text's front are those of some characters, so its characters are these and others.
copy_piece : (set : Charset) (to bytes from_bytes text : List ℕ) (at : ℕ) (first : ℕ) (others : List ℕ)
    → Fronts → Spells set (first ∷ others) from_bytes → Spells set to bytes → Spells set (chars set (drop at text)) (drop at text) → at ≤ length text
    → take (length from_bytes) (drop at text) ≡ from_bytes → IsPiece set (first ∷ others) to text at (at + length from_bytes) bytes
copy_piece set to bytes from_bytes text at first others f b t r a e =
    let rest = drop at text in
    let more = drop (length from_bytes) rest in
    let codes : chars set rest ≡ (first ∷ others) ++ chars set more =
    ap (chars set) (split_codes from_bytes rest e) ∙ f set (first ∷ others) from_bytes more b in
    let both = front_bytes set (first ∷ others) (chars set more) from_bytes rest b (subst (λ (c : List ℕ). Spells set c rest) codes r) in
    let place : more ≡ drop (at + length from_bytes) text = drop-drop (length from_bytes) at text in
    let len = ap (λ x. length x) e in
    record {
      codes = to;
      spelled = t;
      replaces = ap (replaced_behind zero (first ∷ others) to) codes ∙ replaced-copy first others to (chars set more)
          ∙ ap (λ x. to ++ replaced_behind zero (first ∷ others) to (chars set x)) place;
      well_formed = (chars set more, subst (λ (x : List ℕ). Spells set (chars set more) x) place both.1);
      within = omega (arith, len, length-take (length from_bytes) rest, length-drop at text, a);
    }

pub copied : (set : Charset) (from to bytes from_bytes text : List ℕ) (at : ℕ) → Fronts → 0 < length from → Spells set from from_bytes → Spells set to bytes
    → Spells set (chars set (drop at text)) (drop at text) → at ≤ length text → take (length from_bytes) (drop at text) ≡ from_bytes
    → IsPiece set from to text at (at + length from_bytes) bytes
copied set [] to bytes from_bytes text at f h b t r a e = absurd (omega (arith, h))
copied set (first ∷ others) to bytes from_bytes text at f h b t r a e = copy_piece set to bytes from_bytes text at first others f b t r a e

pub not_begun : (set : Charset) (from from_bytes rest : List ℕ) → Spells set from from_bytes → Spells set (chars set rest) rest → (take (length from_bytes) rest ≡ from_bytes → ⊥)
    → (b : Bool) → begins from (chars set rest) ≡ b → begins from (chars set rest) ≡ false
not_begun set from from_bytes rest f r no_copy false e = e
not_begun set from from_bytes rest f r no_copy true e =
    let front = sym ((bytes_eq-Decides from (take (length from) (chars set rest))).0 e) in
    absurd (no_copy (front_bytes set from (drop (length from) (chars set rest)) from_bytes rest f
    (subst (λ (c : List ℕ). Spells set c rest) (split_codes from (chars set rest) front) r)).0)

pub char_piece : (set : Charset) (from to from_bytes text : List ℕ) (at code len : ℕ) → Spells set from from_bytes → Spells set (chars set (drop at text)) (drop at text)
    → at ≤ length text → (take (length from_bytes) (drop at text) ≡ from_bytes → ⊥)
    → IsFirst set (drop at text) code len → chars set (drop at text) ≡ code ∷ chars set (drop len (drop at text)) → IsWellFormed set (drop len (drop at text))
    → IsPiece set from to text at (at + len) (take len (drop at text))
char_piece set from to from_bytes text at code len f r a no_copy first heads w =
    let rest = drop at text in
    let place : drop len rest ≡ drop (at + len) text = drop-drop len at text in
    let begun = not_begun set from from_bytes rest f r no_copy (begins from (chars set rest)) refl in
    record {
      codes = code ∷ [];
      spelled = subst (λ (t : List ℕ). Spells set (code ∷ []) t) (append-nil (take len rest)) (Spells_cons set code [] (take len rest) [] first.spelled (empty_spelled set));
      replaces = ap (replaced_behind zero from to) heads
          ∙ replaced-char from to code (chars set (drop len rest)) (ap (begins from) (sym heads) ∙ begun)
          ∙ ap (λ x. code ∷ replaced_behind zero from to (chars set x)) place;
      well_formed = subst (IsWellFormed set) place w;
      within = omega (arith, first.within, length-drop at text, a);
    }

-- What the loop keeps: with what is left replaced, the bytes are the text replaced.
abbrev pub IsBuilt : Charset → List ℕ → List ℕ → List ℕ → ℕ → List ℕ → Type 0
IsBuilt set from to text at out =
    (tail : List ℕ) → Spells set (replaced_behind zero from to (chars set (drop at text))) tail
    → Spells set (replaced_behind zero from to (chars set text)) (out ++ tail)

pub built_more : Joins → (set : Charset) (from to text : List ℕ) (at next : ℕ) (bytes out new : List ℕ) → IsPiece set from to text at next bytes
    → new ≡ out ++ bytes → IsBuilt set from to text at out → IsBuilt set from to text next new
built_more j set from to text at next bytes out new p o i tail s =
    let whole = j set p.codes _ bytes tail p.spelled s in
    subst (λ (t : List ℕ). Spells set (replaced_behind zero from to (chars set text)) t)
    (sym (append_assoc out bytes tail) ∙ ap (λ t. t ++ tail) (sym o))
    (i (bytes ++ tail) (subst (λ (c : List ℕ). Spells set c (bytes ++ tail)) (sym p.replaces) whole))

pub built_long : Joins → Encodes → (set : Charset) (from to to_bytes text : List ℕ) (at next : ℕ) (bytes out : List ℕ) → Spells set to to_bytes
    → IsPiece set from to text at next bytes → IsBuilt set from to text at out → greatest_string < length out + length bytes
    → None ≡ spelled_within set (replaced_behind zero from to (chars set text))
built_long j e set from to to_bytes text at next bytes out t p i h =
    let tail = spelled_rest j set from to to_bytes zero (chars set (drop next text)) (drop next text) t (e set (drop next text) p.well_formed) in
    let whole = built_more j set from to text at next bytes out (out ++ bytes) p refl i tail.0 tail.1 in
    sym (within_limit-long ((out ++ bytes) ++ tail.0) (omega (arith, h, length-append (out ++ bytes) tail.0, length-append out bytes)))
    ∙ spelled_value set _ _ whole

pub built_all : (set : Charset) (from to text : List ℕ) (at : ℕ) (out : List ℕ) → drop at text ≡ [] → length out ≤ greatest_string → IsBuilt set from to text at out
    → Some out ≡ spelled_within set (replaced_behind zero from to (chars set text))
unfolding chars chars_behind replaced_behind
built_all set from to text at out e h i =
    let whole = i [] (subst (λ (t : List ℕ). Spells set (replaced_behind zero from to (chars set t)) []) (sym e) (empty_spelled set)) in
    sym (within_limit-fits out h) ∙ spelled_value set _ out (subst (λ (t : List ℕ). Spells set (replaced_behind zero from to (chars set text)) t) (append-nil out) whole)

pub replaced_is : (from to codes : List ℕ) → 0 < length from → replaced from to codes ≡ replaced_behind zero from to codes
replaced_is [] to codes h = absurd (omega (arith, h))
replaced_is (first ∷ others) to codes h = refl

pub replaced_nothing : (from to codes : List ℕ) → from ≡ [] → replaced from to codes ≡ codes
replaced_nothing [] to codes e = refl
replaced_nothing (first ∷ others) to codes e = absurd (let n = ap (λ x. length x) e in omega (arith, n))

-- What is kept behind a place, appended, with what is left replaced.
pub built_kept : (set : Charset) (from to text : List ℕ) (at run : ℕ) (bytes out new : List ℕ)
    → ((tail : List ℕ) → Spells set (replaced_behind zero from to (chars set (drop run (drop at text)))) tail
    → Spells set (replaced_behind zero from to (chars set (drop at text))) (bytes ++ tail))
    → new ≡ out ++ bytes → IsBuilt set from to text at out → IsBuilt set from to text (at + run) new
built_kept set from to text at run bytes out new k o i tail s =
    let place : drop run (drop at text) ≡ drop (at + run) text = drop-drop run at text in
    let behind = subst (λ (t : List ℕ). Spells set (replaced_behind zero from to (chars set t)) tail) (sym place) s in
    subst (λ (t : List ℕ). Spells set (replaced_behind zero from to (chars set text)) t)
    (sym (append_assoc out bytes tail) ∙ ap (λ t. t ++ tail) (sym o)) (i (bytes ++ tail) (k tail behind))

-- What is built already is too long.
pub built_over : Encodes → (set : Charset) (from to to_bytes text : List ℕ) (at : ℕ) (out : List ℕ) → Joins → Spells set to to_bytes
    → IsWellFormed set (drop at text) → IsBuilt set from to text at out → greatest_string < length out
    → None ≡ spelled_within set (replaced_behind zero from to (chars set text))
built_over e set from to to_bytes text at out j t w i h =
    let tail = spelled_rest j set from to to_bytes zero (chars set (drop at text)) (drop at text) t (e set (drop at text) w) in
    sym (within_limit-long (out ++ tail.0) (omega (arith, h, length-append out tail.0))) ∙ spelled_value set _ _ (i tail.0 tail.1)

-- What the run before the next copy gives.
pub record AfterRun (set : Charset) (from to text : List ℕ) (at run : ℕ) (out : List ℕ) : Type 0 where
  pub within : at + run ≤ length text
  pub well_formed : IsWellFormed set (drop (at + run) text)
  pub built : IsBuilt set from to text (at + run) out

pub after_run : (set : Charset) (from to text : List ℕ) (at run : ℕ) (slice bytes out new : List ℕ) → slice ≡ drop at text → bytes ≡ take run (drop at text)
    → at ≤ length text → run ≤ length slice → IsWellFormed set (drop run slice)
    → ((to tail : List ℕ) → Spells set (replaced_behind zero from to (chars set (drop run slice))) tail
    → Spells set (replaced_behind zero from to (chars set slice)) (take run slice ++ tail))
    → new ≡ out ++ bytes → IsBuilt set from to text at out → AfterRun set from to text at run new
after_run set from to text at run slice bytes out new s b a r w k o i =
    let place : drop run slice ≡ drop (at + run) text = ap (λ t. drop run t) s ∙ drop-drop run at text in
    let kept : (tail : List ℕ) → Spells set (replaced_behind zero from to (chars set (drop run (drop at text)))) tail
    → Spells set (replaced_behind zero from to (chars set (drop at text))) (take run (drop at text) ++ tail) =
    subst (λ (t : List ℕ). (tail : List ℕ) → Spells set (replaced_behind zero from to (chars set (drop run t))) tail
    → Spells set (replaced_behind zero from to (chars set t)) (take run t ++ tail)) s (k to) in
    record {
      within = omega (arith, r, ap (λ t. length t) s, length-drop at text, a);
      well_formed = subst (IsWellFormed set) place w;
      built = built_kept set from to text at run (take run (drop at text)) out new kept (o ∙ ap (λ t. out ++ t) b) i;
    }

pub copy_behind : (from text slice : List ℕ) (at run : ℕ) → slice ≡ drop at text → take (length from) (drop run slice) ≡ from → take (length from) (drop (at + run) text) ≡ from
copy_behind from text slice at run s e =
    ap (λ t. take (length from) t) (sym (ap (λ t. drop run t) s ∙ drop-drop run at text)) ∙ e
