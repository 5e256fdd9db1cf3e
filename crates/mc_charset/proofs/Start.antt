-- Where a character begins: going on by one character, and by arithmetic where all have as many bytes.
use Rattle.std.proofs.Common.{◌≡◌, ℕ, ◌+◌, ◌-◌, ◌*◌, ◌/◌, ◌<◌, ◌≤◌, Bool, true, eqb, ◌&&◌, List, [], ◌∷◌, ◌++◌, Some, length, take, drop, min, append-nil, refl, sym, ap, subst, ◌⊎◌, ◌∙◌, arith, inl, inr, zero, suc}
use Rattle.std.proofs.lemmas.Bool.Decides.{nat_tests}
use Rattle.std.proofs.lemmas.List.{drop-drop, take_min, drop_min, length-append, length-drop}
use Rattle.std.proofs.lemmas.Nat.{div-mul-add}
use Rattle.std.proofs.Math.Seq.{take-length, take-add, take-nil, take-append-add, drop-append-add}
use Rattle.mc_charset.specs.declared.charset.Charset.{Charset}
use Rattle.mc_charset.specs.declared.charset.Charset.TheVariants.{Latin1, Ascii, Binary}
use Rattle.mc_charset.specs.declared.char_at.CharAt.{CharAt}
use Rattle.mc_charset.specs.declared.char_at.CharAt.TheVariants.{Char, End, Bad}
use Rattle.mc_charset.specs.Rows.{Row, has_code, sequence, spelling_in}
use Rattle.mc_charset.specs.Tables.{rows}
use Rattle.mc_charset.specs.Chars.{spell, spell_all, chars, Spells, IsWellFormed}
use Rattle.mc_charset.specs.NextChar.{IsFirst, HeadsChars}
use Rattle.mc_charset.specs.CharStart.{IsCharStart, HasWidth}
use Rattle.mc_charset.proofs.Rows.{length-sequence, guard_cases, and_parts}
use Rattle.mc_charset.proofs.Chars.{chars_spelled, well_formed_spelled, empty_spelled, Spells_cons, Spells_join, Spells_nil, Spells_split}

drop_nil : (n : ℕ) → ◌≡◌ {A = List ℕ} (drop n []) []
drop_nil zero = refl
drop_nil (suc n) = refl

-- One member more

take_step : (k : ℕ) (xs : List ℕ) (x : ℕ) (ys : List ℕ) → drop k xs ≡ x ∷ ys → take (k + 1) xs ≡ take k xs ++ (x ∷ [])
take_step k xs x ys h = take-add k 1 xs ∙ ap (λ l. take k xs ++ take 1 l) h

drop_step : (k : ℕ) (xs : List ℕ) (x : ℕ) (ys : List ℕ) → drop k xs ≡ x ∷ ys → drop (k + 1) xs ≡ ys
drop_step k xs x ys h = sym (drop-drop 1 k xs) ∙ ap (drop 1) h

take_all : (k j : ℕ) (xs : List ℕ) → k ≤ j → drop k xs ≡ [] → take j xs ≡ take k xs
take_all k j xs h e =
    let j_is : j ≡ k + (j - k) = omega arith in
    ap (λ n. take n xs) j_is ∙ take-add k (j - k) xs ∙ ap (λ l. take k xs ++ take (j - k) l) e ∙ ap (λ l. take k xs ++ l) (take-nil (j - k)) ∙ append-nil (take k xs)

drop_all : (k j : ℕ) (xs : List ℕ) → k ≤ j → drop k xs ≡ [] → drop j xs ≡ []
drop_all k j xs h e =
    let j_is : j ≡ k + (j - k) = omega arith in
    ap (λ n. drop n xs) j_is ∙ sym (drop-drop (j - k) k xs) ∙ ap (drop (j - k)) e ∙ drop_nil (j - k)

-- From character to character

pub start_zero : (set : Charset) (text : List ℕ) → IsWellFormed set text → IsCharStart set text 0 0
start_zero set text w = record { within = omega arith; before = empty_spelled set; behind = well_formed_spelled set text w }

pub start_more : (set : Charset) (text : List ℕ) (k start code len : ℕ) → IsCharStart set text k start → IsFirst set (drop start text) code len → chars set (drop start text) ≡ code ∷ chars set (drop len (drop start text)) → IsWellFormed set (drop len (drop start text)) → IsCharStart set text (k + 1) (start + len)
start_more set text k start code len s i h w =
    let cs = chars set text in
    let tail = drop len (drop start text) in
    let d : drop k cs ≡ code ∷ chars set tail = sym (chars_spelled set (drop k cs) (drop start text) s.behind) ∙ h in
    let one : Spells set (code ∷ []) (take len (drop start text) ++ []) = Spells_cons set code [] (take len (drop start text)) [] i.spelled (empty_spelled set) in
    let one' : Spells set (code ∷ []) (take len (drop start text)) = one ∙ ap (λ x. Some x) (append-nil (take len (drop start text))) in
    record {
      within = omega (arith, s.within, i.within, length-drop start text);
      before =
          ap (spell_all set) (take_step k cs code (chars set tail) d)
          ∙ Spells_join set (take k cs) (code ∷ []) (take start text) (take len (drop start text)) s.before one'
          ∙ ap (λ x. Some x) (sym (take-add start len text));
      behind =
          ap (spell_all set) (drop_step k cs code (chars set tail) d)
          ∙ well_formed_spelled set tail w
          ∙ ap (λ x. Some x) (drop-drop len start text);
    }

pub start_at_end : (set : Charset) (text : List ℕ) (k j start : ℕ) → IsCharStart set text k start → chars set (drop start text) ≡ [] → k ≤ j → IsCharStart set text j start
start_at_end set text k j start s h l =
    let cs = chars set text in
    let d : drop k cs ≡ [] = sym (chars_spelled set (drop k cs) (drop start text) s.behind) ∙ h in
    record {
      within = s.within;
      before = ap (spell_all set) (take_all k j cs l d) ∙ s.before;
      behind = ap (spell_all set) (drop_all k j cs l d ∙ sym d) ∙ s.behind;
    }

-- Characters of one width

abbrev pub are_wide : List Row → ℕ → Bool
are_wide [] width = true
are_wide (row ∷ rows) width = eqb (length row.bytes) width && are_wide rows width

eqb_eq : (a b : ℕ) → eqb a b ≡ true → a ≡ b
eqb_eq a b h = grind (arith, nat_tests)

spelling_width : (rows : List Row) (width code : ℕ) (front : List ℕ) → are_wide rows width ≡ true → spelling_in rows code ≡ Some front → length front ≡ width
spelling_width [] width code front h k = absurd (cc)
spelling_width (row ∷ rows) width code front h k =
    let p = and_parts (eqb (length row.bytes) width) (are_wide rows width) h in
    elim (guard_cases (has_code row code) (sequence row.bytes (code - row.first)) front (spelling_in rows code) k) [
      | inl e ↦ ap length (sym e.1) ∙ length-sequence row.bytes (code - row.first) ∙ eqb_eq (length row.bytes) width p.0
      | inr e ↦ spelling_width rows width code front p.1 e.1
    ]

pub HasWidth_rows : (set : Charset) (width : ℕ) → are_wide (rows set) width ≡ true → HasWidth set width
unfolding spell
HasWidth_rows set width h code front k = spelling_width (rows set) width code front h k

pub width_at : (set other : Charset) (width : ℕ) → set ≡ other → are_wide (rows other) width ≡ true → HasWidth set width
width_at set other width e h = subst (λ (s : Charset). HasWidth s width) (sym e) (HasWidth_rows other width h)

length_wide : (set : Charset) (width : ℕ) (codes text : List ℕ) → HasWidth set width → Spells set codes text → length text ≡ length codes * width
length_wide set width [] text w h = ap length (Spells_nil set text h) ∙ omega arith
length_wide set width (code ∷ codes) text w h =
    let s = Spells_split set code codes text h in
    let i = length_wide set width codes s.rest w s.rest_spelled in
    let f = w code s.front s.spelled in
    ap length s.joins ∙ length-append s.front s.rest ∙ omega (arith, i, f)

pub count_wide : (set : Charset) (width : ℕ) (text : List ℕ) → 0 < width → HasWidth set width → IsWellFormed set text → length text / width ≡ length (chars set text)
count_wide set width text p w h =
    let l = length_wide set width (chars set text) text w (well_formed_spelled set text h) in
    let e : length text ≡ length (chars set text) * width + 0 = omega (arith, l) in
    ap (λ n. n / width) e ∙ div-mul-add (length (chars set text)) width 0 p

record IsSplit (set : Charset) (codes text : List ℕ) (k width : ℕ) : Type 0 where
  pub before : Spells set (take k codes) (take (k * width) text)
  pub behind : Spells set (drop k codes) (drop (k * width) text)

split_wide : (set : Charset) (width k : ℕ) (codes text : List ℕ) → HasWidth set width → Spells set codes text → IsSplit set codes text k width
split_wide set width zero codes text w h =
    let z : zero * width ≡ 0 = omega arith in
    record { before = empty_spelled set ∙ ap (λ n. Some (take n text)) (sym z); behind = h ∙ ap (λ n. Some (drop n text)) (sym z) }
split_wide set width (suc k) [] text w h =
    let e = Spells_nil set text h in
    record {
      before = empty_spelled set ∙ ap (λ x. Some x) (sym (ap (take (suc k * width)) e ∙ take-nil (suc k * width)));
      behind = empty_spelled set ∙ ap (λ x. Some x) (sym (ap (drop (suc k * width)) e ∙ drop_nil (suc k * width)));
    }
split_wide set width (suc k) (code ∷ codes) text w h =
    let s = Spells_split set code codes text h in
    let i = split_wide set width k codes s.rest w s.rest_spelled in
    let f = w code s.front s.spelled in
    let n : suc k * width ≡ length s.front + k * width = omega (arith, f) in
    record {
      before = Spells_cons set code (take k codes) s.front (take (k * width) s.rest) s.spelled i.before ∙ ap (λ x. Some x) (sym (ap (take (suc k * width)) s.joins ∙ ap (λ m. take m (s.front ++ s.rest)) n ∙ take-append-add s.front s.rest (k * width)));
      behind = i.behind ∙ ap (λ x. Some x) (sym (ap (drop (suc k * width)) s.joins ∙ ap (λ m. drop m (s.front ++ s.rest)) n ∙ drop-append-add s.front s.rest (k * width)));
    }

pub start_wide : (set : Charset) (width k : ℕ) (text : List ℕ) → HasWidth set width → IsWellFormed set text → IsCharStart set text k (min (k * width) (length text))
start_wide set width k text w h =
    let s = split_wide set width k (chars set text) text w (well_formed_spelled set text h) in
    record {
      within = omega arith;
      before = s.before ∙ ap (λ x. Some x) (sym (take_min (k * width) text));
      behind = s.behind ∙ ap (λ x. Some x) (sym (drop_min (k * width) text));
    }

-- The sets of one width

pub width_1 : (set : Charset) → (set ≡ Latin1) ⊎ ((set ≡ Ascii) ⊎ (set ≡ Binary)) → HasWidth set 1
width_1 set (inl e) = width_at set Latin1 1 e refl
width_1 set (inr (inl e)) = width_at set Ascii 1 e refl
width_1 set (inr (inr e)) = width_at set Binary 1 e refl

-- What is left behind `start` bytes, as slicing gives it.
pub rest_behind : (start : ℕ) (text : List ℕ) → take (length text - start) (drop start text) ≡ drop start text
rest_behind start text = let l = length-drop start text in ap (λ n. take n (drop start text)) (sym l) ∙ take-length (drop start text)

-- An answer that is no character leaves no characters.
pub heads_nothing : (set : Charset) (rest : List ℕ) (answer : CharAt) → HeadsChars set rest answer → (answer ≡ End) ⊎ (answer ≡ Bad) → chars set rest ≡ []
heads_nothing set rest (Char code len) h (inl e) = absurd (cc)
heads_nothing set rest (Char code len) h (inr e) = absurd (cc)
heads_nothing set rest End h e = h.0
heads_nothing set rest Bad h e = h.0

pub start_well_formed : (set : Charset) (text : List ℕ) (k start : ℕ) → IsCharStart set text k start → IsWellFormed set (drop start text)
start_well_formed set text k start s = (drop k (chars set text), s.behind)
