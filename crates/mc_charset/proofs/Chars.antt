-- The characters of a text, first the first one.
use Rattle.std.proofs.Common.{◌≡◌, ◌≢◌, ℕ, ◌-◌, ◌<◌, ◌≤◌, true, List, [], ◌∷◌, ◌++◌, Option, Some, None, length, take, drop, append_assoc, refl, sym, ap, ◌∙◌, arith, zero, suc}
use Rattle.std.specs.Option.{option_and_then}
use Rattle.std.proofs.lemmas.List.{take-append-drop}
use Rattle.std.proofs.lemmas.Option.{some_pair_parts, same_Some}
use Rattle.std.proofs.Math.Seq.{drop-append_seam, drop-length}
use Rattle.mc_charset.specs.declared.charset.Charset.{Charset}
use Rattle.mc_charset.specs.declared.charset.Charset.TheVariants.{Latin1, Ascii, Utf8mb3, Utf8mb4, Ucs2, Utf16, Utf32, Binary}
use Rattle.mc_charset.specs.declared.char_at.CharAt.{CharAt}
use Rattle.mc_charset.specs.declared.char_at.CharAt.TheVariants.{Char, End, Bad}
use Rattle.mc_charset.specs.Rows.{first_in}
use Rattle.mc_charset.specs.Tables.{rows}
use Rattle.mc_charset.specs.Chars.{spell, spell_all, chars_behind, chars, Spells, IsWellFormed}
use Rattle.mc_charset.specs.NextChar.{IsFirst, BeginsBadly, IsNextChar, HeadsChars, IsFound}
use Rattle.mc_charset.proofs.Rows.{is_sound, first_in-spelling, first_in_begins, first_in_none}
use Rattle.mc_charset.specs.CodePoints.{spelled_code_point}

-- The tables

pub rows_sound : (set : Charset) → is_sound (rows set) ≡ true
rows_sound Latin1 = refl
rows_sound Ascii = refl
rows_sound Utf8mb3 = refl
rows_sound Utf8mb4 = refl
rows_sound Ucs2 = refl
rows_sound Utf16 = refl
rows_sound Utf32 = refl
rows_sound Binary = refl

-- The first character

pub found_spelled : (set : Charset) (code : ℕ) (front rest : List ℕ) → spell set code ≡ Some front → first_in (rows set) (front ++ rest) ≡ Some (code, length front)
unfolding spell
found_spelled set code front rest h = first_in-spelling (rows set) code front rest (rows_sound set) h

pub found_is_first : (set : Charset) (text : List ℕ) (code len : ℕ) → first_in (rows set) text ≡ Some (code, len) → IsFirst set text code len
unfolding spell
found_is_first set text code len h =
    let b = first_in_begins (rows set) text code len (rows_sound set) h in
    record {
      spelled = b.spelled;
      positive = b.positive;
      within = b.within;
      is_code_point = spelled_code_point set code (take len text) b.spelled;
    }

pub none_begins_badly : (set : Charset) (text : List ℕ) → first_in (rows set) text ≡ None → BeginsBadly set text
unfolding spell
none_begins_badly set text h code front rest e f = first_in_none (rows set) text (rows_sound set) h code front rest e f

-- The characters behind it

pub chars-nil : (set : Charset) → chars set [] ≡ []
unfolding chars chars_behind
chars-nil set = refl

chars_behind-drop : (set : Charset) (skipped : ℕ) (text : List ℕ) → chars_behind set skipped text ≡ chars set (drop skipped text)
unfolding chars chars_behind
chars_behind-drop set zero text = refl
chars_behind-drop set (suc skipped) [] = refl
chars_behind-drop set (suc skipped) (b ∷ bytes) = chars_behind-drop set skipped bytes

chars_at : (set : Charset) (found : Option (ℕ × ℕ)) (b : ℕ) (bytes : List ℕ) → first_in (rows set) (b ∷ bytes) ≡ found → chars set (b ∷ bytes) ≡ elim found [ None ↦ [] | Some pair ↦ pair.0 ∷ chars_behind set (pair.1 - 1) bytes ]
unfolding chars chars_behind
chars_at set found b bytes h = ap (λ (x : Option (ℕ × ℕ)). elim x [ None ↦ [] | Some pair ↦ pair.0 ∷ chars_behind set (pair.1 - 1) bytes ]) h

pub chars_found : (set : Charset) (text : List ℕ) (code len : ℕ) → first_in (rows set) text ≡ Some (code, len) → 0 < len → len ≤ length text → chars set text ≡ code ∷ chars set (drop len text)
chars_found set [] code len h k l = absurd (omega arith)
chars_found set (b ∷ bytes) code zero h k l = absurd (omega arith)
chars_found set (b ∷ bytes) code (suc len) h k l =
    let e : suc len - 1 ≡ len = omega arith in
    chars_at set (Some (code, suc len)) b bytes h ∙ ap (λ n. code ∷ chars_behind set n bytes) e ∙ ap (λ x. code ∷ x) (chars_behind-drop set len bytes)

pub chars_none : (set : Charset) (text : List ℕ) → first_in (rows set) text ≡ None → chars set text ≡ []
chars_none set [] h = chars-nil set
chars_none set (b ∷ bytes) h = chars_at set None b bytes h

-- The characters that spell a text

joined : (o u : Option (List ℕ)) (text : List ℕ) → option_and_then (λ front. option_and_then (λ rest. Some (front ++ rest)) u) o ≡ Some text → (front : List ℕ) × (rest : List ℕ) × (o ≡ Some front) × (u ≡ Some rest) × (text ≡ front ++ rest)
joined (Some front) (Some rest) text h = (front, rest, refl, refl, cc)
joined (Some front) None text h = absurd (cc)
joined None u text h = absurd (cc)

-- The first of the characters that spell a text, and the rest of them.
pub record Split (set : Charset) (code : ℕ) (codes text : List ℕ) : Type 0 where
  pub front : List ℕ
  pub rest : List ℕ
  pub spelled : spell set code ≡ Some front
  pub rest_spelled : Spells set codes rest
  pub joins : text ≡ front ++ rest

pub Spells_split : (set : Charset) (code : ℕ) (codes text : List ℕ) → Spells set (code ∷ codes) text → Split set code codes text
unfolding spell_all
Spells_split set code codes text h =
    let p = joined (spell set code) (spell_all set codes) text h in
    record { front = p.0; rest = p.1; spelled = p.2; rest_spelled = p.3; joins = p.4 }

pub Spells_cons : (set : Charset) (code : ℕ) (codes front rest : List ℕ) → spell set code ≡ Some front → Spells set codes rest → Spells set (code ∷ codes) (front ++ rest)
unfolding spell_all
Spells_cons set code codes front rest h k = rw (h, k)

pub Spells_nil : (set : Charset) (text : List ℕ) → Spells set [] text → text ≡ []
unfolding spell_all
Spells_nil set text h = cc

pub empty_spelled : (set : Charset) → Spells set [] []
unfolding spell_all
empty_spelled set = refl

pub chars_spelled : (set : Charset) (codes text : List ℕ) → Spells set codes text → chars set text ≡ codes
chars_spelled set [] text h = ap (chars set) (Spells_nil set text h) ∙ chars-nil set
chars_spelled set (code ∷ codes) text h =
    let s = Spells_split set code codes text h in
    let f = found_spelled set code s.front s.rest s.spelled in
    let i = found_is_first set (s.front ++ s.rest) code (length s.front) f in
    ap (chars set) s.joins ∙ chars_found set (s.front ++ s.rest) code (length s.front) f i.positive i.within
    ∙ ap (λ x. code ∷ chars set x) (drop-append_seam s.front s.rest) ∙ ap (λ x. code ∷ x) (chars_spelled set codes s.rest s.rest_spelled)

pub well_formed_spelled : (set : Charset) (text : List ℕ) → IsWellFormed set text → Spells set (chars set text) text
well_formed_spelled set text w = ap (spell_all set) (chars_spelled set w.0 text w.1) ∙ w.1

-- A well-formed text begins with a character, and what is behind it is well formed.

pub found_well_formed : (set : Charset) (text : List ℕ) (code len : ℕ) → first_in (rows set) text ≡ Some (code, len) → IsWellFormed set (drop len text) → IsWellFormed set text
found_well_formed set text code len h w =
    let i = found_is_first set text code len h in
    (code ∷ w.0, Spells_cons set code w.0 (take len text) (drop len text) i.spelled w.1 ∙ ap (λ x. Some x) (take-append-drop len text))

pub behind_well_formed : (set : Charset) (text : List ℕ) (code len : ℕ) (codes : List ℕ) → first_in (rows set) text ≡ Some (code, len) → Spells set codes text → IsWellFormed set (drop len text)
behind_well_formed set text code len [] h k =
    let i = found_is_first set text code len h in
    let l = ap length (Spells_nil set text k) in
    absurd (omega (arith, i.positive, i.within, l))
behind_well_formed set text code len (c ∷ codes) h k =
    let s = Spells_split set c codes text k in
    let f = found_spelled set c s.front s.rest s.spelled in
    let l : length s.front ≡ len = (some_pair_parts c code (length s.front) len (sym f ∙ ap (first_in (rows set)) (sym s.joins) ∙ h)).1 in
    let d : drop len text ≡ s.rest = ap (λ n. drop n text) (sym l) ∙ ap (drop (length s.front)) s.joins ∙ drop-append_seam s.front s.rest in
    (codes, s.rest_spelled ∙ ap (λ x. Some x) (sym d))

pub none_malformed : (set : Charset) (text codes : List ℕ) → text ≢ [] → first_in (rows set) text ≡ None → Spells set codes text → ⊥
none_malformed set text [] h k l = h (Spells_nil set text l)
none_malformed set text (c ∷ codes) h k l =
    let s = Spells_split set c codes text l in
    none_begins_badly set text k c s.front s.rest s.spelled s.joins

-- The answers of next_char

pub IsFound_next : (set : Charset) (text : List ℕ) (answer : CharAt) → IsFound (rows set) text answer → IsNextChar set text answer
IsFound_next set text (Char code len) h = found_is_first set text code len h
IsFound_next set text End h = h
IsFound_next set text Bad h = (h.0, none_begins_badly set text h.1)

pub IsFound_heads : (set : Charset) (text : List ℕ) (answer : CharAt) → IsFound (rows set) text answer → HeadsChars set text answer
IsFound_heads set text (Char code len) h =
    let i = found_is_first set text code len h in (
      chars_found set text code len h i.positive i.within,
      ((λ w. behind_well_formed set text code len w.0 h w.1), (λ w. found_well_formed set text code len h w)),
    )
IsFound_heads set text End h = (ap (chars set) h ∙ chars-nil set, ([], empty_spelled set ∙ ap (λ x. Some x) (sym h)))
IsFound_heads set text Bad h = (chars_none set text h.1, λ w. none_malformed set text w.0 h.0 h.1 w.1)

-- A code point whose spelling begins another's is that other one.
pub same_code : (set : Charset) (code other : ℕ) (front more : List ℕ) → spell set code ≡ Some front → spell set other ≡ Some (front ++ more) → code ≡ other
same_code set code other front more h k =
    let a = found_spelled set code front (more ++ []) h in
    let b = found_spelled set other (front ++ more) [] k in
    (some_pair_parts code other (length front) (length (front ++ more)) (sym a ∙ ap (first_in (rows set)) (sym (append_assoc front more [])) ∙ b)).0

pub nothing_more : (set : Charset) (code other : ℕ) (front more : List ℕ) → spell set code ≡ Some front → spell set other ≡ Some (front ++ more) → more ≡ []
nothing_more set code other front more h k =
    let e = same_code set code other front more h k in
    let f : front ≡ front ++ more = same_Some front (front ++ more) (sym h ∙ ap (spell set) e ∙ k) in
    let d : drop (length front) (front ++ more) ≡ more = drop-append_seam front more in
    sym d ∙ ap (drop (length front)) (sym f) ∙ drop-length front

pub Spells_join : (set : Charset) (codes more text rest : List ℕ) → Spells set codes text → Spells set more rest → Spells set (codes ++ more) (text ++ rest)
Spells_join set [] more text rest h k = k ∙ ap (λ x. Some (x ++ rest)) (sym (Spells_nil set text h))
Spells_join set (code ∷ codes) more text rest h k =
    let s = Spells_split set code codes text h in
    let i = Spells_join set codes more s.rest rest s.rest_spelled k in
    Spells_cons set code (codes ++ more) s.front (s.rest ++ rest) s.spelled i ∙ ap (λ x. Some x) (sym (append_assoc s.front s.rest rest) ∙ ap (λ x. x ++ rest) (sym s.joins))

-- The characters of a front and of what is behind it.
pub chars_front : (set : Charset) (codes front rest : List ℕ) → Spells set codes front → chars set (front ++ rest) ≡ codes ++ chars set rest
chars_front set [] front rest h = ap (λ text. chars set (text ++ rest)) (Spells_nil set front h)
chars_front set (code ∷ codes) front rest h =
    let s = Spells_split set code codes front h in
    let whole : front ++ rest ≡ s.front ++ (s.rest ++ rest) = ap (λ text. text ++ rest) s.joins ∙ append_assoc s.front s.rest rest in
    let f = found_spelled set code s.front (s.rest ++ rest) s.spelled in
    let i = found_is_first set (s.front ++ (s.rest ++ rest)) code (length s.front) f in
    ap (chars set) whole ∙ chars_found set (s.front ++ (s.rest ++ rest)) code (length s.front) f i.positive i.within
    ∙ ap (λ text. code ∷ chars set text) (drop-append_seam s.front (s.rest ++ rest))
    ∙ ap (λ cs. code ∷ cs) (chars_front set codes s.rest rest s.rest_spelled)
