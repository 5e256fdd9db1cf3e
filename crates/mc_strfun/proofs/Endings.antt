-- No spelling of a set is the end of a longer one, so bytes that end with those of some characters
-- are spelled by characters that end with these.
use Rattle.std.proofs.Common.{◌≡◌, ℕ, ◌+◌, ◌-◌, ◌*◌, ◌/◌, ◌%◌, ◌<◌, ◌≤◌, Bool, true, false, cond, leb, ltb, ◌&&◌, suc, zero, List, [], ◌∷◌, ◌++◌, Some, length, reverse, append_assoc, append-nil, refl, sym, ap, subst, ◌∙◌, arith, length-append}
use Rattle.std.proofs.lemmas.Bool.Decides.{nat_tests}
use Rattle.std.proofs.lemmas.List.{length-reverse, reverse-append}
use Rattle.std.proofs.Math.Nat.{mod-lt, div-lt_iff_lt-mul}
use Rattle.mc_charset.specs.declared.charset.Charset.{Charset}
use Rattle.mc_charset.specs.declared.charset.Charset.TheVariants.{Latin1, Ascii, Utf8mb3, Utf8mb4, Ucs2, Utf16, Utf32, Binary}
use Rattle.mc_charset.specs.Rows.{Range, Row, count, sequence, has_code, spelling_in}
use Rattle.mc_charset.specs.Tables.{rows}
use Rattle.mc_charset.specs.Chars.{spell, Spells}
use Rattle.mc_strfun.proofs.Lengths.{as_long, empty_spelled, spell_positive, Spells_cons, Spells_nil, Spells_split}

-- The bytes of a spelling

-- The bytes are one each of these ranges.
abbrev Fits : List Range → List ℕ → Type 0
Fits [] [] = true ≡ true
Fits [] (b ∷ bytes) = ⊥
Fits (r ∷ rs) [] = ⊥
Fits (r ∷ rs) (b ∷ bytes) = (r.least ≤ b) × (b ≤ r.greatest) × Fits rs bytes

abbrev same_length : List Range → List Range → Bool
same_length [] [] = true
same_length [] (s ∷ ss) = false
same_length (r ∷ rs) [] = false
same_length (r ∷ rs) (s ∷ ss) = same_length rs ss

abbrev disjoint : Range → Range → Bool
disjoint r s = cond (ltb r.greatest s.least) true (ltb s.greatest r.least)

-- No bytes fit both.
abbrev apart : List Range → List Range → Bool
apart [] ss = true
apart (r ∷ rs) [] = true
apart (r ∷ rs) (s ∷ ss) = cond (same_length rs ss) (disjoint r s) true

-- Bytes of these ranges are no spelling.
abbrev is_free : List Row → List Range → Bool
is_free [] ss = true
is_free (row ∷ others) ss = apart row.bytes ss && is_free others ss

-- No end of bytes of these ranges is a spelling.
abbrev has_no_end : List Row → List Range → Bool
has_no_end all [] = true
has_no_end all (r ∷ rs) = is_free all rs && has_no_end all rs

abbrev have_no_end : List Row → List Row → Bool
have_no_end all [] = true
have_no_end all (row ∷ others) = has_no_end all row.bytes && have_no_end all others

sets_have_no_end : (set : Charset) → have_no_end (rows set) (rows set) ≡ true
sets_have_no_end Latin1 = refl
sets_have_no_end Ascii = refl
sets_have_no_end Utf8mb3 = refl
sets_have_no_end Utf8mb4 = refl
sets_have_no_end Ucs2 = refl
sets_have_no_end Utf16 = refl
sets_have_no_end Utf32 = refl
sets_have_no_end Binary = refl

factor_positive : (a b n : ℕ) → n < a * b → 0 < b
factor_positive a zero n h = absurd (omega (arith, h))
factor_positive a (suc b) n h = omega arith

fits_sequence : (rs : List Range) (n : ℕ) → n < count rs → Fits rs (sequence rs n)
fits_sequence [] n h = refl
fits_sequence (r ∷ rs) n h =
    let positive : 0 < count rs = factor_positive (r.greatest + 1 - r.least) (count rs) n h in
    let digit : n / count rs < r.greatest + 1 - r.least = (div-lt_iff_lt-mul positive).1 (omega (arith, h)) in
    (omega arith, omega (arith, digit), fits_sequence rs (n % count rs) (mod-lt n positive))

both : (a b : Bool) → (a && b) ≡ true → (a ≡ true) × (b ≡ true)
both true b h = (refl, h)
both false b h = absurd (cc)

in_row : (row : Row) (code : ℕ) → has_code row code ≡ true → code - row.first < count row.bytes
in_row row code h = grind (arith, nat_tests)

-- What each row passes, the bytes of a spelling fit.
spelling_fits : (p : List Range → Bool) (every : List Row → Bool) (code : ℕ) (front : List ℕ)
    → ((row : Row) (others : List Row) → every (row ∷ others) ≡ true → (p row.bytes ≡ true) × (every others ≡ true))
    → (table : List Row) → every table ≡ true → spelling_in table code ≡ Some front → (rs : List Range) × (p rs ≡ true) × Fits rs front
spelling_fits p every code front each [] h k = absurd (cc)
spelling_fits p every code front each (row ∷ others) h k =
    of (has_code row code) (spelling_fits p every code front each others (each row others h).1) refl k
  where
    of : (b : Bool) → (spelling_in others code ≡ Some front → (rs : List Range) × (p rs ≡ true) × Fits rs front)
        → has_code row code ≡ b → cond b (Some (sequence row.bytes (code - row.first))) (spelling_in others code) ≡ Some front
        → (rs : List Range) × (p rs ≡ true) × Fits rs front
    of true later t e =
        let same : sequence row.bytes (code - row.first) ≡ front = cc in
        (row.bytes, (each row others h).0, subst (Fits row.bytes) same (fits_sequence row.bytes (code - row.first) (in_row row code t)))
    of false later t e = later e

-- No end of a spelling

fits_same : (rs ss : List Range) (bytes : List ℕ) → Fits rs bytes → Fits ss bytes → same_length rs ss ≡ true
fits_same [] [] bytes f g = refl
fits_same [] (s ∷ ss) [] f g = absurd g
fits_same [] (s ∷ ss) (b ∷ bytes) f g = absurd f
fits_same (r ∷ rs) [] [] f g = absurd f
fits_same (r ∷ rs) [] (b ∷ bytes) f g = absurd g
fits_same (r ∷ rs) (s ∷ ss) [] f g = absurd f
fits_same (r ∷ rs) (s ∷ ss) (b ∷ bytes) f g = fits_same rs ss bytes f.2 g.2

not_in_both : (r s : Range) (b : ℕ) → disjoint r s ≡ true → r.least ≤ b → b ≤ r.greatest → s.least ≤ b → b ≤ s.greatest → ⊥
not_in_both r s b h k l m n = grind (arith, nat_tests)

not_both_fit : (rs ss : List Range) (bytes : List ℕ) → apart rs ss ≡ true → 0 < length bytes → Fits rs bytes → Fits ss bytes → ⊥
not_both_fit rs ss [] a h f g = absurd (omega (arith, h))
not_both_fit [] ss (b ∷ bytes) a h f g = f
not_both_fit (r ∷ rs) [] (b ∷ bytes) a h f g = g
not_both_fit (r ∷ rs) (s ∷ ss) (b ∷ bytes) a h f g =
    let apart_first : disjoint r s ≡ true = ap (λ x. cond x (disjoint r s) true) (sym (fits_same rs ss bytes f.2 g.2)) ∙ a in
    not_in_both r s b apart_first f.0 f.1 g.0 g.1

free_row : (ss : List Range) (row : Row) (others : List Row) → is_free (row ∷ others) ss ≡ true → (apart row.bytes ss ≡ true) × (is_free others ss ≡ true)
free_row ss row others h = both (apart row.bytes ss) (is_free others ss) h

end_row : (all : List Row) (row : Row) (others : List Row) → have_no_end all (row ∷ others) ≡ true → (has_no_end all row.bytes ≡ true) × (have_no_end all others ≡ true)
end_row all row others h = both (has_no_end all row.bytes) (have_no_end all others) h

no_end_fits : (all : List Row) (code : ℕ) (front : List ℕ) → spelling_in all code ≡ Some front → 0 < length front
    → (rs : List Range) (more : List ℕ) → has_no_end all rs ≡ true → Fits rs (more ++ front) → 0 < length more → ⊥
no_end_fits all code front e h rs [] n f l = omega (arith, l)
no_end_fits all code front e h [] (b ∷ more) n f l = f
no_end_fits all code front e h (r ∷ rs) (b ∷ []) n f l =
    let parts = both (is_free all rs) (has_no_end all rs) n in
    let own = spelling_fits (λ ss. apart ss rs) (λ rows. is_free rows rs) code front (λ row others. free_row rs row others) all parts.0 e in
    not_both_fit own.0 rs front own.1 h own.2 f.2
no_end_fits all code front e h (r ∷ rs) (b ∷ (c ∷ more)) n f l =
    let parts = both (is_free all rs) (has_no_end all rs) n in
    no_end_fits all code front e h rs (c ∷ more) parts.1 f.2 (omega arith)

nothing : (more : List ℕ) → (0 < length more → ⊥) → more ≡ []
nothing [] h = refl
nothing (b ∷ more) h = absurd (h (omega arith))

-- No spelling of a set is the end of a longer one.
pub no_end : (set : Charset) (code other : ℕ) (front more : List ℕ) → spell set code ≡ Some front → spell set other ≡ Some (more ++ front) → more ≡ []
unfolding spell
no_end set code other front more e o =
    let longer = spelling_fits (has_no_end (rows set)) (have_no_end (rows set)) other (more ++ front) (λ row others. end_row (rows set) row others) (rows set) (sets_have_no_end set) o in
    nothing more (no_end_fits (rows set) code front e (spell_positive set code front e) longer.0 more longer.1 longer.2)

-- The characters at the end

-- The last of the characters that spell a text, and those before it.
record Last (set : Charset) (codes : List ℕ) (code : ℕ) (text : List ℕ) : Type 0 where
  pub before : List ℕ
  pub back : List ℕ
  pub before_spelled : Spells set codes before
  pub spelled : spell set code ≡ Some back
  pub joins : text ≡ before ++ back

last_of : (set : Charset) (codes : List ℕ) (code : ℕ) (text : List ℕ) → Spells set (codes ++ code ∷ []) text → Last set codes code text
last_of set [] code text s =
    let p = Spells_split set code [] text s in
    record {
      before = [];
      back = p.front;
      before_spelled = empty_spelled set;
      spelled = p.spelled;
      joins = p.joins ∙ ap (λ x. p.front ++ x) (Spells_nil set p.rest p.rest_spelled) ∙ append-nil p.front;
    }
last_of set (first ∷ codes) code text s =
    let p = Spells_split set first (codes ++ code ∷ []) text s in
    let behind = last_of set codes code p.rest p.rest_spelled in
    record {
      before = p.front ++ behind.before;
      back = behind.back;
      before_spelled = Spells_cons set first codes p.front behind.before p.spelled behind.before_spelled;
      spelled = behind.spelled;
      joins = p.joins ∙ ap (λ x. p.front ++ x) behind.joins ∙ sym (append_assoc p.front behind.before behind.back);
    }

-- Of two ends of a text the longer one ends with the other.
longer_end : (a x b z : List ℕ) → a ++ x ≡ b ++ z → length x ≤ length z → (y : List ℕ) × (z ≡ y ++ x) × (a ≡ b ++ y)
longer_end a x [] z e h = (a, sym e, refl)
longer_end [] x (c ∷ b) z e h = absurd (omega (arith, ap (λ t. length t) e, length-append (c ∷ b) z, h))
longer_end (d ∷ a) x (c ∷ b) z e h =
    let rest : a ++ x ≡ b ++ z = cc in
    let first : d ≡ c = cc in
    let found = longer_end a x b z rest h in
    (found.0, found.1, ap (λ t. d ∷ t) found.2 ∙ ap (λ k. k ∷ (b ++ found.0)) first)

-- What `chars_law` says.
abbrev pub NoPrefix : Type 0
NoPrefix = (set : Charset) (code other : ℕ) (front more : List ℕ) → spell set code ≡ Some front → spell set other ≡ Some (front ++ more) → (code ≡ other) × (more ≡ [])

same_end : (set : Charset) (code other : ℕ) (a x b z : List ℕ) → spell set code ≡ Some x → spell set other ≡ Some z → a ++ x ≡ b ++ z
    → length x ≤ length z → (x ≡ z) × (a ≡ b)
same_end set code other a x b z e o t h =
    let found = longer_end a x b z t h in
    let none : found.0 ≡ [] = no_end set code other x found.0 e (o ∙ ap (λ s. Some s) found.1) in
    (sym (found.1 ∙ ap (λ y. y ++ x) none), found.2 ∙ ap (λ y. b ++ y) none ∙ append-nil b)

same_last : (set : Charset) (code other : ℕ) (a x b z : List ℕ) → spell set code ≡ Some x → spell set other ≡ Some z → a ++ x ≡ b ++ z → (x ≡ z) × (a ≡ b)
same_last set code other a x b z e o t = by (leb (length x) (length z)) refl
  where
    by : (l : Bool) → leb (length x) (length z) ≡ l → (x ≡ z) × (a ≡ b)
    by true l = same_end set code other a x b z e o t (grind (arith, nat_tests))
    by false l =
        let turned = same_end set other code b z a x o e (sym t) (grind (arith, nat_tests)) in
        (sym turned.0, sym turned.1)

-- The text ends with what these characters, the last one first, spell; so they stand there.
pub ended_by : NoPrefix → (set : Charset) (removed codes before bytes : List ℕ) → Spells set (reverse removed) bytes → Spells set (reverse codes) (before ++ bytes)
    → (more : List ℕ) × (codes ≡ removed ++ more) × Spells set (reverse more) before
ended_by n set [] codes before bytes r s =
    let none = Spells_nil set bytes r in
    (codes, refl, subst (λ (t : List ℕ). Spells set (reverse codes) t) (ap (λ b. before ++ b) none ∙ append-nil before) s)
ended_by n set (code ∷ removed) [] before bytes r s =
    let none = ap (λ t. length t) (Spells_nil set (before ++ bytes) s) in
    let long = as_long set (reverse (code ∷ removed)) bytes r in
    absurd (omega (arith, none, length-append before bytes, long, length-reverse (code ∷ removed)))
ended_by n set (code ∷ removed) (other ∷ codes) before bytes r s =
    let own = last_of set (reverse removed) code bytes (subst (λ (c : List ℕ). Spells set c bytes) (reverse-append (code ∷ []) removed) r) in
    let its = last_of set (reverse codes) other (before ++ bytes) (subst (λ (c : List ℕ). Spells set c (before ++ bytes)) (reverse-append (other ∷ []) codes) s) in
    let joins : (before ++ own.before) ++ own.back ≡ its.before ++ its.back =
    append_assoc before own.before own.back ∙ ap (λ b. before ++ b) (sym own.joins) ∙ its.joins in
    let same = same_last set code other (before ++ own.before) own.back its.before its.back own.spelled its.spelled joins in
    let one = (n set code other own.back [] own.spelled (its.spelled ∙ ap (λ t. Some t) (sym same.0 ∙ sym (append-nil own.back)))).0 in
    let later = ended_by n set removed codes before own.before own.before_spelled (subst (λ (t : List ℕ). Spells set (reverse codes) t) (sym same.1) its.before_spelled) in
    (later.0, ap (λ c. other ∷ c) later.1 ∙ ap (λ c. c ∷ (removed ++ later.0)) (sym one), later.2)
