-- In UTF-8 a character begins at each byte that is none of 80 to BF, and nowhere else.
use Rattle.std.proofs.Common.{◌≡◌, ℕ, ◌+◌, ◌-◌, ◌/◌, ◌%◌, ◌<◌, ◌≤◌, ◌⊎◌, Bool, true, false, cond, ltb, leb, ◌&&◌, ◌||◌, List, [], ◌∷◌, ◌++◌, Some, length, filter, take, drop, get_or, refl, sym, ap, subst, ◌∙◌, arith, inl, inr, zero, suc}
use Rattle.std.proofs.lemmas.Bool.{cases_lt, false≢true}
use Rattle.std.proofs.lemmas.Grind.{common_steps}
use Rattle.std.proofs.lemmas.List.{length-append}
use Rattle.std.proofs.Math.Nat.{mod-lt}
use Rattle.std.proofs.Math.Seq.{drop-length, take-length, take-add, take-append-add, drop-append-add}
use Rattle.mc_charset.specs.declared.charset.Charset.{Charset}
use Rattle.mc_charset.specs.declared.charset.Charset.TheVariants.{Utf8mb3, Utf8mb4}
use Rattle.mc_charset.specs.Rows.{Range, Row, count, sequence, has_code, spelling_in}
use Rattle.mc_charset.specs.Tables.{rows}
use Rattle.mc_charset.specs.Chars.{spell, spell_all, chars, Spells, IsWellFormed}
use Rattle.mc_charset.specs.CharStart.{IsCharStart, is_not_behind}
use Rattle.mc_charset.proofs.Rows.{are_filled, count_positive, and_parts, guard_cases, has_code_parts}
use Rattle.mc_charset.proofs.FirstBytes.{filter-append, all_behind, begins_once, rows_begin_once, digit_below, begin, none_begins}
use Rattle.mc_charset.proofs.Chars.{well_formed_spelled, empty_spelled, chars-nil, Spells_nil, Spells_split, Spells_cons}
use Rattle.mc_charset.proofs.Start.{start_at_end}

-- The first byte of a spelling begins a character, and the others begin none.
record BeginsOnce (front : List ℕ) : Type 0 where
  pub first : ℕ
  pub others : List ℕ
  pub joins : front ≡ first ∷ others
  pub begins : is_not_behind first ≡ true
  pub none : filter is_not_behind others ≡ []

sequence_begins : (rs : List Range) (n : ℕ) → are_filled rs ≡ true → begins_once rs ≡ true → n < count rs → BeginsOnce (sequence rs n)
sequence_begins [] n f h l = absurd (cc)
sequence_begins (r ∷ rs) n f h l =
    let p = and_parts (leb r.least r.greatest) (are_filled rs) f in
    let q = and_parts (ltb r.greatest 0x80 || leb 0xC0 r.least) (all_behind rs) h in
    let positive : 0 < count rs = count_positive rs p.1 in
    let digit = digit_below r rs n p.1 l in
    record {
      first = r.least + n / count rs;
      others = sequence rs (n % count rs);
      joins = refl;
      begins = begin (r.least + n / count rs) r.least r.greatest q.0 (omega arith) (omega (arith, digit));
      none = none_begins rs (n % count rs) p.1 q.1 (mod-lt n positive);
    }

spelling_begins_once : (rows : List Row) (code : ℕ) (front : List ℕ) → rows_begin_once rows ≡ true → spelling_in rows code ≡ Some front → BeginsOnce front
spelling_begins_once [] code front h k = absurd (cc)
spelling_begins_once (row ∷ rows) code front h k =
    let p = and_parts (are_filled row.bytes && begins_once row.bytes) (rows_begin_once rows) h in
    let q = and_parts (are_filled row.bytes) (begins_once row.bytes) p.0 in
    elim (guard_cases (has_code row code) (sequence row.bytes (code - row.first)) front (spelling_in rows code) k) [
      | inl e ↦
          let w = has_code_parts row code e.0 in
          subst BeginsOnce e.1 (sequence_begins row.bytes (code - row.first) q.0 q.1 (omega (arith, w.0, w.1)))
      | inr e ↦ spelling_begins_once rows code front p.1 e.1
    ]

-- Each spelling of the set begins once.
abbrev AllBeginOnce : Charset → Type 0
AllBeginOnce set = (code : ℕ) (front : List ℕ) → spell set code ≡ Some front → BeginsOnce front

mb3_begin_once : AllBeginOnce Utf8mb3
unfolding spell
mb3_begin_once code front h = spelling_begins_once (rows Utf8mb3) code front refl h

mb4_begin_once : AllBeginOnce Utf8mb4
unfolding spell
mb4_begin_once code front h = spelling_begins_once (rows Utf8mb4) code front refl h

begin_once : (set : Charset) → (set ≡ Utf8mb3) ⊎ (set ≡ Utf8mb4) → AllBeginOnce set
begin_once set (inl e) = subst AllBeginOnce (sym e) mb3_begin_once
begin_once set (inr e) = subst AllBeginOnce (sym e) mb4_begin_once

-- Places

none_here : (b : Bool) (x : ℕ) (xs : List ℕ) → cond b (x ∷ xs) xs ≡ [] → (b ≡ false) × (xs ≡ [])
none_here true x xs h = absurd (cc)
none_here false x xs h = (refl, h)

none_at : (xs : List ℕ) (j : ℕ) → filter is_not_behind xs ≡ [] → j < length xs → is_not_behind (get_or xs j 0) ≡ false
none_at [] j h l = absurd (omega arith)
none_at (x ∷ xs) zero h l = (none_here (is_not_behind x) x (filter is_not_behind xs) h).0
none_at (x ∷ xs) (suc j) h l = none_at xs j (none_here (is_not_behind x) x (filter is_not_behind xs) h).1 (omega arith)

get_or-front : (xs ys : List ℕ) (j : ℕ) → j < length xs → get_or (xs ++ ys) j 0 ≡ get_or xs j 0
get_or-front xs ys j h = grind (arith, common_steps)

get_or-rest : (xs ys : List ℕ) (j : ℕ) → get_or (xs ++ ys) (length xs + j) 0 ≡ get_or ys j 0
get_or-rest xs ys j = grind (arith, common_steps)

one_of : (first : ℕ) (others : List ℕ) → is_not_behind first ≡ true → filter is_not_behind others ≡ [] → length (filter is_not_behind (first ∷ others)) ≡ 1
one_of first others h k =
    ap (λ b. length (cond b (first ∷ filter is_not_behind others) (filter is_not_behind others))) h ∙ ap (λ xs. suc (length xs)) k

-- No character begins behind the first byte of a spelling.
inside : (first : ℕ) (others rest : List ℕ) (p : ℕ) → filter is_not_behind others ≡ [] → p < length others
    → is_not_behind (get_or (first ∷ (others ++ rest)) (suc p) 0) ≡ false
inside first others rest p h l = ap is_not_behind (get_or-front others rest p l) ∙ none_at others p h l

one_more : (n : ℕ) → 1 + n ≡ suc n
one_more n = omega arith

-- How many bytes that begin characters stand before a later place.
pub count_more : (text : List ℕ) (start n : ℕ)
    → length (filter is_not_behind (take (start + n) text)) ≡ length (filter is_not_behind (take start text)) + length (filter is_not_behind (take n (drop start text)))
count_more text start n =
    ap (λ t. length (filter is_not_behind t)) (take-add start n text)
    ∙ ap length (filter-append is_not_behind (take start text) (take n (drop start text)))
    ∙ length-append (filter is_not_behind (take start text)) (filter is_not_behind (take n (drop start text)))

record IsCut (set : Charset) (codes text : List ℕ) (k p : ℕ) : Type 0 where
  pub before : Spells set (take k codes) (take p text)
  pub behind : Spells set (drop k codes) (drop p text)

-- A place where the text ends or a byte begins a character cuts the characters behind as many as begin before it.
cut_at : (set : Charset) → AllBeginOnce set → (codes text : List ℕ) (p : ℕ) → Spells set codes text → p ≤ length text
    → (p ≡ length text) ⊎ (is_not_behind (get_or text p 0) ≡ true) → IsCut set codes text (length (filter is_not_behind (take p text))) p
cut_at set once codes text zero h w b = record { before = empty_spelled set; behind = h }
cut_at set once [] text (suc p) h w b = let e = ap length (Spells_nil set text h) in absurd (omega (arith, e))
cut_at set once (code ∷ codes) text (suc p) h w b =
    let s = Spells_split set code codes text h in
    let o = once code s.front s.spelled in
    let long : length text ≡ length s.front + length s.rest = ap length s.joins ∙ length-append s.front s.rest in
    elim (cases_lt (suc p) (length s.front)) [
      | inl l ↦
          let whole : text ≡ o.first ∷ (o.others ++ s.rest) = s.joins ∙ ap (λ t. t ++ s.rest) o.joins in
          let l' : p < length o.others = omega (arith, l, ap length o.joins) in
          let no : is_not_behind (get_or text (suc p) 0) ≡ false =
          ap (λ t. is_not_behind (get_or t (suc p) 0)) whole ∙ inside o.first o.others s.rest p o.none l' in
          elim b [
            | inl e ↦ absurd (omega (arith, e, long, l))
            | inr e ↦ absurd (false≢true (sym no ∙ e))
          ]
      | inr l ↦
          let q = suc p - length s.front in
          let at : suc p ≡ length s.front + q = omega (arith, l) in
          let taken : take (suc p) text ≡ s.front ++ take q s.rest =
          ap (take (suc p)) s.joins ∙ ap (λ n. take n (s.front ++ s.rest)) at ∙ take-append-add s.front s.rest q in
          let left : drop (suc p) text ≡ drop q s.rest =
          ap (drop (suc p)) s.joins ∙ ap (λ n. drop n (s.front ++ s.rest)) at ∙ drop-append-add s.front s.rest q in
          let b' : (q ≡ length s.rest) ⊎ (is_not_behind (get_or s.rest q 0) ≡ true) = elim b [
            | inl e ↦ inl (omega (arith, e, long, l))
            | inr e ↦ inr (ap is_not_behind (sym (ap (λ t. get_or t (suc p) 0) s.joins ∙ ap (λ n. get_or (s.front ++ s.rest) n 0) at ∙ get_or-rest s.front s.rest q)) ∙ e)
          ] in
          let i = cut_at set once codes s.rest q s.rest_spelled (omega (arith, w, long, l)) b' in
          let one : length (filter is_not_behind s.front) ≡ 1 =
          ap (λ t. length (filter is_not_behind t)) o.joins ∙ one_of o.first o.others o.begins o.none in
          let counted : length (filter is_not_behind (take (suc p) text)) ≡ suc (length (filter is_not_behind (take q s.rest))) =
          ap (λ t. length (filter is_not_behind t)) taken ∙ ap length (filter-append is_not_behind s.front (take q s.rest))
          ∙ length-append (filter is_not_behind s.front) (filter is_not_behind (take q s.rest))
          ∙ ap (λ n. n + length (filter is_not_behind (take q s.rest))) one ∙ one_more (length (filter is_not_behind (take q s.rest))) in
          let k = length (filter is_not_behind (take q s.rest)) in
          record {
            before =
                ap (λ n. spell_all set (take n (code ∷ codes))) counted
                ∙ Spells_cons set code (take k codes) s.front (take q s.rest) s.spelled i.before ∙ ap (λ x. Some x) (sym taken);
            behind = ap (λ n. spell_all set (drop n (code ∷ codes))) counted ∙ i.behind ∙ ap (λ x. Some x) (sym left);
          }
    ]

-- What a place is that bytes tell: character `k` begins there, or the text has no more characters.
pub first_starts : (set : Charset) (text : List ℕ) (k p : ℕ) → (set ≡ Utf8mb3) ⊎ (set ≡ Utf8mb4) → IsWellFormed set text → p ≤ length text
    → (p < length text → length (filter is_not_behind (take p text)) ≡ k)
    → (p < length text → is_not_behind (get_or text p 0) ≡ true)
    → (length text ≤ p → length (filter is_not_behind text) ≤ k) → IsCharStart set text k p
first_starts set text k p utf8 w within counted first all =
    elim (cases_lt p (length text)) [
      | inl l ↦
          let c = cut_at set (begin_once set utf8) (chars set text) text p (well_formed_spelled set text w) within (inr (first l)) in
          subst (λ (n : ℕ). IsCharStart set text n p) (counted l) (record { within = within; before = c.before; behind = c.behind })
      | inr l ↦
          let e : p ≡ length text = omega (arith, within, l) in
          let c = cut_at set (begin_once set utf8) (chars set text) text p (well_formed_spelled set text w) within (inl e) in
          let none : drop p text ≡ [] = ap (λ n. drop n text) e ∙ drop-length text in
          let whole : take p text ≡ text = ap (λ n. take n text) e ∙ take-length text in
          start_at_end set text (length (filter is_not_behind (take p text))) k p
          (record { within = within; before = c.before; behind = c.behind })
          (ap (chars set) none ∙ chars-nil set) (omega (arith, all l, ap (λ t. length (filter is_not_behind t)) whole))
    ]
