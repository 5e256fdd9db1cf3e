-- Rows: a place and its byte sequence are inverse; a table whose rows are apart spells one way only.
use Rattle.std.proofs.Common.{◌≡◌, ℕ, ◌+◌, ◌-◌, ◌*◌, ◌/◌, ◌%◌, ◌<◌, ◌≤◌, ◌⊎◌, Bool, true, false, cond, ◌&&◌, ◌||◌, ltb, leb, List, [], ◌∷◌, ◌++◌, Option, Some, None, length, take, refl, sym, ap, ◌∙◌, subst, arith, inl, inr, suc}
use Rattle.std.specs.Option.{option_map, option_or}
use Rattle.std.proofs.lemmas.Bool.Decides.{nat_tests}
use Rattle.std.proofs.Math.Nat.{mod-lt, div-lt_iff_lt-mul}
use Rattle.std.proofs.lemmas.Nat.{div-mul-add, mod-mul-add, div-add-mod', mul-lt, mul-add-lt}
use Rattle.mc_charset.specs.Rows.{Range, Row, count, sequence, has_code, spelling_in, place, first_in}

-- Each range has a byte.
abbrev pub are_filled : List Range → Bool
are_filled [] = true
are_filled (r ∷ rs) = leb r.least r.greatest && are_filled rs

pub and_parts : (a b : Bool) → (a && b) ≡ true → (a ≡ true) × (b ≡ true)
and_parts true true h = (refl, refl)
and_parts true false h = absurd (cc)
and_parts false b h = absurd (cc)

pub count_positive : (rs : List Range) → are_filled rs ≡ true → 0 < count rs
count_positive [] h = omega arith
count_positive (r ∷ rs) h =
    let p = and_parts (leb r.least r.greatest) (are_filled rs) h in
    let q : 0 < count rs = count_positive rs p.1 in
    let w : 0 < r.greatest + 1 - r.least = grind (arith, nat_tests) in
    mul-lt 0 0 (r.greatest + 1 - r.least) (count rs) w q

pub length-sequence : (rs : List Range) (n : ℕ) → length (sequence rs n) ≡ length rs
length-sequence [] n = refl
length-sequence (r ∷ rs) n = ap suc (length-sequence rs (n % count rs))

-- A byte in the first range.
place_within : (r : Range) (rs : List Range) (b : ℕ) (bytes : List ℕ) → r.least ≤ b → b ≤ r.greatest → place (r ∷ rs) (b ∷ bytes) ≡ option_map (λ n. (b - r.least) * count rs + n) (place rs bytes)
place_within r rs b bytes h k = grind (arith, nat_tests)

guarded_some : (t : Bool) (f : ℕ → ℕ) (o : Option ℕ) (n : ℕ) → cond t (option_map f o) None ≡ Some n → (t ≡ true) × ((m : ℕ) × (o ≡ Some m) × (n ≡ f m))
guarded_some true f (Some m) n h = (refl, (m, refl, cc))
guarded_some true f None n h = absurd (cc)
guarded_some false f o n h = absurd (cc)

or_some : (o u : Option (ℕ × ℕ)) (x : ℕ × ℕ) → option_or o u ≡ Some x → (o ≡ Some x) ⊎ (u ≡ Some x)
or_some (Some y) u x h = inl h
or_some None u x h = inr h

map_some : (f : ℕ → ℕ × ℕ) (o : Option ℕ) (x : ℕ × ℕ) → option_map f o ≡ Some x → (n : ℕ) × (o ≡ Some n) × (f n ≡ x)
map_some f (Some n) x h = (n, refl, cc)
map_some f None x h = absurd (cc)

-- What a place says of the first byte and of the rest.
pub record Parts (r : Range) (rs : List Range) (b : ℕ) (bytes : List ℕ) (n : ℕ) : Type 0 where
  pub rest_place : ℕ
  pub rest_is : place rs bytes ≡ Some rest_place
  pub above : r.least ≤ b
  pub below : b ≤ r.greatest
  pub sum : n ≡ (b - r.least) * count rs + rest_place

place_parts : (r : Range) (rs : List Range) (b : ℕ) (bytes : List ℕ) (n : ℕ) → place (r ∷ rs) (b ∷ bytes) ≡ Some n → Parts r rs b bytes n
place_parts r rs b bytes n h =
    let g = guarded_some (leb r.least b && leb b r.greatest) (λ m. (b - r.least) * count rs + m) (place rs bytes) n h in
    let p = and_parts (leb r.least b) (leb b r.greatest) g.0 in
    record { rest_place = g.1.0; rest_is = g.1.1; above = grind (arith, nat_tests); below = grind (arith, nat_tests); sum = g.1.2 }

-- The bytes begin with the byte sequence at this place of the ranges.
pub record Begins (rs : List Range) (bytes : List ℕ) (n : ℕ) : Type 0 where
  pub below : n < count rs
  pub within : length rs ≤ length bytes
  pub spelled : take (length rs) bytes ≡ sequence rs n

pub place_begins : (rs : List Range) (bytes : List ℕ) (n : ℕ) → place rs bytes ≡ Some n → Begins rs bytes n
place_begins [] bytes n h = let e : 0 ≡ n = cc in record { below = omega arith; within = omega arith; spelled = refl }
place_begins (r ∷ rs) [] n h = absurd (cc)
place_begins (r ∷ rs) (b ∷ bytes) n h =
    let p = place_parts r rs b bytes n h in
    let i = place_begins rs bytes p.rest_place p.rest_is in
    let c = count rs in
    let m = p.rest_place in
    let q = b - r.least in
    let lt : m < c = i.below in
    let above : r.least ≤ b = p.above in
    let below : b ≤ r.greatest = p.below in
    let d : n / c ≡ q = ap (λ x. x / c) p.sum ∙ div-mul-add q c m lt in
    let e : n % c ≡ m = ap (λ x. x % c) p.sum ∙ mod-mul-add q c m lt in
    let f : r.least + n / c ≡ b = omega (arith, d) in
    let k : q * c + m < c * (r.greatest + 1 - r.least) = mul-add-lt q c m (r.greatest + 1 - r.least) (omega arith) lt in
    record {
      below = omega (arith, k, p.sum);
      within = omega (arith, i.within);
      spelled = ap (λ x. b ∷ x) (i.spelled ∙ ap (sequence rs) (sym e)) ∙ ap (λ x. x ∷ sequence rs (n % c)) (sym f);
    }

-- The byte sequence at a place has that place, whatever follows it.
pub place-sequence : (rs : List Range) (n : ℕ) (rest : List ℕ) → are_filled rs ≡ true → n < count rs → place rs (sequence rs n ++ rest) ≡ Some n
place-sequence [] n rest h k = let e : n ≡ 0 = omega arith in rw e
place-sequence (r ∷ rs) n rest h k =
    let p = and_parts (leb r.least r.greatest) (are_filled rs) h in
    let c = count rs in
    let w = r.greatest + 1 - r.least in
    let c_positive : 0 < c = count_positive rs p.1 in
    let m : n % c < c = mod-lt n c_positive in
    let q : n / c < w = (div-lt_iff_lt-mul c_positive).1 (omega (arith, k)) in
    let i : place rs (sequence rs (n % c) ++ rest) ≡ Some (n % c) = place-sequence rs (n % c) rest p.1 m in
    let b = r.least + n / c in
    let e : (b - r.least) * c + n % c ≡ n = let d : b - r.least ≡ n / c = omega arith in rw d (div-add-mod' n c) in
    place_within r rs b (sequence rs (n % c) ++ rest) (omega arith) (omega arith) ∙ ap (option_map (λ x. (b - r.least) * c + x)) i ∙ ap (λ x. Some x) e

-- Some range of the one lies apart from the range of the other at its place.
abbrev pub are_apart : List Range → List Range → Bool
are_apart [] ss = false
are_apart (r ∷ rs) [] = false
are_apart (r ∷ rs) (s ∷ ss) = (ltb r.greatest s.least || ltb s.greatest r.least) || are_apart rs ss

or_parts : (a b : Bool) → (a || b) ≡ true → (a ≡ true) ⊎ (b ≡ true)
or_parts true b h = inl refl
or_parts false b h = inr h

place_apart : (rs ss : List Range) (bytes : List ℕ) (n m : ℕ) → are_apart rs ss ≡ true → place rs bytes ≡ Some n → place ss bytes ≡ Some m → ⊥
place_apart [] ss bytes n m h k l = absurd (cc)
place_apart (r ∷ rs) [] bytes n m h k l = absurd (cc)
place_apart (r ∷ rs) (s ∷ ss) [] n m h k l = absurd (cc)
place_apart (r ∷ rs) (s ∷ ss) (b ∷ bytes) n m h k l =
    let p = place_parts r rs b bytes n k in
    let q = place_parts s ss b bytes m l in
    elim (or_parts (ltb r.greatest s.least || ltb s.greatest r.least) (are_apart rs ss) h) [
      | inl g ↦ elim (or_parts (ltb r.greatest s.least) (ltb s.greatest r.least) g) [
        | inl e ↦ let x : r.least ≤ b = p.above in let y : b ≤ r.greatest = p.below in let z : s.least ≤ b = q.above in grind (arith, nat_tests)
        | inr e ↦ let x : r.least ≤ b = p.above in let y : b ≤ s.greatest = q.below in grind (arith, nat_tests)
      ]
      | inr g ↦ place_apart rs ss bytes p.rest_place q.rest_place g p.rest_is q.rest_is
    ]

-- The row's spellings and code points are apart from those of each of the rows.
abbrev pub is_apart_from : Row → List Row → Bool
is_apart_from row [] = true
is_apart_from row (other ∷ rows) =
    (are_apart row.bytes other.bytes
    && (leb (row.first + count row.bytes) other.first || leb (other.first + count other.bytes) row.first))
    && is_apart_from row rows

-- Each row has bytes, at least one, and the rows are apart.
abbrev pub is_sound : List Row → Bool
is_sound [] = true
is_sound (row ∷ rows) = (ltb 0 (length row.bytes) && are_filled row.bytes) && (is_apart_from row rows && is_sound rows)

-- No byte sequence of an apart row begins what begins with a spelling of the rows.
first_in_apart : (row : Row) (rows : List Row) (bytes : List ℕ) (n : ℕ) (found : ℕ × ℕ) → is_apart_from row rows ≡ true → place row.bytes bytes ≡ Some n → first_in rows bytes ≡ Some found → ⊥
first_in_apart row [] bytes n found h k l = absurd (cc)
first_in_apart row (other ∷ rows) bytes n found h k l =
    let p = and_parts (are_apart row.bytes other.bytes && (leb (row.first + count row.bytes) other.first || leb (other.first + count other.bytes) row.first)) (is_apart_from row rows) h in
    let q = and_parts (are_apart row.bytes other.bytes) (leb (row.first + count row.bytes) other.first || leb (other.first + count other.bytes) row.first) p.0 in
    elim (or_some (option_map (λ m. (other.first + m, length other.bytes)) (place other.bytes bytes)) (first_in rows bytes) found l) [
      | inl e ↦ let m = map_some (λ m. (other.first + m, length other.bytes)) (place other.bytes bytes) found e in place_apart row.bytes other.bytes bytes n m.0 q.0 k m.1
      | inr e ↦ first_in_apart row rows bytes n found p.1 k e
    ]

pub guard_cases : (t : Bool) (x y : List ℕ) (o : Option (List ℕ)) → cond t (Some x) o ≡ Some y → ((t ≡ true) × (x ≡ y)) ⊎ ((t ≡ false) × (o ≡ Some y))
guard_cases true x y o h = inl (refl, cc)
guard_cases false x y o h = inr (refl, h)

none_if : (o : Option ℕ) → ((n : ℕ) → o ≡ Some n → ⊥) → o ≡ None
none_if None h = refl
none_if (Some n) h = absurd (h n refl)

ltb_lt : (a b : ℕ) → ltb a b ≡ true → a < b
ltb_lt a b h = grind (arith, nat_tests)

codes_apart : (a m b n code : ℕ) → (leb (a + m) b || leb (b + n) a) ≡ true → (leb b code && ltb code (b + n)) ≡ true → (leb a code && ltb code (a + m)) ≡ false
codes_apart a m b n code h k = grind (arith, nat_tests)

-- A code point that the rows have is none of a row that is apart from them.
has_code_apart : (row : Row) (rows : List Row) (code : ℕ) (front : List ℕ) → is_apart_from row rows ≡ true → spelling_in rows code ≡ Some front → has_code row code ≡ false
has_code_apart row [] code front h k = absurd (cc)
has_code_apart row (other ∷ rows) code front h k =
    let p = and_parts (are_apart row.bytes other.bytes && (leb (row.first + count row.bytes) other.first || leb (other.first + count other.bytes) row.first)) (is_apart_from row rows) h in
    let q = and_parts (are_apart row.bytes other.bytes) (leb (row.first + count row.bytes) other.first || leb (other.first + count other.bytes) row.first) p.0 in
    elim (guard_cases (has_code other code) (sequence other.bytes (code - other.first)) front (spelling_in rows code) k) [
      | inl e ↦ codes_apart row.first (count row.bytes) other.first (count other.bytes) code q.1 e.0
      | inr e ↦ has_code_apart row rows code front p.1 e.1
    ]

pub has_code_parts : (row : Row) (code : ℕ) → has_code row code ≡ true → (row.first ≤ code) × (code < row.first + count row.bytes)
has_code_parts row code h =
    let p = and_parts (leb row.first code) (ltb code (row.first + count row.bytes)) h in
    (grind (arith, nat_tests), grind (arith, nat_tests))

-- What begins with the spelling of a code point is found to.
pub first_in-spelling : (rows : List Row) (code : ℕ) (front rest : List ℕ) → is_sound rows ≡ true → spelling_in rows code ≡ Some front → first_in rows (front ++ rest) ≡ Some (code, length front)
first_in-spelling [] code front rest h k = absurd (cc)
first_in-spelling (row ∷ rows) code front rest h k =
    let p = and_parts (ltb 0 (length row.bytes) && are_filled row.bytes) (is_apart_from row rows && is_sound rows) h in
    let q = and_parts (ltb 0 (length row.bytes)) (are_filled row.bytes) p.0 in
    let r = and_parts (is_apart_from row rows) (is_sound rows) p.1 in
    let g = λ (o : Option ℕ). option_or (option_map (λ m. (row.first + m, length row.bytes)) o) (first_in rows (front ++ rest)) in
    elim (guard_cases (has_code row code) (sequence row.bytes (code - row.first)) front (spelling_in rows code) k) [
      | inl e ↦
          let n = code - row.first in
          let w = has_code_parts row code e.0 in
          let i : place row.bytes (front ++ rest) ≡ Some n = ap (λ x. place row.bytes (x ++ rest)) (sym e.1) ∙ place-sequence row.bytes n rest q.1 (omega (arith, w.0, w.1)) in
          let l : length row.bytes ≡ length front = sym (length-sequence row.bytes n) ∙ ap length e.1 in
          let a : row.first + n ≡ code = omega (arith, w.0) in
          ap g i ∙ cc
      | inr e ↦
          let i : first_in rows (front ++ rest) ≡ Some (code, length front) = first_in-spelling rows code front rest r.1 e.1 in
          let o : place row.bytes (front ++ rest) ≡ None = none_if (place row.bytes (front ++ rest)) (λ n l. first_in_apart row rows (front ++ rest) n (code, length front) r.0 l i) in
          ap g o ∙ i
    ]

-- The bytes begin with the spelling of this code point, which has so many bytes.
pub record BeginsWith (rows : List Row) (bytes : List ℕ) (code : ℕ) (len : ℕ) : Type 0 where
  pub spelled : spelling_in rows code ≡ Some (take len bytes)
  pub positive : 0 < len
  pub within : len ≤ length bytes

begins_here : (row : Row) (rows : List Row) (bytes : List ℕ) (n : ℕ) → 0 < length row.bytes → Begins row.bytes bytes n → BeginsWith (row ∷ rows) bytes (row.first + n) (length row.bytes)
begins_here row rows bytes n h b =
    let lt : n < count row.bytes = b.below in
    let t : has_code row (row.first + n) ≡ true = grind (arith, nat_tests) in
    let e : row.first + n - row.first ≡ n = omega arith in
    record {
      spelled = ap (λ x. cond x (Some (sequence row.bytes (row.first + n - row.first))) (spelling_in rows (row.first + n))) t ∙ ap (λ x. Some (sequence row.bytes x)) e ∙ ap (λ x. Some x) (sym b.spelled);
      positive = h;
      within = b.within;
    }

-- What is found is the spelling that the bytes begin with.
pub first_in_begins : (rows : List Row) (bytes : List ℕ) (code len : ℕ) → is_sound rows ≡ true → first_in rows bytes ≡ Some (code, len) → BeginsWith rows bytes code len
first_in_begins [] bytes code len h k = absurd (cc)
first_in_begins (row ∷ rows) bytes code len h k =
    let p = and_parts (ltb 0 (length row.bytes) && are_filled row.bytes) (is_apart_from row rows && is_sound rows) h in
    let q = and_parts (ltb 0 (length row.bytes)) (are_filled row.bytes) p.0 in
    let r = and_parts (is_apart_from row rows) (is_sound rows) p.1 in
    let positive : 0 < length row.bytes = ltb_lt 0 (length row.bytes) q.0 in
    elim (or_some (option_map (λ m. (row.first + m, length row.bytes)) (place row.bytes bytes)) (first_in rows bytes) (code, len) k) [
      | inl e ↦
          let m = map_some (λ m. (row.first + m, length row.bytes)) (place row.bytes bytes) (code, len) e in
          subst (λ (x : ℕ × ℕ). BeginsWith (row ∷ rows) bytes x.0 x.1) m.2 (begins_here row rows bytes m.0 positive (place_begins row.bytes bytes m.0 m.1))
      | inr e ↦
          let i = first_in_begins rows bytes code len r.1 e in
          record {
            spelled = ap (λ x. cond x (Some (sequence row.bytes (code - row.first))) (spelling_in rows code)) (has_code_apart row rows code (take len bytes) r.0 i.spelled) ∙ i.spelled;
            positive = i.positive;
            within = i.within;
          }
    ]

-- Where nothing is found, no spelling begins the bytes.
pub first_in_none : (rows : List Row) (bytes : List ℕ) → is_sound rows ≡ true → first_in rows bytes ≡ None → (code : ℕ) (front rest : List ℕ) → spelling_in rows code ≡ Some front → bytes ≡ front ++ rest → ⊥
first_in_none rows bytes h k code front rest e f = let i = first_in-spelling rows code front rest h e in let j = ap (first_in rows) f in cc
