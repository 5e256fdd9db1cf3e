-- The pair table: what beats what, and that none beats each other.
use Rattle.std.proofs.Common.{◌≡◌, ◌≢◌, ℕ, ◌<◌, ◌≤◌, ◌⊎◌, Bool, true, false, not, ◌&&◌, ◌||◌, cond}
use Rattle.std.proofs.Common.{eqb, refl, sym, ap, ◌∙◌, subst, arith, inl, inr}
use Rattle.std.proofs.lemmas.Bool.{and_parts, eqb-true, eqb-false, eq-eqb, ne_eqb, leb-true, le-leb}
use Rattle.std.proofs.lemmas.Bool.{both_ways, cases_eq, cases_lt, false≢true}
use Rattle.std.proofs.lemmas.Bool.Decides.{nat_tests}
use Rattle.mc_charset.specs.declared.charset.Charset.{Charset}
use Rattle.mc_charset.specs.declared.collation_id.CollId.{CollId}
use Rattle.mc_charset.specs.Names.{same_set}
use Rattle.mc_convert.specs.Classes.{rank, cap_of}
use Rattle.mc_convert.specs.Conversion.{is_binary}
use Rattle.mc_coerce.specs.declared.operand.Operand.{Operand}
use Rattle.mc_coerce.specs.Operand.{AgreeOnSet}
use Rattle.mc_coerce.specs.Sets.{bin_collation_of, extends, is_unicode_beside_other}
use Rattle.mc_coerce.specs.Sets.{are_unicode_apart}
use Rattle.mc_coerce.specs.Pair.{beats, has_precedence, is_ascii, is_lower_or, same_collation}
use Rattle.mc_coerce.specs.Pair.{are_explicit, beats_in_collation, beats_in_set, beats_across_sets}
use Rattle.mc_coerce.specs.Pair.{holds}
use Rattle.mc_coerce.proofs.SetTests.{one_number, all_sets, each_set, same_set-true, same_set-from}
use Rattle.mc_coerce.proofs.SetTests.{same_set-false}

-- Precedence, as it follows from the sets and from which text is ASCII.
abbrev precedence : Charset → Charset → Bool → Bool → Bool
precedence set other ascii other_ascii =
    (is_binary set || is_unicode_beside_other set other)
    || (extends set other || (are_unicode_apart set other && (other_ascii && not ascii)))

-- Whether two sets that differ have precedence over each other.
abbrev over_each_other : Charset → Charset → Bool → Bool → Bool
over_each_other set other a b =
    not (eqb (bin_collation_of set) (bin_collation_of other))
    && (precedence set other a b && precedence other set b a)

none_over_each_other : (a b : Bool) (set other : Charset)
    → not (over_each_other set other a b) ≡ true
none_over_each_other true true set other =
    each_set (λ (t : Charset). not (over_each_other set t true true))
    (each_set (λ (s : Charset). all_sets (λ (t : Charset). not (over_each_other s t true true)))
    refl set) other
none_over_each_other true false set other =
    each_set (λ (t : Charset). not (over_each_other set t true false))
    (each_set (λ (s : Charset). all_sets (λ (t : Charset). not (over_each_other s t true false)))
    refl set) other
none_over_each_other false true set other =
    each_set (λ (t : Charset). not (over_each_other set t false true))
    (each_set (λ (s : Charset). all_sets (λ (t : Charset). not (over_each_other s t false true)))
    refl set) other
none_over_each_other false false set other =
    each_set (λ (t : Charset). not (over_each_other set t false false))
    (each_set (λ (s : Charset). all_sets (λ (t : Charset). not (over_each_other s t false false)))
    refl set) other

refuted : (s p q : Bool) → not (not s && (p && q)) ≡ true → s ≡ false → p ≡ true → q ≡ true → ⊥
refuted true p q h k l m = cc
refuted false true true h k l m = cc
refuted false true false h k l m = cc
refuted false false q h k l m = cc

numbers_differ : (set other : Charset) → set ≢ other
    → eqb (bin_collation_of set) (bin_collation_of other) ≡ false
numbers_differ set other h = ne_eqb _ _ (λ e. h (one_number set other e))

one_precedes : (a b : Operand) → a.charset ≢ b.charset → has_precedence a b ≡ true
    → has_precedence b a ≡ true → ⊥
one_precedes a b h k l =
    refuted (eqb (bin_collation_of a.charset) (bin_collation_of b.charset)) (has_precedence a b)
    (has_precedence b a)
    (none_over_each_other (is_ascii a) (is_ascii b) a.charset b.charset)
    (numbers_differ a.charset b.charset h) k l

-- Its level is lower, or the levels are equal, not explicit, and it is preferred.
abbrev pub IsLower : Operand → Operand → Bool → Type 0
IsLower a b preferred =
    (a.level < b.level) ⊎ ((a.level ≡ b.level) × (0 < a.level) × (preferred ≡ true))

-- The four cases.
pub data Wins (a b : Operand) : Type 0 where
  in_collation : a.collation.0 ≡ b.collation.0 → a.level ≤ b.level → Wins a b
  in_set : a.collation.0 ≢ b.collation.0 → a.charset ≡ b.charset
      → IsLower a b (a.bin && not b.bin) → Wins a b
  across_sets : a.collation.0 ≢ b.collation.0 → a.charset ≢ b.charset
      → rank b.repertoire ≤ rank (cap_of a.charset) → IsLower a b (has_precedence a b) → Wins a b

lower-test : (a b : Operand) (p : Bool) → are_explicit a b ≡ false → is_lower_or a b p ≡ true
    → IsLower a b p
lower-test a b true h k = grind (arith, nat_tests)
lower-test a b false h k = grind (arith, nat_tests)

test-lower : (a b : Operand) (p : Bool) → IsLower a b p
    → (are_explicit a b ≡ false) × (is_lower_or a b p ≡ true)
test-lower a b true (inl h) = (grind (arith, nat_tests), grind (arith, nat_tests))
test-lower a b false (inl h) = (grind (arith, nat_tests), grind (arith, nat_tests))
test-lower a b true (inr h) =
    let e = h.0 in let k = h.1 in (grind (arith, nat_tests), grind (arith, nat_tests))
test-lower a b false (inr h) = absurd (cc)

-- A choice by three tests.
data Chosen (one explicit set x y z : Bool) : Type 0 where
  first : one ≡ true → x ≡ true → Chosen one explicit set x y z
  third : one ≡ false → explicit ≡ false → set ≡ true → y ≡ true → Chosen one explicit set x y z
  fourth : one ≡ false → explicit ≡ false → set ≡ false → z ≡ true → Chosen one explicit set x y z

chosen : (one explicit set x y z : Bool)
    → cond one x (cond explicit false (cond set y z)) ≡ true → Chosen one explicit set x y z
chosen true explicit set x y z h = first refl h
chosen false true set x y z h = absurd (cc)
chosen false false true x y z h = third refl refl refl h
chosen false false false x y z h = fourth refl refl refl h

back : (one explicit set x y z : Bool) → Chosen one explicit set x y z
    → cond one x (cond explicit false (cond set y z)) ≡ true
back one explicit set x y z (first h k) =
    ap (λ t. cond t x (cond explicit false (cond set y z))) h ∙ k
back one explicit set x y z (third h k l m) =
    ap (λ t. cond t x (cond explicit false (cond set y z))) h
    ∙ ap (λ t. cond t false (cond set y z)) k ∙ ap (λ t. cond t y z) l ∙ m
back one explicit set x y z (fourth h k l m) =
    ap (λ t. cond t x (cond explicit false (cond set y z))) h
    ∙ ap (λ t. cond t false (cond set y z)) k ∙ ap (λ t. cond t y z) l ∙ m

-- What the table says of two operands.
pub wins : (a b : Operand) → beats a b ≡ true → Wins a b
wins a b h =
    elim (chosen (same_collation a b) (are_explicit a b) (same_set a.charset b.charset)
    (beats_in_collation a b) (beats_in_set a b) (beats_across_sets a b) h) [
      | first k l ↦ in_collation (eqb-true _ _ k) (leb-true _ _ l)
      | third k l m n ↦ in_set (eqb-false _ _ k) (same_set-true _ _ m)
          (lower-test a b _ l n)
      | fourth k l m n ↦ let p = and_parts (holds a b) (is_lower_or a b (has_precedence a b)) n in
          across_sets (eqb-false _ _ k) (λ e. both_ways _ m (same_set-from _ _ e))
          (leb-true _ _ p.0) (lower-test a b _ l p.1)
    ]

pub beaten : (a b : Operand) → Wins a b → beats a b ≡ true
beaten a b (in_collation h k) =
    back (same_collation a b) (are_explicit a b) (same_set a.charset b.charset)
    (beats_in_collation a b) (beats_in_set a b) (beats_across_sets a b)
    (first (eq-eqb _ _ h) (le-leb _ _ k))
beaten a b (in_set h k l) =
    let p = test-lower a b _ l in
    back (same_collation a b) (are_explicit a b) (same_set a.charset b.charset)
    (beats_in_collation a b) (beats_in_set a b) (beats_across_sets a b)
    (third (ne_eqb _ _ h) p.0 (same_set-from _ _ k) p.1)
beaten a b (across_sets h k l m) =
    let p = test-lower a b _ m in
    back (same_collation a b) (are_explicit a b) (same_set a.charset b.charset)
    (beats_in_collation a b) (beats_in_set a b) (beats_across_sets a b)
    (fourth (ne_eqb _ _ h) p.0 (same_set-false _ _ k)
    (ap (λ t. t && is_lower_or a b (has_precedence a b)) (le-leb _ _ l) ∙ p.1))

-- Two operands that beat each other

-- Where both levels count, neither is lower.
level_alike : (a b : Operand) (p q : Bool) → IsLower a b p → IsLower b a q
    → (a.level ≡ b.level) × (p ≡ true) × (q ≡ true)
level_alike a b p q (inl h) (inl k) = absurd (omega arith)
level_alike a b p q (inl h) (inr k) = let e = k.0 in absurd (omega arith)
level_alike a b p q (inr h) (inl k) = let e = h.0 in absurd (omega arith)
level_alike a b p q (inr h) (inr k) = (h.0, h.2, k.2)

bin_alike : (a b : Bool) → (a && not b) ≡ true → (b && not a) ≡ true → ⊥
bin_alike true true h k = cc
bin_alike true false h k = cc
bin_alike false b h k = cc

-- They have one collation and one level.
pub each_other : (a b : Operand) → Wins a b → Wins b a
    → (a.collation.0 ≡ b.collation.0) × (a.level ≡ b.level)
each_other a b (in_collation h k) (in_collation l m) = (h, omega arith)
each_other a b (in_collation h k) (in_set l m n) = absurd (l (sym h))
each_other a b (in_collation h k) (across_sets l m n o) = absurd (l (sym h))
each_other a b (in_set h k l) (in_collation m n) = absurd (h (sym m))
each_other a b (in_set h k l) (in_set m n o) =
    let e = level_alike a b (a.bin && not b.bin) (b.bin && not a.bin) l o in
    absurd (bin_alike a.bin b.bin e.1 e.2)
each_other a b (in_set h k l) (across_sets m n o p) = absurd (n (sym k))
each_other a b (across_sets h k l m) (in_collation n o) = absurd (h (sym n))
each_other a b (across_sets h k l m) (in_set n o p) = absurd (k (sym o))
each_other a b (across_sets h k l m) (across_sets n o p q) =
    let e = level_alike a b (has_precedence a b) (has_precedence b a) m q in
    absurd (one_precedes a b k e.1 e.2)

-- A greater repertoire beats as much

more_precedence : (p e u y x z : Bool) → (z ≡ true → x ≡ true)
    → (p || (e || (u && (y && not x)))) ≡ true → (p || (e || (u && (y && not z)))) ≡ true
more_precedence true e u y x z f h = refl
more_precedence false true u y x z f h = refl
more_precedence false false true true true true f h = absurd (cc)
more_precedence false false true true false true f h = absurd (false≢true (f refl))
more_precedence false false true true x false f h = refl
more_precedence false false true false x z f h = h
more_precedence false false false y x z f h = h

keeps_precedence : (a c z : Operand) → a.charset ≡ c.charset
    → rank a.repertoire ≤ rank c.repertoire → has_precedence a z ≡ true → has_precedence c z ≡ true
keeps_precedence a c z e h k =
    ap (λ (s : Charset). precedence s z.charset (is_ascii c) (is_ascii z)) (sym e)
    ∙ more_precedence (is_binary a.charset || is_unicode_beside_other a.charset z.charset)
    (extends a.charset z.charset) (are_unicode_apart a.charset z.charset) (is_ascii z) (is_ascii a)
    (is_ascii c) (λ l. grind (arith, nat_tests)) k

-- The level of c is that of a, and c is preferred where a is.
keeps_lower : (a c z : Operand) (p q : Bool) → a.level ≡ c.level → (p ≡ true → q ≡ true)
    → IsLower a z p → IsLower c z q
keeps_lower a c z p q e f (inl h) = inl (omega arith)
keeps_lower a c z p q e f (inr h) = inr (sym e ∙ h.0, (let k = h.1 in omega arith), f h.2)

-- It beats an operand of another set.
keeps_across : (a c z : Operand) → a.charset ≡ c.charset → a.level ≡ c.level
    → rank a.repertoire ≤ rank c.repertoire → c.collation.0 ≢ z.collation.0
    → a.charset ≢ z.charset → rank z.repertoire ≤ rank (cap_of a.charset)
    → IsLower a z (has_precedence a z) → Wins c z
keeps_across a c z e f h n k l m =
    let P : Charset → Type 0 = λ s. rank z.repertoire ≤ rank (cap_of s) in
    across_sets n (λ g. k (e ∙ g)) (subst P e l)
    (keeps_lower a c z (has_precedence a z) (has_precedence c z) f (keeps_precedence a c z e h) m)

pub keeps_wins : (a c z : Operand) → a.charset ≡ c.charset → a.collation.0 ≡ c.collation.0
    → a.level ≡ c.level → a.bin ≡ c.bin → rank a.repertoire ≤ rank c.repertoire
    → Wins a z → Wins c z
keeps_wins a c z e g f b h (in_collation k l) = in_collation (sym g ∙ k) (omega arith)
keeps_wins a c z e g f b h (in_set k l m) =
    in_set (λ n. k (g ∙ n)) (sym e ∙ l)
    (keeps_lower a c z (a.bin && not z.bin) (c.bin && not z.bin) f
    (λ n. ap (λ t. t && not z.bin) (sym b) ∙ n) m)
keeps_wins a c z e g f b h (across_sets k l m n) =
    keeps_across a c z e f h (λ o. k (g ∙ o)) l m n

-- Operands that share with each other

-- A text's operand beats the other one, or has its set and level.
pub record Shares (a b : Operand) : Type 0 where
  pub some_level : 0 < a.level
  pub either : Wins a b ⊎ ((a.charset ≡ b.charset) × (a.level ≡ b.level))

pub same_number : (a b : CollId) → a.0 ≡ b.0 → a ≡ b
same_number a b h = let f : ℕ → CollId = λ n. record { 0 = n } in ap f h

pub one_set : (a b : Operand) → AgreeOnSet a b → a.collation.0 ≡ b.collation.0
    → a.charset ≡ b.charset
one_set a b f h = f (same_number a.collation b.collation h)

pub share_each_other : (a b : Operand) → AgreeOnSet a b → Shares a b → Shares b a
    → (a.charset ≡ b.charset) × (a.level ≡ b.level)
share_each_other a b f h k =
    elim h.either [
      | inl l ↦ elim k.either [
        | inl m ↦ let e = each_other a b l m in (one_set a b f e.0, e.1)
        | inr m ↦ (sym m.0, sym m.1)
      ]
      | inr l ↦ l
    ]

lower_wins : (c z : Operand) → AgreeOnSet c z → c.charset ≡ z.charset → c.level < z.level → Wins c z
lower_wins c z f e h =
    elim (cases_eq c.collation.0 z.collation.0) [
      | inl g ↦ in_collation g (omega arith)
      | inr n ↦ in_set n e (inl h)
    ]

not_higher : (a c z : Operand) → a.charset ≡ c.charset → a.level ≡ c.level → AgreeOnSet c z
    → a.charset ≡ z.charset → a.level ≤ z.level
    → Wins c z ⊎ ((c.charset ≡ z.charset) × (c.level ≡ z.level))
not_higher a c z e f g h l =
    elim (cases_lt a.level z.level) [
      | inl k ↦ inl (lower_wins c z g (sym e ∙ h) (omega arith))
      | inr k ↦ inr (sym e ∙ h, omega arith)
    ]

-- The level is not higher.
level_below : (a z : Operand) (p : Bool) → IsLower a z p → a.level ≤ z.level
level_below a z p (inl h) = omega arith
level_below a z p (inr h) = let e = h.0 in omega arith

keeps_either : (a c z : Operand) → a.charset ≡ c.charset → a.level ≡ c.level
    → rank a.repertoire ≤ rank c.repertoire → AgreeOnSet a z → AgreeOnSet c z → Wins a z
    → Wins c z ⊎ ((c.charset ≡ z.charset) × (c.level ≡ z.level))
keeps_either a c z e f h g i (in_collation k l) = not_higher a c z e f i (one_set a z g k) l
keeps_either a c z e f h g i (in_set k l m) =
    not_higher a c z e f i l (level_below a z (a.bin && not z.bin) m)
keeps_either a c z e f h g i (across_sets k l m n) =
    elim (cases_eq c.collation.0 z.collation.0) [
      | inl o ↦ absurd (l (e ∙ one_set c z i o))
      | inr o ↦ inl (keeps_across a c z e f h o l m n)
    ]

pub keeps_shares : (a c z : Operand) → a.charset ≡ c.charset → a.level ≡ c.level
    → rank a.repertoire ≤ rank c.repertoire → AgreeOnSet a z → AgreeOnSet c z → Shares a z
    → Shares c z
keeps_shares a c z e f h g i k = record {
  some_level = (let l = k.some_level in omega arith);
  either = elim k.either [
    | inl l ↦ keeps_either a c z e f h g i l
    | inr l ↦ inr (sym e ∙ l.0, sym f ∙ l.1)
  ];
}
