-- The candidate that is left after each operand was met decides, if any operand does.
use Rattle.std.proofs.Common.{◌≡◌, ℕ, ◌<◌, ◌≤◌, ◌⊎◌, Bool, true, false, cond, ◌&&◌, ◌||◌, not}
use Rattle.std.proofs.Common.{ltb, eqb, List, [], ◌∷◌, Option, Some, None, get_or, refl}
use Rattle.std.proofs.Common.{sym, ap, ◌∙◌, subst, arith, inl, inr, zero}
use Rattle.std.specs.List.{All, Contains, list_any}
use Rattle.std.specs.Option.{option_map}
use Rattle.std.proofs.lemmas.Bool.{cases_Bool, false≢true, both_ways, or_cases, or_left, or_right}
use Rattle.std.proofs.lemmas.Bool.{and_from, and_parts, eqb-true, eq-eqb, ltb-true, ltb-false}
use Rattle.std.proofs.lemmas.Bool.{lt-ltb}
use Rattle.std.proofs.lemmas.List.Elements.{All-contains, All-contains_itself, All-tail}
use Rattle.std.proofs.lemmas.List.Sums.{AllPass-from_list_all, list_all-from_AllPass}
use Rattle.mc_charset.specs.declared.charset.Charset.{Charset}
use Rattle.mc_charset.specs.declared.collation_id.CollId.{CollId}
use Rattle.mc_charset.specs.Names.{same_set}
use Rattle.mc_convert.specs.Classes.{rank}
use Rattle.mc_convert.specs.declared.repertoire.Repertoire.{Repertoire}
use Rattle.mc_coerce.specs.declared.operand.Operand.{Operand}
use Rattle.mc_coerce.specs.declared.demand.Demand.{Demand}
use Rattle.mc_coerce.specs.declared.demand.Demand.TheVariants.{Beat, Share}
use Rattle.mc_coerce.specs.Levels.{no_collation}
use Rattle.mc_coerce.specs.Operand.{built_in_count, IsOperand, AgreeOnSet, AreOperands}
use Rattle.mc_coerce.specs.Pair.{beats}
use Rattle.mc_coerce.specs.Demand.{meets, decides, has_less, contender, result_of, result_by}
use Rattle.mc_coerce.specs.Aggregate.{same_set_and_level, greatest, class_in_set, of_bin}
use Rattle.mc_coerce.proofs.SetTests.{same_set-true, same_set-from}
use Rattle.mc_coerce.proofs.PairTable.{wins, beaten, each_other, keeps_wins, Shares}
use Rattle.mc_coerce.proofs.PairTable.{share_each_other, keeps_shares, one_set}
use Rattle.mc_coerce.proofs.Members.{member_passes, any_member, Found, find-any, find-none}

-- The demands

-- What two operands have together that meet the demand to each other.
pub record AlikeBeat (a b : Operand) : Type 0 where
  pub set : a.charset ≡ b.charset
  pub collation : a.collation.0 ≡ b.collation.0
  pub level : a.level ≡ b.level
  pub bin : a.bin ≡ b.bin

pub record AlikeShare (a b : Operand) : Type 0 where
  pub set : a.charset ≡ b.charset
  pub level : a.level ≡ b.level

abbrev pub Alike : Demand → Operand → Operand → Type 0
Alike Beat a b = AlikeBeat a b
Alike Share a b = AlikeShare a b

pub alike_sym : (demand : Demand) (a b : Operand) → Alike demand a b → Alike demand b a
alike_sym Beat a b h = record {
  set = sym h.set;
  collation = sym h.collation;
  level = sym h.level;
  bin = sym h.bin;
}
alike_sym Share a b h = record { set = sym h.set; level = sym h.level }

pub shares : (a b : Operand) → meets Share a b ≡ true → Shares a b
shares a b h =
    let p = and_parts (ltb 0 a.level) (beats a b || same_set_and_level a b) h in
    record {
      some_level = ltb-true 0 a.level p.0;
      either = elim (or_cases (beats a b) (same_set_and_level a b) p.1) [
        | inl k ↦ inl (wins a b k)
        | inr k ↦ let q = and_parts (same_set a.charset b.charset) (eqb a.level b.level) k in
            inr (same_set-true _ _ q.0, eqb-true _ _ q.1)
      ];
    }

shared : (a b : Operand) → Shares a b → meets Share a b ≡ true
shared a b h =
    and_from (ltb 0 a.level) (beats a b || same_set_and_level a b) (lt-ltb 0 a.level h.some_level)
    (elim h.either [
      | inl k ↦ or_left (beats a b) (same_set_and_level a b) (beaten a b k)
      | inr k ↦ or_right (beats a b) (same_set_and_level a b)
          (and_from (same_set a.charset b.charset) (eqb a.level b.level)
          (same_set-from _ _ k.0) (eq-eqb _ _ k.1))
    ])

same_bin : (p q : Bool) (m n : ℕ)
    → (p ≡ true → m < built_in_count) × (m < built_in_count → p ≡ true)
    → (q ≡ true → n < built_in_count) × (n < built_in_count → q ≡ true) → m ≡ n → p ≡ q
same_bin true true m n f g e = refl
same_bin false false m n f g e = refl
same_bin true false m n f g e = let h = f.0 refl in sym (g.1 (omega arith))
same_bin false true m n f g e = let h = g.0 refl in f.1 (omega arith)

pub meet_each_other : (demand : Demand) (a b : Operand) → IsOperand a → IsOperand b → AgreeOnSet a b
    → meets demand a b ≡ true → meets demand b a ≡ true → Alike demand a b
meet_each_other Beat a b f g agree h k =
    let e = each_other a b (wins a b h) (wins b a k) in
    record {
      set = one_set a b agree e.0;
      collation = e.0;
      level = e.1;
      bin = same_bin a.bin b.bin a.collation.0 b.collation.0 f.bin g.bin e.0;
    }
meet_each_other Share a b f g agree h k =
    let e = share_each_other a b agree (shares a b h) (shares b a k) in
    record { set = e.0; level = e.1 }

-- Of two that are alike, the one of the greater repertoire meets the demand to as many.
meets_more : (demand : Demand) (a c z : Operand) → Alike demand a c
    → rank a.repertoire ≤ rank c.repertoire → AgreeOnSet a z → AgreeOnSet c z
    → meets demand a z ≡ true → meets demand c z ≡ true
meets_more Beat a c z e h f g k =
    beaten c z (keeps_wins a c z e.set e.collation e.level e.bin h (wins a z k))
meets_more Share a c z e h f g k =
    shared c z (keeps_shares a c z e.set e.level h f g (shares a z k))

-- Members of a list of operands

pub agrees : (list : List Operand) (a : Operand) → AreOperands list → Contains list a
    → All (AgreeOnSet a) list
agrees list a ops c = All-contains (λ (x : Operand). All (AgreeOnSet x) list) list a ops.one_set c

pub alike : (demand : Demand) (list : List Operand) (a b : Operand) → AreOperands list
    → Contains list a → Contains list b → meets demand a b ≡ true → meets demand b a ≡ true
    → Alike demand a b
alike demand list a b ops c d h k =
    meet_each_other demand a b (All-contains IsOperand list a ops.each c)
    (All-contains IsOperand list b ops.each d)
    (All-contains (AgreeOnSet a) list b (agrees list a ops c) d) h k

decides_more : (demand : Demand) (list : List Operand) (a b : Operand) → AreOperands list
    → Contains list a → Contains list b → Alike demand a b → rank a.repertoire ≤ rank b.repertoire
    → decides demand list a ≡ true → decides demand list b ≡ true
decides_more demand list a b ops c d e h k =
    list_all-from_AllPass (meets demand b) list
    (λ i y l. meets_more demand a b (get_or list i y) e h (agrees list a ops c i y l)
    (agrees list b ops d i y l) (AllPass-from_list_all (meets demand a) list k i y l))

-- One step

chooses : (p q r : Bool) (a b : Operand) (P : Operand → Type 0) → (p ≡ false → P b)
    → (p ≡ true → q ≡ false → P a) → (p ≡ true → q ≡ true → r ≡ false → P a)
    → (p ≡ true → q ≡ true → r ≡ true → P b) → P (cond (p && not (q && r)) a b)
chooses false q r a b P f g h k = f refl
chooses true false r a b P f g h k = g refl refl
chooses true true false a b P f g h k = h refl refl refl
chooses true true true a b P f g h k = k refl refl refl

-- A decider meets the demand to each member.
pub meets_member : (demand : Demand) (list : List Operand) (a b : Operand) → Contains list b
    → decides demand list a ≡ true → meets demand a b ≡ true
meets_member demand list a b c h = member_passes (meets demand a) list b h c

contender_decides : (demand : Demand) (list : List Operand) (a b : Operand) → AreOperands list
    → Contains list a → Contains list b
    → (decides demand list a ≡ true) ⊎ (decides demand list b ≡ true)
    → decides demand list (contender demand (Some a) b) ≡ true
contender_decides demand list a b ops c d h =
    let P : Operand → Type 0 = λ x. decides demand list x ≡ true in
    chooses (meets demand a b) (meets demand b a) (has_less a b) a b P
    (λ n. elim h [
      | inl k ↦ absurd (both_ways _ n (meets_member demand list a b d k))
      | inr k ↦ k
    ])
    (λ m n. elim h [
      | inl k ↦ k
      | inr k ↦ absurd (both_ways _ n (meets_member demand list b a c k))
    ])
    (λ m n l. elim h [
      | inl k ↦ k
      | inr k ↦ decides_more demand list b a ops d c
          (alike demand list b a ops d c n m) (ltb-false _ _ l) k
    ])
    (λ m n l. elim h [
      | inl k ↦ let lt = ltb-true _ _ l in decides_more demand list a b ops c d
          (alike demand list a b ops c d m n) (omega arith) k
      | inr k ↦ k
    ])

contender_within : (demand : Demand) (list : List Operand) (a b : Operand) → Contains list a
    → Contains list b → Contains list (contender demand (Some a) b)
contender_within demand list a b c d =
    chooses (meets demand a b) (meets demand b a) (has_less a b) a b (Contains list)
    (λ n. d) (λ m n. c) (λ m n l. c) (λ m n l. d)

-- All steps

-- The candidate after these operands.
abbrev pub elect : Demand → Operand → List Operand → Operand
elect demand a [] = a
elect demand a (x ∷ xs) = elect demand (contender demand (Some a) x) xs

abbrev pub elect_from : Demand → Option Operand → List Operand → Option Operand
elect_from demand None [] = None
elect_from demand None (x ∷ xs) = Some (elect demand x xs)
elect_from demand (Some a) xs = Some (elect demand a xs)

pub elect_from-end : (demand : Demand) (a : Option Operand) → elect_from demand a [] ≡ a
elect_from-end demand None = refl
elect_from-end demand (Some a) = refl

elect-decides : (demand : Demand) (list : List Operand) (a : Operand) (xs : List Operand)
    → AreOperands list → Contains list a → All (Contains list) xs
    → list_any (decides demand list) (a ∷ xs) ≡ true
    → decides demand list (elect demand a xs) ≡ true
elect-decides demand list a [] ops c within h =
    elim (or_cases (decides demand list a) false h) [
      | inl k ↦ k
      | inr k ↦ absurd (false≢true k)
    ]
elect-decides demand list a (x ∷ xs) ops c within h =
    let d : Contains list x = within zero x (omega arith) in
    let next : Operand = contender demand (Some a) x in
    let rest : Bool = list_any (decides demand list) xs in
    elect-decides demand list next xs ops (contender_within demand list a x c d)
    (All-tail (Contains list) x xs within)
    (elim (or_cases (decides demand list a) (decides demand list x || rest) h) [
      | inl k ↦ or_left (decides demand list next) rest
          (contender_decides demand list a x ops c d (inl k))
      | inr k ↦ elim (or_cases (decides demand list x) rest k) [
        | inl l ↦ or_left (decides demand list next) rest
            (contender_decides demand list a x ops c d (inr l))
        | inr l ↦ or_right (decides demand list next) rest l
      ]
    ])

elect-within : (demand : Demand) (list : List Operand) (a : Operand) (xs : List Operand)
    → Contains list a → All (Contains list) xs → Contains list (elect demand a xs)
elect-within demand list a [] c within = c
elect-within demand list a (x ∷ xs) c within =
    elect-within demand list (contender demand (Some a) x) xs
    (contender_within demand list a x c (within zero x (omega arith)))
    (All-tail (Contains list) x xs within)

-- The result

make : Charset → CollId → Bool → ℕ → Repertoire → Operand
make set collation bin level class = record {
  charset = set;
  collation = collation;
  bin = bin;
  level = level;
  repertoire = class;
}

same_beat : (s t : Charset) (c d : CollId) (p q : Bool) (m n : ℕ) (class : Repertoire)
    → s ≡ t → c.0 ≡ d.0 → p ≡ q → m ≡ n
    → make s c p m (class_in_set s class) ≡ make t d q n (class_in_set t class)
same_beat s t c d p q m n class e f g h =
    let number : ℕ → CollId = λ k. record { 0 = k } in
    ap (λ (x : Charset). make x c p m (class_in_set x class)) e
    ∙ ap (λ (x : ℕ). make t (number x) p m (class_in_set t class)) f
    ∙ ap (λ (x : Bool). make t d x m (class_in_set t class)) g
    ∙ ap (λ (x : ℕ). make t d q x (class_in_set t class)) h

pub result_of-alike : (demand : Demand) (list : List Operand) (a b : Operand) → Alike demand a b
    → result_of demand list a ≡ result_of demand list b
unfolding make same_beat
result_of-alike Beat list a b h =
    same_beat a.charset b.charset a.collation b.collation a.bin b.bin a.level b.level
    (greatest list) h.set h.collation h.bin h.level
result_of-alike Share list a b h =
    ap (λ (s : Charset). of_bin s no_collation (class_in_set s (greatest list))) h.set

-- Any decider gives the result.
pub decider : (demand : Demand) (list : List Operand) (a : Operand) → AreOperands list
    → Contains list a → decides demand list a ≡ true
    → result_by demand list ≡ Some (result_of demand list a)
decider demand list a ops c h =
    let r : (y : Operand) × Found (decides demand list) list y =
    find-any (decides demand list) list (any_member (decides demand list) list a c h) in
    ap (option_map (result_of demand list)) r.1.found
    ∙ ap Some (result_of-alike demand list r.0 a
    (alike demand list r.0 a ops r.1.within c
    (meets_member demand list r.0 a c r.1.passes) (meets_member demand list a r.0 r.1.within h)))

-- What the candidate says of the result.
pub record Candidate (demand : Demand) (list : List Operand) (a : Operand) : Type 0 where
  pub decided : decides demand list a ≡ true
      → result_by demand list ≡ Some (result_of demand list a)
  pub undecided : decides demand list a ≡ false → result_by demand list ≡ None

pub elected : (demand : Demand) (list : List Operand) (a : Operand) → AreOperands list
    → elect_from demand None list ≡ Some a → Candidate demand list a
elected demand [] a ops e = absurd (cc)
elected demand (x ∷ xs) a ops e =
    let list : List Operand = x ∷ xs in
    let all : All (Contains list) list = All-contains_itself list in
    let first : Contains list x = all zero x (omega arith) in
    let rest : All (Contains list) xs = All-tail (Contains list) x xs all in
    let is : elect demand x xs ≡ a = cc in
    let within : Contains list a =
    subst (Contains list) is (elect-within demand list x xs first rest) in
    record {
      decided = decider demand list a ops within;
      undecided = λ h. elim (cases_Bool (list_any (decides demand list) list)) [
        | inl k ↦ absurd (both_ways (decides demand list a) h
            (ap (decides demand list) (sym is)
            ∙ elect-decides demand list x xs ops first rest k))
        | inr k ↦ ap (option_map (result_of demand list)) (find-none (decides demand list) list k)
      ];
    }
