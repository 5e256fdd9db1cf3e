-- What holds of the aggregate whichever operand is found first.
use Rattle.std.proofs.Common.{◌≡◌, ℕ, ◌<◌, ◌≤◌, Bool, true, false, cond, eqb, leb, ltb, not}
use Rattle.std.proofs.Common.{◌&&◌, ◌||◌, List, [], ◌∷◌, Option, Some, None, length, get_or, refl}
use Rattle.std.proofs.Common.{sym, ap, ◌∙◌, arith, inl, inr, zero, suc}
use Rattle.std.specs.List.{All, Contains, list_all, list_any}
use Rattle.std.specs.List.Sorted.{IsPermutation}
use Rattle.std.specs.Option.{option_map, option_or, option_and_then}
use Rattle.std.proofs.lemmas.Bool.{cases_Bool, leb-true, leb-false, cases_eq}
use Rattle.std.proofs.lemmas.Bool.Decides.{nat_tests}
use Rattle.std.proofs.lemmas.List.Elements.{All-contains, All-filter}
use Rattle.std.proofs.lemmas.List.Sorted.{All-permutation, list_any-IsPermutation}
use Rattle.std.proofs.lemmas.List.Sorted.{sum_by-IsPermutation}
use Rattle.std.proofs.lemmas.List.Sums.{length-filter}
use Rattle.mc_convert.specs.Classes.{rank}
use Rattle.mc_convert.specs.declared.repertoire.Repertoire.{Repertoire}
use Rattle.mc_convert.specs.declared.repertoire.Repertoire.TheVariants.{Ascii, Latin1, Bmp, Unicode}
use Rattle.mc_convert.specs.declared.repertoire.Repertoire.TheVariants.{Bytes}
use Rattle.mc_coerce.specs.declared.operand.Operand.{Operand}
use Rattle.mc_coerce.specs.declared.operand.Purpose.{Purpose}
use Rattle.mc_coerce.specs.declared.operand.Purpose.TheVariants.{Compare, Text}
use Rattle.mc_coerce.specs.declared.operand.Agg.TheVariants.{Uses}
use Rattle.mc_coerce.specs.declared.demand.Demand.{Demand}
use Rattle.mc_coerce.specs.declared.demand.Demand.TheVariants.{Beat, Share}
use Rattle.mc_coerce.specs.Operand.{IsOperand, AgreeOnSet, AreOperands}
use Rattle.mc_coerce.specs.Pair.{beats}
use Rattle.mc_coerce.specs.Demand.{meets, decides, result_of, result_by}
use Rattle.mc_coerce.specs.Aggregate.{takes_part, counted, later, greatest, class_in_set, of_bin}
use Rattle.mc_coerce.specs.Aggregate.{result_for, uses_or_mix, aggregate}
use Rattle.mc_coerce.proofs.PairTable.{wins, beaten, each_other, same_number}
use Rattle.mc_coerce.proofs.PairTable.{in_collation}
use Rattle.mc_coerce.proofs.Members.{Found, find-any, find-none}
use Rattle.mc_coerce.proofs.Election.{Alike, AlikeBeat, AlikeShare, meet_each_other, meets_member}
use Rattle.mc_coerce.proofs.Election.{alike, result_of-alike, decider}
use Rattle.mc_coerce.proofs.Origins.{AreOperands-counted, aggregate-none, aggregate-some}

-- Tests and classes

any_after : (t b : Bool) (f : Bool → Bool) (rest : Bool) → f true ≡ (b || rest) → f false ≡ rest
    → f t ≡ ((t && b) || rest)
any_after true b f rest h k = h
any_after false b f rest h k = k

de_morgan : (a b : Bool) → (a && not b) ≡ not (not a || b)
de_morgan true b = refl
de_morgan false b = refl

any_agree : (p q : Operand → Bool) → ((x : Operand) → p x ≡ q x) → (list : List Operand)
    → list_any p list ≡ list_any q list
any_agree p q h [] = refl
any_agree p q h (x ∷ xs) =
    ap (λ b. b || list_any p xs) (h x) ∙ ap (λ b. q x || b) (any_agree p q h xs)

ranked : ℕ → Repertoire
ranked zero = Ascii
ranked (suc zero) = Latin1
ranked (suc (suc zero)) = Bmp
ranked (suc (suc (suc zero))) = Unicode
ranked (suc (suc (suc (suc n)))) = Bytes

ranked_back : (class : Repertoire) → ranked (rank class) ≡ class
unfolding ranked
ranked_back Ascii = refl
ranked_back Latin1 = refl
ranked_back Bmp = refl
ranked_back Unicode = refl
ranked_back Bytes = refl

above_right : (n a b : ℕ) → a ≤ b → ltb n b ≡ (ltb n a || ltb n b)
above_right n a b h = grind (arith, nat_tests)

above_left : (n a b : ℕ) → b < a → ltb n a ≡ (ltb n a || ltb n b)
above_left n a b h = grind (arith, nat_tests)

above_later : (n : ℕ) (a b : Repertoire)
    → ltb n (rank (later a b)) ≡ (ltb n (rank a) || ltb n (rank b))
above_later n a b =
    elim (cases_Bool (leb (rank a) (rank b))) [
      | inl t ↦ ap (λ k. ltb n (rank (cond k b a))) t
          ∙ above_right n (rank a) (rank b) (leb-true _ _ t)
      | inr f ↦ ap (λ k. ltb n (rank (cond k b a))) f
          ∙ above_left n (rank a) (rank b) (leb-false _ _ f)
    ]

-- Of a text, what operands have together where this is what they have through a winner.
abbrev or_shared : List Operand → Option Operand → Option Operand
or_shared operands o = option_or o (result_by Share operands)

-- Pairs

pub beats_itself : (a : Operand) → beats a a ≡ true
beats_itself a = beaten a a (in_collation refl (omega arith))

pub beats_one_way : (a b : Operand) → beats a b ≡ true → beats b a ≡ true
    → (a.collation ≡ b.collation) × (a.level ≡ b.level)
beats_one_way a b h k =
    let e = each_other a b (wins a b h) (wins b a k) in
    (same_number a.collation b.collation e.0, e.1)

-- Deciders agree

-- Two members that decide.
both_decide : (demand : Demand) (list : List Operand) (a b : Operand) → AreOperands list
    → Contains (counted list) a → Contains (counted list) b
    → decides demand (counted list) a ≡ true → decides demand (counted list) b ≡ true
    → Alike demand a b
both_decide demand list a b ops c d h k =
    alike demand (counted list) a b (AreOperands-counted list ops) c d
    (meets_member demand (counted list) a b d h) (meets_member demand (counted list) b a c k)

pub one_winner : (list : List Operand) (a b : Operand) → AreOperands list
    → Contains (counted list) a → Contains (counted list) b
    → decides Beat (counted list) a ≡ true → decides Beat (counted list) b ≡ true
    → (a.charset ≡ b.charset) × (a.collation ≡ b.collation) × (a.level ≡ b.level)
one_winner list a b ops c d h k =
    let e : AlikeBeat a b = both_decide Beat list a b ops c d h k in
    (e.set, same_number a.collation b.collation e.collation, e.level)

pub one_shared_set : (list : List Operand) (a b : Operand) → AreOperands list
    → Contains (counted list) a → Contains (counted list) b
    → decides Share (counted list) a ≡ true → decides Share (counted list) b ≡ true
    → (a.charset ≡ b.charset) × (a.level ≡ b.level)
one_shared_set list a b ops c d h k =
    let e : AlikeShare a b = both_decide Share list a b ops c d h k in (e.set, e.level)

pub has_member : (list : List Operand) (a : Operand) → Contains list a → length list ≡ 0 → ⊥
has_member list a c h = let l = c.1 in omega arith

-- Any operand that decides gives the answer

pub won : (list : List Operand) (a : Operand) → AreOperands list → Contains (counted list) a
    → decides Beat (counted list) a ≡ true
    → aggregate list Text ≡ Uses (result_of Beat (counted list) a)
won list a ops c h =
    aggregate-some list Text (has_member (counted list) a c)
    ∙ ap (λ o. uses_or_mix (or_shared (counted list) o))
    (decider Beat (counted list) a (AreOperands-counted list ops) c h)

pub no_decider : (demand : Demand) (list : List Operand)
    → ((b : Operand) → Contains list b → decides demand list b ≡ true → ⊥)
    → result_by demand list ≡ None
no_decider demand list h =
    elim (cases_Bool (list_any (decides demand list) list)) [
      | inl t ↦
          let r : (y : Operand) × Found (decides demand list) list y =
          find-any (decides demand list) list t in
          absurd (h r.0 r.1.within r.1.passes)
      | inr f ↦ ap (option_map (result_of demand list)) (find-none (decides demand list) list f)
    ]

-- The order of operands

any_counted : (p : Operand → Bool) (list : List Operand)
    → list_any p (counted list) ≡ list_any (λ x. takes_part x && p x) list
any_counted p [] = refl
any_counted p (x ∷ xs) =
    any_after (takes_part x) (p x) (λ b. list_any p (cond b (x ∷ counted xs) (counted xs)))
    (list_any p (counted xs)) refl refl ∙ ap (λ b. (takes_part x && p x) || b) (any_counted p xs)

all_by_any : (p : Operand → Bool) (list : List Operand)
    → list_all p list ≡ not (list_any (λ x. not (p x)) list)
all_by_any p [] = refl
all_by_any p (x ∷ xs) =
    ap (λ b. p x && b) (all_by_any p xs) ∙ de_morgan (p x) (list_any (λ y. not (p y)) xs)

-- The operands pass tests alike.
abbrev SameTests : List Operand → List Operand → Type 0
SameTests list other = (p : Operand → Bool) → list_any p list ≡ list_any p other

same_tests : (list other : List Operand) → IsPermutation list other
    → SameTests (counted list) (counted other)
same_tests list other h p =
    any_counted p list ∙ list_any-IsPermutation (λ (x : Operand). takes_part x && p x) list other h
    ∙ sym (any_counted p other)

same_decides : (demand : Demand) (list other : List Operand) (a : Operand) → SameTests list other
    → decides demand list a ≡ decides demand other a
same_decides demand list other a h =
    all_by_any (meets demand a) list ∙ ap not (h (λ x. not (meets demand a x)))
    ∙ sym (all_by_any (meets demand a) other)

above_greatest : (n : ℕ) (list : List Operand)
    → ltb n (rank (greatest list)) ≡ list_any (λ x. ltb n (rank x.repertoire)) list
above_greatest n [] = grind (arith, nat_tests)
above_greatest n (x ∷ xs) =
    above_later n x.repertoire (greatest xs)
    ∙ ap (λ b. ltb n (rank x.repertoire) || b) (above_greatest n xs)

same_rank : (m n : ℕ) → ((k : ℕ) → ltb k m ≡ ltb k n) → m ≡ n
same_rank m n h =
    let p = h m in let q = h n in grind (arith, nat_tests)

one_rank : (class other : Repertoire) → rank class ≡ rank other → class ≡ other
one_rank class other h = sym (ranked_back class) ∙ ap ranked h ∙ ranked_back other

same_greatest : (list other : List Operand) → SameTests list other → greatest list ≡ greatest other
same_greatest list other h =
    one_rank (greatest list) (greatest other)
    (same_rank (rank (greatest list)) (rank (greatest other))
    (λ k. above_greatest k list ∙ h (λ x. ltb k (rank x.repertoire))
    ∙ sym (above_greatest k other)))

same_result_of : (demand : Demand) (list other : List Operand) (a : Operand) → SameTests list other
    → result_of demand list a ≡ result_of demand other a
same_result_of Beat list other a h =
    ap (λ (g : Repertoire). record a { repertoire = class_in_set a.charset g })
    (same_greatest list other h)
same_result_of Share list other a h =
    ap (λ (g : Repertoire). of_bin a.charset 1 (class_in_set a.charset g))
    (same_greatest list other h)

-- A member of the one list agrees with the other list's members.
agrees_over : (list other : List Operand) (a b : Operand) → AreOperands list
    → IsPermutation list other → Contains (counted list) a → Contains (counted other) b
    → AgreeOnSet a b
agrees_over list other a b ops h c d =
    let all : All (λ (x : Operand). All (AgreeOnSet x) other) list =
    λ k y l. All-permutation (AgreeOnSet (get_or list k y)) list other h (ops.one_set k y l) in
    let here : All (AgreeOnSet a) other =
    All-contains (λ (x : Operand). All (AgreeOnSet x) other) (counted list) a
    (All-filter takes_part (λ (x : Operand). All (AgreeOnSet x) other) list all) c in
    All-contains (AgreeOnSet a) (counted other) b
    (All-filter takes_part (AgreeOnSet a) other here) d

is_operand : (list other : List Operand) (b : Operand) → AreOperands list
    → IsPermutation list other → Contains (counted other) b → IsOperand b
is_operand list other b ops h d =
    All-contains IsOperand (counted other) b
    (All-filter takes_part IsOperand other (All-permutation IsOperand list other h ops.each)) d

over_lists : (demand : Demand) (list other : List Operand) (a b : Operand) → AreOperands list
    → IsPermutation list other → Contains (counted list) a → Contains (counted other) b
    → decides demand (counted list) a ≡ true → decides demand (counted other) b ≡ true
    → Alike demand a b
over_lists demand list other a b ops h c d k l =
    let tests : SameTests (counted list) (counted other) = same_tests list other h in
    meet_each_other demand a b
    (All-contains IsOperand (counted list) a (AreOperands-counted list ops).each c)
    (is_operand list other b ops h d) (agrees_over list other a b ops h c d)
    (meets_member demand (counted other) a b d
    (sym (same_decides demand (counted list) (counted other) a tests) ∙ k))
    (meets_member demand (counted list) b a c
    (same_decides demand (counted list) (counted other) b tests ∙ l))

result_by-found : (demand : Demand) (list : List Operand) (a : Operand)
    → Found (decides demand list) list a → result_by demand list ≡ Some (result_of demand list a)
result_by-found demand list a h = ap (option_map (result_of demand list)) h.found

result_by-none : (demand : Demand) (list : List Operand)
    → list_any (decides demand list) list ≡ false → result_by demand list ≡ None
result_by-none demand list h =
    ap (option_map (result_of demand list)) (find-none (decides demand list) list h)

-- Whether some operand decides.
same_any : (demand : Demand) (list other : List Operand) → SameTests list other
    → list_any (decides demand list) list ≡ list_any (decides demand other) other
same_any demand list other h =
    any_agree (decides demand list) (decides demand other)
    (λ x. same_decides demand list other x h) list ∙ h (decides demand other)

same_result_by : (demand : Demand) (list other : List Operand) → AreOperands list
    → IsPermutation list other
    → result_by demand (counted list) ≡ result_by demand (counted other)
same_result_by demand list other ops h =
    let tests : SameTests (counted list) (counted other) = same_tests list other h in
    let some = same_any demand (counted list) (counted other) tests in
    elim (cases_Bool (list_any (decides demand (counted list)) (counted list))) [
      | inl t ↦
          let r : (y : Operand) × Found (decides demand (counted list)) (counted list) y =
          find-any (decides demand (counted list)) (counted list) t in
          let q : (y : Operand) × Found (decides demand (counted other)) (counted other) y =
          find-any (decides demand (counted other)) (counted other) (sym some ∙ t) in
          result_by-found demand (counted list) r.0 r.1
          ∙ ap Some (same_result_of demand (counted list) (counted other) r.0 tests
          ∙ result_of-alike demand (counted other) r.0 q.0
          (over_lists demand list other r.0 q.0 ops h r.1.within q.1.within r.1.passes q.1.passes))
          ∙ sym (result_by-found demand (counted other) q.0 q.1)
      | inr f ↦ result_by-none demand (counted list) f
          ∙ sym (result_by-none demand (counted other) (sym some ∙ f))
    ]

same_length : (list other : List Operand) → IsPermutation list other
    → length (counted list) ≡ length (counted other)
same_length list other h =
    length-filter takes_part list
    ∙ sym (sum_by-IsPermutation (λ (x : Operand). cond (takes_part x) 1 0) list other h)
    ∙ sym (length-filter takes_part other)

both_none_or_some : (list other : List Operand) (purpose : Purpose)
    → length (counted list) ≡ length (counted other)
    → result_for purpose (counted list) ≡ result_for purpose (counted other)
    → aggregate list purpose ≡ aggregate other purpose
both_none_or_some list other purpose h k =
    elim (cases_eq (length (counted list)) 0) [
      | inl e ↦ aggregate-none list purpose e ∙ sym (aggregate-none other purpose (sym h ∙ e))
      | inr n ↦ aggregate-some list purpose n ∙ ap uses_or_mix k
          ∙ sym (aggregate-some other purpose (λ e. n (h ∙ e)))
    ]

-- A comparison of so many operands at that level.
refuses : ℕ → Option Operand → Option Operand
refuses n o =
    option_and_then (λ (x : Operand). cond (ltb 1 n && eqb x.level 1) None (Some x)) o

same_result_for : (purpose : Purpose) (list other : List Operand) → AreOperands list
    → IsPermutation list other
    → result_for purpose (counted list) ≡ result_for purpose (counted other)
unfolding refuses
same_result_for Compare list other ops h =
    ap (refuses (length (counted list))) (same_result_by Beat list other ops h)
    ∙ ap (λ n. refuses n (result_by Beat (counted other))) (same_length list other h)
same_result_for Text list other ops h =
    ap (or_shared (counted list)) (same_result_by Beat list other ops h)
    ∙ ap (option_or (result_by Beat (counted other))) (same_result_by Share list other ops h)

pub any_order : (list other : List Operand) (purpose : Purpose) → AreOperands list
    → IsPermutation list other → aggregate list purpose ≡ aggregate other purpose
any_order list other purpose ops h =
    both_none_or_some list other purpose (same_length list other h)
    (same_result_for purpose list other ops h)
