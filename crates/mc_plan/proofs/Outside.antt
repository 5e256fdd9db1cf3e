-- Rows outside the intervals, and what the conjuncts say of them.
use Rattle.std.proofs.Common.{◌≡◌, ℕ, ◌<◌, Bool, true, false, List, [], ◌∷◌, Some, None, length}
use Rattle.std.proofs.Common.{get_or, zero, suc, arith, refl, sym, ap, subst, ◌∙◌}
use Rattle.std.proofs.lemmas.Bool.{and_from, or_left, or_right, both_ways}
use Rattle.std.specs.Prelude.{All, IfOk, IfSome, Option, Result, Ok, Err, option_and_then}
use Rattle.std.specs.Prelude.{slice_get, ◌≢◌}
use Rattle.mc_charset.specs.declared.charset.Charset.{Charset}
use Rattle.std.specs.List.{list_any}
use Rattle.std.specs.Option.{option_map_or}
use Rattle.std.specs.Ordering.{is_ge, is_le}
use Rattle.std.specs.declared.cmp.Ordering.{Ordering}
use Rattle.std.specs.declared.cmp.Ordering.TheVariants.{Less, Equal, Greater}
use Rattle.mc_charset.specs.Chars.{chars}
use Rattle.mc_charset.specs.declared.collation_id.CollId.{CollId}
use Rattle.mc_catalog.specs.declared.catalog.ColumnDecl.{ColumnDecl}
use Rattle.mc_catalog.specs.declared.catalog.IndexDecl.{IndexDecl}
use Rattle.mc_order.specs.Meaning.{Meaning}
use Rattle.mc_order.specs.Order.{list_order}
use Rattle.mc_range.specs.Bounds.{EndsAreBounds, HasBounds}
use Rattle.mc_range.specs.Condition.{IsCondOf}
use Rattle.mc_range.specs.Finds.{FindsAll, IsFrom, IsIn, IsInOne, IsUpTo, index_list}
use Rattle.mc_range.specs.Intervals.{intervals_of}
use Rattle.mc_range.specs.declared.condition.Cond.{Cond}
use Rattle.mc_range.specs.declared.interval.Interval.{Interval}
use Rattle.mc_typing.specs.declared.typed.TypedExpr.{TypedExpr}
use Rattle.mc_values.specs.declared.value.Value.{Value}
use Rattle.mc_values.specs.declared.value.Value.TheVariants as value
use Rattle.mc_eval.specs.Acceptance.{acceptance, firm}
use Rattle.mc_eval.specs.Node.{Place, place}
use Rattle.mc_eval.specs.Truths.{least, truth}
use Rattle.mc_eval.specs.Value.{value as value_of}
use Rattle.mc_eval.specs.declared.truth.Truth.{Truth}
use Rattle.mc_eval.specs.declared.truth.Truth.TheVariants.{No, Faulty, Unknown, Yes}
use Rattle.mc_plan.specs.Conds.{cond_of}
use Rattle.mc_plan.specs.Entries.{is_found, is_from, is_in, is_in_one, is_up_to, value_at}
use Rattle.mc_plan.specs.Plans.{index_collation}
use Rattle.mc_plan.specs.Rejects.{IsMetBy, IsOfSet, IsRejected, RejectsOthers}
use Rattle.mc_plan.specs.Steps.{RejectOutside, RejectRest, RejectsOutside}

-- Intervals

not_less : (o : Ordering) → o ≢ Less → is_ge o ≡ true
not_less Less h = absurd (h refl)
not_less Equal h = refl
not_less Greater h = refl

not_greater : (o : Ordering) → o ≢ Greater → is_le o ≡ true
not_greater Less h = refl
not_greater Equal h = refl
not_greater Greater h = absurd (h refl)

from_is : (m : Meaning) (list : List ℕ) (end : Option (List ℕ)) → IsFrom m list end
    → is_from m list end ≡ true
from_is m list None h = refl
from_is m list (Some low) h = not_less (list_order m.pad m.space list low) h

up_to_is : (m : Meaning) (list : List ℕ) (end : Option (List ℕ)) → IsUpTo m list end
    → is_up_to m list end ≡ true
up_to_is m list None h = refl
up_to_is m list (Some high) h = not_greater (list_order m.pad m.space list high) h

in_is : (m : Meaning) (list : List ℕ) (interval : Interval) → IsIn m list interval
    → is_in m list interval ≡ true
in_is m list interval h = and_from (is_from m list interval.lo) (is_up_to m list interval.hi)
    (from_is m list interval.lo h.0) (up_to_is m list interval.hi h.1)

any_is : {A : Type 0} (test : A → Bool) (xs : List A) (i : ℕ) (d : A) → i < length xs
    → test (get_or xs i d) ≡ true → list_any test xs ≡ true
any_is test [] i d l h = absurd (omega arith)
any_is test (x ∷ xs) zero d l h = or_left (test x) (list_any test xs) h
any_is test (x ∷ xs) (suc i) d l h =
    or_right (test x) (list_any test xs) (any_is test xs i d (omega arith) h)

in_one_is : (m : Meaning) (list : List ℕ) (intervals : List Interval) → IsInOne m list intervals
    → is_in_one m list intervals ≡ true
in_one_is m list intervals h =
    any_is (is_in m list) intervals h.1.0 h.0 h.1.1
    (subst (λ i. is_in m list i ≡ true) (sym h.1.2) (in_is m list h.0 h.2))

-- A value that meets the condition is found in its intervals.
met_found : (m : Meaning) (prefix : Option ℕ) (it : Cond) (intervals : List Interval) (v : Value)
    → FindsAll m → IsCondOf m.charset it → intervals_of m prefix it ≡ Some intervals
    → IsOfSet m.charset v → IsMetBy m it v → is_found m prefix intervals v ≡ true
met_found m prefix it intervals value.Null f k e h met = absurd met
met_found m prefix it intervals (value.Int number) f k e h met = absurd met
met_found m prefix it intervals (value.Str set text) f k e h met =
    in_one_is m (index_list m prefix (chars m.charset text)) intervals
    (f prefix it k text intervals h.1 met e)

-- A conjunct rejects what is outside its intervals.
pub rejects_outside : (meaning : ℕ → Meaning) (index : IndexDecl) (coll : CollId) (e : TypedExpr)
    (it : Cond) (intervals : List Interval) → FindsAll (meaning coll.0)
    → ((p : Place) → RejectsOthers p index.column coll e it)
    → Some it ≡ cond_of (meaning coll.0).charset index.column coll e
    → IsCondOf (meaning coll.0).charset it
    → Some intervals ≡ intervals_of (meaning coll.0) index.prefix it
    → RejectsOutside meaning index coll e intervals
rejects_outside meaning index coll e it intervals f r c k i row out =
    r (place row [] meaning) (sym c) out.0
    (λ met. both_ways _ out.1 (met_found (meaning coll.0) index.prefix it intervals
    (value_at row index.column) f k (sym i) out.0 met))

-- Conjuncts

least_no : (t : Truth) → least t No ≡ No
least_no No = refl
least_no Faulty = refl
least_no Unknown = refl
least_no Yes = refl

one_rejects : (p : Place) (conjuncts : List TypedExpr) (i : ℕ) (e : TypedExpr)
    → slice_get conjuncts i ≡ Some e → IsRejected p e → acceptance p conjuncts ≡ No
one_rejects p [] i e h r = absurd (cc)
one_rejects p (x ∷ xs) zero e h r =
    let same : x ≡ e = cc in
    ap (λ t. least t (acceptance p xs)) (ap (λ y. firm (truth (value_of p y))) same ∙ r)
one_rejects p (x ∷ xs) (suc i) e h r =
    ap (least (firm (truth (value_of p x)))) (one_rejects p xs i e h r)
    ∙ least_no (firm (truth (value_of p x)))

-- The conjuncts reject what one of them rejects.
pub reject_outside : (meaning : ℕ → Meaning) (index : IndexDecl) (coll : CollId)
    (conjuncts : List TypedExpr) (i : ℕ) (e : TypedExpr) (intervals : List Interval)
    → slice_get conjuncts i ≡ Some e → RejectsOutside meaning index coll e intervals
    → RejectOutside meaning index coll conjuncts intervals
reject_outside meaning index coll conjuncts i e intervals h r row out =
    one_rejects (place row [] meaning) conjuncts i e h (r row out)

-- They reject the rest of the rows where the index's column has this collation.
pub reject_rest : (meaning : ℕ → Meaning) (columns : List ColumnDecl) (index : IndexDecl)
    (coll : CollId) (conjuncts : List TypedExpr) (intervals : List Interval)
    → index_collation columns index ≡ Some coll
    → RejectOutside meaning index coll conjuncts intervals
    → RejectRest meaning columns conjuncts index intervals
reject_rest meaning columns index coll conjuncts intervals e r row h out =
    r row (
      subst (λ (o : Option CollId). IfSome o
          (λ id. IsOfSet (meaning id.0).charset (value_at row index.column))) e h,
      sym (ap (λ (o : Option CollId). option_map_or (λ id. is_found (meaning id.0) index.prefix
          intervals (value_at row index.column)) o false) e) ∙ out,
    )

-- So does the conjunct with the intervals that are answered of its condition, if it is one.
pub found_rejects : {E : Type 0} (meaning : ℕ → Meaning) (index : IndexDecl) (coll : CollId)
    (e : TypedExpr) (m : Meaning) (set : Charset) (cond : Option Cond)
    (r : Result (Option (List Interval)) E) → m ≡ meaning coll.0 → set ≡ m.charset → FindsAll m
    → ((p : Place) (it : Cond) → RejectsOthers p index.column coll e it)
    → cond ≡ cond_of set index.column coll e → IfSome cond (IsCondOf set)
    → IfOk r (λ found. found ≡ option_and_then (intervals_of m index.prefix) cond)
    → IfOk r (λ found. IfSome found (RejectsOutside meaning index coll e))
found_rejects meaning index coll e m set cond (Err error) same k f r c o i = tt
found_rejects meaning index coll e m set cond (Ok None) same k f r c o i = tt
found_rejects meaning index coll e m set None (Ok (Some intervals)) same k f r c o i = absurd (cc)
found_rejects meaning index coll e m set (Some it) (Ok (Some intervals)) same k f r c o i =
    let of_set : set ≡ (meaning coll.0).charset = k ∙ ap (λ (n : Meaning). n.charset) same in
    rejects_outside meaning index coll e it intervals (subst FindsAll same f) (λ p. r p it)
    (c ∙ ap (λ s. cond_of s index.column coll e) of_set) (subst (λ s. IsCondOf s it) of_set o)
    (i ∙ ap (λ n. intervals_of n index.prefix it) same)

-- Of the ends of the intervals that are answered of a condition bounds can be made.
pub found_bounds : {E : Type 0} (m : Meaning) (prefix : Option ℕ) (set : Charset)
    (cond : Option Cond) (r : Result (Option (List Interval)) E) → set ≡ m.charset
    → EndsAreBounds m → IfSome cond (IsCondOf set)
    → IfOk r (λ found. found ≡ option_and_then (intervals_of m prefix) cond)
    → IfOk r (λ found. IfSome found (All HasBounds))
found_bounds m prefix set cond (Err error) k b o i = tt
found_bounds m prefix set cond (Ok None) k b o i = tt
found_bounds m prefix set None (Ok (Some intervals)) k b o i = absurd (cc)
found_bounds m prefix set (Some it) (Ok (Some intervals)) k b o i =
    b prefix it intervals (subst (λ s. IsCondOf s it) k o) (sym i)
