-- Collations that are loaded one behind the other.
use Rattle.std.proofs.Common.{◌≡◌, ℕ, ◌+◌, ◌<◌, List, [], ◌∷◌, ◌++◌, length, take, drop, map, get_or, Option, Some, None, IfSome, Result, Ok, Err, append_assoc, take-append-drop, refl, sym, ap, ◌∙◌, subst}
use Rattle.std.specs.Result.{result_map_both}
use Rattle.std.proofs.lemmas.List.{drop_more, map_push, map-append}
use Rattle.mc_base.specs.declared.refusal.FileRefusal.{FileRefusal}
use Rattle.mc_book.specs.Any.{any_meaning}
use Rattle.mc_book.specs.BookOutcome.{all_or_first, behind_outcome}
use Rattle.mc_book.specs.Meanings.{meanings, any_set}
use Rattle.mc_catalog.specs.declared.catalog.CollDecl.{CollDecl}
use Rattle.mc_base.specs.FileOutcome.{HasOutcome}
use Rattle.mc_book.specs.declared.any_collation.AnyCollation.{AnyCollation}
use Rattle.mc_base.specs.declared.file.FileFault.{FileFault}
use Rattle.mc_base.specs.declared.file.FileFault.TheVariants.{Refused, Fault, NoMemory}
use Rattle.mc_order.specs.Meaning.{Meaning}

-- What is told before and what is told now, together.
pub told_both : {X : Type 0} (P Q R : X → Type 0) (before now : Option X) → now ≡ before → IfSome before P → IfSome now Q → ((x : X) → P x → Q x → R x) → IfSome before R
told_both P Q R None now e p q f = tt
told_both P Q R (Some x) now e p q f = f x p (subst (λ o. IfSome o Q) e q)

-- all of some results, and then of others
then_all : {T E : Type 0} → Result (List T) E → List (Result T E) → Result (List T) E
then_all (Ok values) results = behind_outcome values results
then_all (Err error) results = Err error

joined : {T E : Type 0} (before values : List T) (rest : Result (List T) E) →
    result_map_both (λ more. before ++ more) (λ error. error) (result_map_both (λ more. values ++ more) (λ error. error) rest)
    ≡ result_map_both (λ more. (before ++ values) ++ more) (λ error. error) rest
joined before values (Ok more) = ap (λ all. Ok all) (sym (append_assoc before values more))
joined before values (Err error) = refl

behind_then : {T E : Type 0} (before : List T) (front : Result (List T) E) (results : List (Result T E)) →
    result_map_both (λ more. before ++ more) (λ error. error) (then_all front results)
    ≡ then_all (result_map_both (λ more. before ++ more) (λ error. error) front) results
unfolding then_all
behind_then before (Ok values) results = joined before values (all_or_first results)
behind_then before (Err error) results = refl

behind_none : {T E : Type 0} (r : Result (List T) E) → r ≡ result_map_both (λ more. [] ++ more) (λ error. error) r
behind_none (Ok values) = refl
behind_none (Err error) = refl

all-append : {T E : Type 0} (front results : List (Result T E)) → all_or_first (front ++ results) ≡ then_all (all_or_first front) results
unfolding then_all
all-append [] results = behind_none (all_or_first results)
all-append (Err error ∷ front) results = refl
all-append (Ok value ∷ front) results =
    ap (result_map_both (λ values. value ∷ values) (λ error. error)) (all-append front results)
    ∙ behind_then (value ∷ []) (all_or_first front) results

-- Behind some values, the values of further results.
behind-append : {T E : Type 0} (before : List T) (front results : List (Result T E)) →
    behind_outcome before (front ++ results) ≡ then_all (behind_outcome before front) results
behind-append before front results =
    ap (result_map_both (λ more. before ++ more) (λ error. error)) (all-append front results)
    ∙ behind_then before (all_or_first front) results

-- One more value.
behind-push : {T E : Type 0} (before all : List T) (front : List (Result T E)) (value : T) → behind_outcome before front ≡ Ok all →
    behind_outcome before (front ++ Ok value ∷ []) ≡ Ok (all ++ value ∷ [])
unfolding then_all
behind-push before all front value e = behind-append before front (Ok value ∷ []) ∙ ap (λ r. then_all r (Ok value ∷ [])) e

-- The first error.
behind-stop : {T E : Type 0} (before all : List T) (front rest : List (Result T E)) (error : E) → behind_outcome before front ≡ Ok all →
    behind_outcome before (front ++ Err error ∷ rest) ≡ Err error
unfolding then_all
behind-stop before all front rest error e = behind-append before front (Err error ∷ rest) ∙ ap (λ r. then_all r (Err error ∷ rest)) e

-- A list is what stands before a place, what stands there, and what stands behind.
parts : {D : Type 0} (ds : List D) (i : ℕ) (d : D) → i < length ds → d ≡ get_or ds i d → ds ≡ take i ds ++ d ∷ drop (i + 1) ds
parts ds i d h e =
    sym (take-append-drop i ds) ∙ ap (λ rest. take i ds ++ rest) (drop_more ds i d h ∙ ap (λ x. x ∷ drop (i + 1) ds) (sym e))

-- The values of one more declaration.
pub one_more : {D : Type 0} (f : D → Result Meaning FileRefusal) (before all : List Meaning) (ds : List D) (i : ℕ) (d : D) (m : Meaning) →
    take (i + 1) ds ≡ take i ds ++ d ∷ [] → behind_outcome before (map f (take i ds)) ≡ Ok all → f d ≡ Ok m →
    behind_outcome before (map f (take (i + 1) ds)) ≡ Ok (all ++ m ∷ [])
one_more f before all ds i d m next so_far e =
    ap (λ front. behind_outcome before (map f front)) next
    ∙ ap (behind_outcome before) (map_push f (take i ds) d ∙ ap (λ r. map f (take i ds) ++ r ∷ []) e)
    ∙ behind-push before all (map f (take i ds)) m so_far

stop_at : {D : Type 0} (f : D → Result Meaning FileRefusal) (before all : List Meaning) (ds : List D) (i : ℕ) (d : D) (refusal : FileRefusal) →
    i < length ds → d ≡ get_or ds i d → behind_outcome before (map f (take i ds)) ≡ Ok all → f d ≡ Err refusal →
    behind_outcome before (map f ds) ≡ Err refusal
stop_at f before all ds i d refusal h there so_far e =
    ap (λ all. behind_outcome before (map f all)) (parts ds i d h there)
    ∙ ap (behind_outcome before) (map-append f (take i ds) (d ∷ drop (i + 1) ds) ∙ ap (λ r. map f (take i ds) ++ r ∷ map f (drop (i + 1) ds)) e)
    ∙ behind-stop before all (map f (take i ds)) (map f (drop (i + 1) ds)) refusal so_far

-- The first declaration whose file is refused.
pub stopped : {D : Type 0} (f : D → Result Meaning FileRefusal) (before all : List Meaning) (ds : List D) (i : ℕ) (d : D) (fault : FileFault) →
    i < length ds → d ≡ get_or ds i d → behind_outcome before (map f (take i ds)) ≡ Ok all → HasOutcome any_meaning (Err fault) (f d) →
    HasOutcome meanings (Err fault) (behind_outcome before (map f ds))
stopped f before all ds i d (Refused refusal) h there so_far e = stop_at f before all ds i d refusal h there so_far e
stopped f before all ds i d Fault h there so_far e = tt
stopped f before all ds i d NoMemory h there so_far e = tt

-- The sets of one more collation.
pub more_sets : (before now : List AnyCollation) (ds : List CollDecl) (i : ℕ) (d : CollDecl) (collation : AnyCollation) →
    take (i + 1) ds ≡ take i ds ++ d ∷ [] → map any_set now ≡ map any_set before ++ map (λ each. each.charset) (take i ds) →
    any_set collation ≡ d.charset →
    map any_set (now ++ collation ∷ []) ≡ map any_set before ++ map (λ each. each.charset) (take (i + 1) ds)
more_sets before now ds i d collation next so_far e =
    map_push any_set now collation
    ∙ ap (λ sets. sets ++ any_set collation ∷ []) so_far
    ∙ ap (λ set. (map any_set before ++ map (λ each. each.charset) (take i ds)) ++ set ∷ []) e
    ∙ append_assoc (map any_set before) (map (λ each. each.charset) (take i ds)) (d.charset ∷ [])
    ∙ ap (λ sets. map any_set before ++ sets) (sym (map_push (λ each. each.charset) (take i ds) d))
    ∙ ap (λ front. map any_set before ++ map (λ each. each.charset) front) (sym next)
