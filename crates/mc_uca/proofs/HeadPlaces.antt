-- The lists of the characters that begin contractions, and one that is sought among such lists.
use Rattle.std.proofs.Common.{◌≡◌, ◌↔◌, ℕ, Result, Ok, Err, OnOk, ◌<◌, ◌≤◌, Bool, true, false, not, IsTrue, List, [], ◌∷◌, length, map, take, drop, slice_index_or, inl, inr, refl, sym, ap, subst, ◌∙◌, ⊎_elim, arith}
use Rattle.std.proofs.lemmas.Bool.{cases_lt}
use Rattle.std.proofs.lemmas.Cmp.{tied_itself}
use Rattle.std.specs.Cmp.{IsTotalOrder}
use Rattle.std.specs.List.{Contains}
use Rattle.std.specs.declared.cmp.Ordering.TheVariants.{Less, Greater}
use Rattle.mc_order.specs.Ascending.{Among, Among-from_Contains, Contains-from_Among, Among_ascending}
use Rattle.mc_order.specs.Laws.{IsAscending}
use Rattle.mc_order.specs.Order.{list_order}
use Rattle.mc_order.specs.Tails.{insert_list, ascending}
use Rattle.mc_order.specs.declared.pad.Pad.TheVariants.{NoPad}
use Rattle.mc_uca.specs.Heads.{heads_of}
use Rattle.mc_uca.specs.Inserts.{AreAscending}
use Rattle.mc_uca.proofs.Places.{place_of}
use Rattle.mc_uca.proofs.TailPlaces.{IsBehind}

-- The heads are ascending; one contraction more puts its head among them.
pub heads_of-ascending : (list : List ℕ → List ℕ) (texts : List (List ℕ)) →
    AreAscending (heads_of list texts)
heads_of-ascending list texts = (_, refl)

pub heads_of-none : (list : List ℕ → List ℕ) → heads_of list [] ≡ []
unfolding ascending
heads_of-none list = refl

heads_of-step : (list : List ℕ → List ℕ) (text : List ℕ) (texts : List (List ℕ)) →
    heads_of list (text ∷ texts) ≡ insert_list (list (take 1 text)) (heads_of list texts)
unfolding ascending
heads_of-step list text texts = refl

first_of : (text : List ℕ) → 1 ≤ length text → take 1 text ≡ slice_index_or text 0 0 ∷ []
first_of [] some = absurd (omega arith)
first_of (code ∷ codes) some = refl

pub more_heads : (list : List ℕ → List ℕ) (text weights : List ℕ) (texts all : List (List ℕ))
    (old new : List (List ℕ)) → all ≡ text ∷ texts → 1 ≤ length text →
    weights ≡ list (slice_index_or text 0 0 ∷ []) → old ≡ heads_of list texts →
    new ≡ insert_list weights old → new ≡ heads_of list all
more_heads list text weights texts all old new is some e h put =
    put ∙ ap (insert_list weights) h
    ∙ ap (λ w. insert_list w (heads_of list texts)) (e ∙ ap list (sym (first_of text some)))
    ∙ sym (heads_of-step list text texts) ∙ ap (heads_of list) (sym is)

pub put_on_ok : {T E : Type 0} (r : Result T E) (list : List ℕ → List ℕ) (text : List ℕ)
    (texts all old new : List (List ℕ)) → all ≡ text ∷ texts → 1 ≤ length text →
    OnOk r (new ≡ insert_list (list (slice_index_or text 0 0 ∷ [])) old) →
    OnOk r (old ≡ heads_of list texts → new ≡ heads_of list all)
put_on_ok (Ok x) list text texts all old new is some put = λ e.
    more_heads list text _ texts all old new is some refl e put
put_on_ok (Err x) list text texts all old new is some put = tt

-- Among the heads are the lists of the first characters, and no others.
mapped : (f : List ℕ → List ℕ) (texts : List (List ℕ)) (text : List ℕ) → Among text texts →
    Among (f text) (map f texts)
mapped f [] text h = absurd h
mapped f (t ∷ ts) text (inl e) = inl (ap f e)
mapped f (t ∷ ts) text (inr h) = inr (mapped f ts text h)

mapped_from : (f : List ℕ → List ℕ) (texts : List (List ℕ)) (z : List ℕ) → Among z (map f texts) →
    (text : List ℕ) × Among text texts × (z ≡ f text)
mapped_from f [] z h = absurd h
mapped_from f (t ∷ ts) z (inl e) = (t, inl refl, e)
mapped_from f (t ∷ ts) z (inr h) = let k = mapped_from f ts z h in (k.0, inr k.1, k.2)

pub head_among : (list : List ℕ → List ℕ) (texts heads : List (List ℕ)) (head : ℕ)
    (rest : List ℕ) → heads ≡ heads_of list texts → Contains texts (head ∷ rest) →
    Contains heads (list (head ∷ []))
head_among list texts heads head rest e h =
    let f : List ℕ → List ℕ = λ text. list (take 1 text) in
    subst (λ lists. Contains lists (list (head ∷ []))) (sym e)
    (Contains-from_Among (heads_of list texts) (list (head ∷ []))
    ((Among_ascending (map f texts) (list (head ∷ []))).1
    (mapped f texts (head ∷ rest) (Among-from_Contains texts (head ∷ rest) h))))

from_first : (text : List ℕ) → 1 ≤ length text → text ≡ slice_index_or text 0 0 ∷ drop 1 text
from_first [] some = absurd (omega arith)
from_first (code ∷ codes) some = refl

pub among_head : (list : List ℕ → List ℕ) (texts heads : List (List ℕ)) (z : List ℕ) →
    heads ≡ heads_of list texts → ((text : List ℕ) → Contains texts text → 1 ≤ length text) →
    Contains heads z →
    (head : ℕ) × ((rest : List ℕ) × Contains texts (head ∷ rest)) × (z ≡ list (head ∷ []))
among_head list texts heads z e some h =
    let f : List ℕ → List ℕ = λ text. list (take 1 text) in
    let one = mapped_from f texts z ((Among_ascending (map f texts) z).0
    (Among-from_Contains (heads_of list texts) z (subst (λ lists. Contains lists z) e h))) in
    let text = one.0 in
    let is = Contains-from_Among texts text one.1 in
    let more = some text is in (
      slice_index_or text 0 0,
      (drop 1 text, subst (Contains texts) (from_first text more) is),
      one.2 ∙ ap list (first_of text more),
    )

-- What a list isn't equal to.
not_less : (list : List ℕ) → IsTotalOrder (list_order NoPad 0) →
    list_order NoPad 0 list list ≡ Less → ⊥
not_less list total e = let same = sym e ∙ tied_itself total list in cc

not_greater : (list : List ℕ) → IsTotalOrder (list_order NoPad 0) →
    list_order NoPad 0 list list ≡ Greater → ⊥
not_greater list total e = let same = sym e ∙ tied_itself total list in cc

before_all : (list : List ℕ) (lists : List (List ℕ)) (n k : ℕ) →
    IsTotalOrder (list_order NoPad 0) → IsAscending lists → n ≤ k → k < length lists →
    list_order NoPad 0 list (slice_index_or lists n []) ≡ Less →
    list_order NoPad 0 list (slice_index_or lists k []) ≡ Less
before_all list lists n k total rising le lt less =
    ⊎_elim
    (λ below. total.trans list (slice_index_or lists n []) (slice_index_or lists k []) less
    (rising n k below lt))
    (λ not_below. (let same : n ≡ k = omega (arith, le, not_below) in
    ap (λ j. list_order NoPad 0 list (slice_index_or lists j [])) (sym same) ∙ less)) (cases_lt n k)

-- A list isn't among ascending ones where it stands between two of them.
pub not_among : (list : List ℕ) (lists : List (List ℕ)) (n : ℕ) →
    IsTotalOrder (list_order NoPad 0) →
    IsAscending lists → IsBehind list lists n →
    (n < length lists → list_order NoPad 0 list (slice_index_or lists n []) ≡ Less) →
    Contains lists list → ⊥
not_among list lists n total rising behind before h =
    let place = place_of lists list h in
    let k = place.0 in
    let lt = place.1 in
    ⊎_elim
    (λ below. not_greater list total
    (ap (list_order NoPad 0 list) (sym place.2) ∙ behind k below))
    (λ not_below. (let le : n ≤ k = omega (arith, not_below) in
    not_less list total (ap (list_order NoPad 0 list) (sym place.2)
    ∙ before_all list lists n k total rising le lt (before (omega (arith, le, lt))))))
    (cases_lt k n)

-- The answer is the other way round.
pub safe_by : (b : Bool) (P Q : Type 0) → (IsTrue b ↔ P) → (Q → P → ⊥) → ((P → ⊥) → Q) →
    IsTrue (not b) ↔ Q
safe_by true P Q h not_both if_not = (λ t. absurd cc, λ q. absurd (not_both q (h.0 refl)))
safe_by false P Q h not_both if_not = (λ t. if_not (λ p. absurd (let e = h.1 p in cc)), λ q. refl)
