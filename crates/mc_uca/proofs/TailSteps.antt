-- The tails of one contraction more, prefix by prefix.
use Rattle.std.proofs.Common.{◌≡◌, ℕ, zero, suc, ◌+◌, ◌<◌, List, [], ◌∷◌, ◌++◌, length, map, filter, take, drop, refl, sym, ap, ◌∙◌, arith}
use Rattle.std.specs.List.{flat_map}
use Rattle.std.specs.declared.cmp.Ordering.{Ordering}
use Rattle.std.specs.declared.cmp.Ordering.TheVariants.{Less, Equal, Greater}
use Rattle.std.specs.Ordering.{match_ordering}
use Rattle.std.proofs.lemmas.List.{map-append}
use Rattle.std.proofs.lemmas.List.Elements.{filter-append}
use Rattle.mc_order.specs.Order.{list_order}
use Rattle.mc_order.specs.Tails.{insert_list, ascending, fronts, proper_prefixes, has_members, tails_of}
use Rattle.mc_order.specs.declared.pad.Pad.TheVariants.{NoPad}
use Rattle.mc_uca.specs.Inserts.{inserts, tails_with}

ascending-append : (xs ys : List (List ℕ)) → ascending (xs ++ ys) ≡ inserts xs (ascending ys)
unfolding ascending
ascending-append [] ys = refl
ascending-append (x ∷ xs) ys = ap (insert_list x) (ascending-append xs ys)

pub tails_of-none : (first : List ℕ → List ℕ) → tails_of first [] ≡ []
unfolding tails_of ascending
tails_of-none first = refl

pub tails_of-step : (first : List ℕ → List ℕ) (text : List ℕ) (texts : List (List ℕ)) →
    tails_of first (text ∷ texts) ≡ tails_with first (proper_prefixes text) (tails_of first texts)
unfolding tails_of
tails_of-step first text texts =
    ap (λ xs. ascending (filter has_members xs))
    (map-append first (proper_prefixes text) (flat_map proper_prefixes texts))
    ∙ ap ascending (filter-append has_members (map first (proper_prefixes text))
    (map first (flat_map proper_prefixes texts)))
    ∙ ascending-append (filter has_members (map first (proper_prefixes text)))
    (filter has_members (map first (flat_map proper_prefixes texts)))

drop-map : (f : List ℕ → List ℕ) (n : ℕ) (xs : List (List ℕ)) → drop n (map f xs) ≡ map f (drop n xs)
drop-map f zero xs = refl
drop-map f (suc n) [] = refl
drop-map f (suc n) (x ∷ xs) = drop-map f n xs

-- The prefixes from one on.
drop_fronts : (text : List ℕ) (n : ℕ) → n < length text →
    drop n (fronts text) ≡ take n text ∷ drop (suc n) (fronts text)
unfolding fronts
drop_fronts [] n lt = absurd (omega arith)
drop_fronts (c ∷ cs) zero lt = refl
drop_fronts (c ∷ cs) (suc n) lt =
    drop-map (λ front. c ∷ front) n (fronts cs)
    ∙ ap (map (λ front. c ∷ front)) (drop_fronts cs n (omega arith))
    ∙ ap (λ rest. (c ∷ take n cs) ∷ rest) (sym (drop-map (λ front. c ∷ front) (suc n) (fronts cs)))

fronts-length : (text : List ℕ) → drop (length text) (fronts text) ≡ []
unfolding fronts
fronts-length [] = refl
fronts-length (c ∷ cs) =
    drop-map (λ front. c ∷ front) (length cs) (fronts cs)
    ∙ ap (map (λ front. c ∷ front)) (fronts-length cs)

pub all_prefixes : (first : List ℕ → List ℕ) (text : List ℕ) (lists : List (List ℕ)) →
    lists ≡ tails_with first (drop (length text) (fronts text)) lists
all_prefixes first text lists =
    ap (λ prefixes. tails_with first prefixes lists) (sym (fronts-length text))

-- A prefix without weights adds nothing, and one with weights is put in its place.
with_none : (first : List ℕ → List ℕ) (prefix : List ℕ) (prefixes lists : List (List ℕ))
    (weights : List ℕ) → first prefix ≡ weights → weights ≡ [] →
    tails_with first (prefix ∷ prefixes) lists ≡ tails_with first prefixes lists
with_none first prefix prefixes lists weights e none = rw (e, none) refl

with_some : (first : List ℕ → List ℕ) (prefix : List ℕ) (prefixes lists : List (List ℕ))
    (weights : List ℕ) → first prefix ≡ weights → (weights ≡ [] → ⊥) →
    tails_with first (prefix ∷ prefixes) lists
    ≡ insert_list weights (tails_with first prefixes lists)
with_some first prefix prefixes lists [] e some = absurd (some refl)
with_some first prefix prefixes lists (w ∷ ws) e some = rw e refl

pub one_none : (first : List ℕ → List ℕ) (prefix : List ℕ) (lists : List (List ℕ))
    (weights : List ℕ) → weights ≡ first prefix → weights ≡ [] →
    tails_with first (prefix ∷ []) lists ≡ lists
one_none first prefix lists weights e none =
    with_none first prefix [] lists weights (sym e) none

pub one_some : (first : List ℕ → List ℕ) (prefix : List ℕ) (lists : List (List ℕ))
    (weights : List ℕ) → weights ≡ first prefix → (weights ≡ [] → ⊥) →
    tails_with first (prefix ∷ []) lists ≡ insert_list weights lists
one_some first prefix lists weights e some =
    with_some first prefix [] lists weights (sym e) some

pub ruleset one_prefix = (one_none, one_some)

with_cons : (first : List ℕ → List ℕ) (prefix : List ℕ) (prefixes lists : List (List ℕ))
    (weights : List ℕ) → first prefix ≡ weights →
    tails_with first (prefix ∷ prefixes) lists
    ≡ tails_with first (prefix ∷ []) (tails_with first prefixes lists)
with_cons first prefix prefixes lists [] e = rw e refl
with_cons first prefix prefixes lists (w ∷ ws) e = rw e refl

pub prefix_more : (first : List ℕ → List ℕ) (text : List ℕ) (n m : ℕ)
    (lists new old : List (List ℕ)) → m ≡ n + 1 → n < length text →
    lists ≡ tails_with first (drop m (fronts text)) old →
    new ≡ tails_with first (take n text ∷ []) lists →
    new ≡ tails_with first (drop n (fronts text)) old
prefix_more first text n m lists new old is lt h put =
    let more : m ≡ suc n = omega arith in
    put ∙ ap (tails_with first (take n text ∷ []))
    (h ∙ ap (λ k. tails_with first (drop k (fronts text)) old) more)
    ∙ sym (with_cons first (take n text) (drop (suc n) (fronts text)) old (first (take n text)) refl)
    ∙ ap (λ prefixes. tails_with first prefixes old) (sym (drop_fronts text n lt))

-- Where a list has to stand among ascending ones.
insert_at : (list other : List ℕ) (others : List (List ℕ)) (o : Ordering) →
    list_order NoPad 0 list other ≡ o → insert_list list (other ∷ others)
    ≡ match_ordering o (list ∷ other ∷ others) (other ∷ others) (other ∷ insert_list list others)
unfolding insert_list
insert_at list other others o e =
    ap (λ r. match_ordering r (list ∷ other ∷ others) (other ∷ others)
    (other ∷ insert_list list others)) e

pub insert-end : (list : List ℕ) → insert_list list [] ≡ list ∷ []
unfolding insert_list
insert-end list = refl

pub insert-before : (list other : List ℕ) (others : List (List ℕ)) →
    list_order NoPad 0 list other ≡ Less →
    insert_list list (other ∷ others) ≡ list ∷ other ∷ others
insert-before list other others e = insert_at list other others Less e

pub insert-same : (list other : List ℕ) (others : List (List ℕ)) →
    list_order NoPad 0 list other ≡ Equal → insert_list list (other ∷ others) ≡ other ∷ others
insert-same list other others e = insert_at list other others Equal e

pub insert-behind : (list other : List ℕ) (others : List (List ℕ)) →
    list_order NoPad 0 list other ≡ Greater →
    insert_list list (other ∷ others) ≡ other ∷ insert_list list others
insert-behind list other others e = insert_at list other others Greater e

-- One contraction more, counted down.
pub more_tails : (first : List ℕ → List ℕ) (text : List ℕ) (texts all : List (List ℕ))
    (old new : List (List ℕ)) → all ≡ text ∷ texts → old ≡ tails_of first texts →
    new ≡ tails_with first (proper_prefixes text) old → new ≡ tails_of first all
more_tails first text texts all old new is h put =
    put ∙ ap (tails_with first (proper_prefixes text)) h ∙ sym (tails_of-step first text texts)
    ∙ ap (tails_of first) (sym is)
