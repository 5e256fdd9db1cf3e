-- `tails_of` gives the tails that the laws ask for.
use Rattle.std.proofs.Common.{◌≡◌, ◌≢◌, ◌⊎◌, ◌↔◌, ℕ, List, [], ◌∷◌}
use Rattle.std.proofs.Common.{◌++◌, map, refl, sym, ap, ◌∙◌}
use Rattle.std.proofs.Common.{subst, inl, inr, ⊎_elim}
use Rattle.std.specs.List.{Contains, filter, flat_map}
use Rattle.mc_order.specs.Meaning.{Meaning, IsTail}
use Rattle.mc_order.specs.Laws.{KeepsTails, IsAscending}
use Rattle.mc_order.specs.Tails.{ascending, fronts, proper_prefixes, has_members, tails_of}
use Rattle.mc_order.specs.Ascending.{Among, Among-from_Contains, Contains-from_Among}
use Rattle.mc_order.specs.Ascending.{IsAscending-from_rises, rises_ascending, Among_ascending}

-- A member of a filtered list passes the test, and the other way round.
among_filter : (zs : List (List ℕ)) (z : List ℕ) → Among z (filter has_members zs) →
    Among z zs × (z ≢ [])
among_filter [] z h = absurd h
among_filter ([] ∷ ys) z h = let k = among_filter ys z h in (inr k.0, k.1)
among_filter ((w ∷ ws) ∷ ys) z (inl e) =
    (inl e, λ none. let f : w ∷ ws ≡ [] = sym e ∙ none in cc)
among_filter ((w ∷ ws) ∷ ys) z (inr h) = let k = among_filter ys z h in (inr k.0, k.1)

filter_among : (zs : List (List ℕ)) (z : List ℕ) → Among z zs → z ≢ [] →
    Among z (filter has_members zs)
filter_among [] z h some = absurd h
filter_among ([] ∷ ys) z (inl e) some = absurd (some e)
filter_among ([] ∷ ys) z (inr h) some = filter_among ys z h some
filter_among ((w ∷ ws) ∷ ys) z (inl e) some = inl e
filter_among ((w ∷ ws) ∷ ys) z (inr h) some = inr (filter_among ys z h some)

among_map : {X Y : Type 0} (f : X → Y) (xs : List X) (z : Y) → Among z (map f xs) →
    (x : X) × Among x xs × (f x ≡ z)
among_map f [] z h = absurd h
among_map f (x ∷ xs) z (inl e) = (x, inl refl, sym e)
among_map f (x ∷ xs) z (inr h) = let k = among_map f xs z h in (k.0, inr k.1, k.2)

map_among : {X Y : Type 0} (f : X → Y) (xs : List X) (x : X) → Among x xs
    → Among (f x) (map f xs)
map_among f [] x h = absurd h
map_among f (y ∷ ys) x (inl e) = inl (ap f e)
map_among f (y ∷ ys) x (inr h) = inr (map_among f ys x h)

among_append : {X : Type 0} (xs ys : List X) (z : X) → Among z (xs ++ ys)
    → Among z xs ⊎ Among z ys
among_append [] ys z h = inr h
among_append (x ∷ xs) ys z (inl e) = inl (inl e)
among_append (x ∷ xs) ys z (inr h) =
    ⊎_elim (λ a. inl (inr a)) (λ b. inr b) (among_append xs ys z h)

append_left : {X : Type 0} (xs ys : List X) (z : X) → Among z xs → Among z (xs ++ ys)
append_left [] ys z h = absurd h
append_left (x ∷ xs) ys z (inl e) = inl e
append_left (x ∷ xs) ys z (inr h) = inr (append_left xs ys z h)

append_right : {X : Type 0} (xs ys : List X) (z : X) → Among z ys → Among z (xs ++ ys)
append_right [] ys z h = h
append_right (x ∷ xs) ys z h = inr (append_right xs ys z h)

among_flat : {X Y : Type 0} (f : X → List Y) (xs : List X) (z : Y) → Among z (flat_map f xs) →
    (x : X) × Among x xs × Among z (f x)
among_flat f [] z h = absurd h
among_flat f (x ∷ xs) z h =
    ⊎_elim (λ a. (x, inl refl, a)) (λ b. let k = among_flat f xs z b in (k.0, inr k.1, k.2))
    (among_append (f x) (flat_map f xs) z h)

flat_among : {X Y : Type 0} (f : X → List Y) (xs : List X) (x : X) (z : Y) → Among x xs →
    Among z (f x) → Among z (flat_map f xs)
flat_among f [] x z h a = absurd h
flat_among f (y ∷ ys) x z (inl e) a =
    append_left (f y) (flat_map f ys) z (subst (λ w. Among z (f w)) e a)
flat_among f (y ∷ ys) x z (inr h) a =
    append_right (f y) (flat_map f ys) z (flat_among f ys x z h a)

-- The list begins with this one and goes on.
abbrev IsFront : List ℕ → List ℕ → Type 0
IsFront front codes = (rest : List ℕ) × (rest ≢ []) × (codes ≡ front ++ rest)

among_fronts : (codes front : List ℕ) → Among front (fronts codes) → IsFront front codes
unfolding fronts
among_fronts [] front h = absurd h
among_fronts (c ∷ cs) front (inl e) =
    (c ∷ cs, (λ none. cc), ap (λ f. f ++ (c ∷ cs)) (sym e))
among_fronts (c ∷ cs) front (inr h) =
    let k = among_map (λ f. c ∷ f) (fronts cs) front h in
    let more = among_fronts cs k.0 k.1 in
    (more.0, more.1, ap (λ r. c ∷ r) more.2 ∙ ap (λ f. f ++ more.0) k.2)

fronts_among : (front rest : List ℕ) → rest ≢ [] → Among front (fronts (front ++ rest))
unfolding fronts
fronts_among [] [] some = absurd (some refl)
fronts_among [] (c ∷ cs) some = inl refl
fronts_among (c ∷ front) rest some =
    inr (map_among (λ f. c ∷ f) (fronts (front ++ rest)) front (fronts_among front rest some))

among_proper : (codes front : List ℕ) → Among front (proper_prefixes codes) →
    IsFront front codes × (front ≢ [])
unfolding fronts
among_proper [] front h = absurd h
among_proper (c ∷ cs) front h =
    let k = among_map (λ f. c ∷ f) (fronts cs) front h in
    (among_fronts (c ∷ cs) front (inr h), λ none. let e = k.2 ∙ none in cc)

proper_among : (front rest : List ℕ) → front ≢ [] → rest ≢ [] →
    Among front (proper_prefixes (front ++ rest))
unfolding fronts
proper_among [] rest some more = absurd (some refl)
proper_among (c ∷ front) rest some more =
    map_among (λ f. c ∷ f) (fronts (front ++ rest)) front (fronts_among front rest more)

tail_is : (m : Meaning) (weights : List ℕ) →
    Among weights (tails_of (m.level_list 1) m.contractions) → IsTail m weights
unfolding tails_of
tail_is m weights h =
    let first = m.level_list 1 in
    let listed = map first (flat_map proper_prefixes m.contractions) in
    let passed = among_filter listed weights
    ((Among_ascending (filter has_members listed) weights).0 h) in
    let made = among_map first (flat_map proper_prefixes m.contractions) weights passed.0 in
    let of = among_flat proper_prefixes m.contractions made.0 made.1 in
    let front = among_proper of.0 made.0 of.2 in record {
      front = made.0;
      rest = front.0.0;
      some_weights = passed.1;
      some_front = front.1;
      some_rest = front.0.1;
      joined = subst (Contains m.contractions) front.0.2
          (Contains-from_Among m.contractions of.0 of.1);
      first_list = made.2;
    }

is_tail : (m : Meaning) (weights : List ℕ) → IsTail m weights →
    Among weights (tails_of (m.level_list 1) m.contractions)
unfolding tails_of
is_tail m weights h =
    let first = m.level_list 1 in
    let listed = map first (flat_map proper_prefixes m.contractions) in
    let prefix = flat_among proper_prefixes m.contractions (h.front ++ h.rest) h.front
    (Among-from_Contains m.contractions (h.front ++ h.rest) h.joined)
    (proper_among h.front h.rest h.some_front h.some_rest) in
    let made : Among weights listed = subst (λ w. Among w listed) h.first_list
    (map_among first (flat_map proper_prefixes m.contractions) h.front prefix) in
    (Among_ascending (filter has_members listed) weights).1
    (filter_among listed weights made h.some_weights)

pub tails_of-ascends : (first : List ℕ → List ℕ) (contractions : List (List ℕ)) →
    IsAscending (tails_of first contractions)
unfolding tails_of
tails_of-ascends first contractions =
    IsAscending-from_rises (tails_of first contractions)
    (rises_ascending (filter has_members (map first (flat_map proper_prefixes contractions))))

pub tails_of-each : (m : Meaning) (weights : List ℕ) →
    Contains (tails_of (m.level_list 1) m.contractions) weights ↔ IsTail m weights
tails_of-each m weights = (
  λ h. tail_is m weights (Among-from_Contains _ weights h),
  λ h. Contains-from_Among _ weights (is_tail m weights h),
)

pub tails_of-none : (first : List ℕ → List ℕ) → tails_of first [] ≡ []
unfolding tails_of ascending
tails_of-none first = refl

-- A collation whose tails are so keeps the law of tails.
pub KeepsTails-from : (m : Meaning) → m.tails ≡ tails_of (m.level_list 1) m.contractions →
    KeepsTails m
KeepsTails-from m e = record {
  each = λ weights. (
    λ h. (tails_of-each m weights).0 (subst (λ tails. Contains tails weights) e h),
    λ h. subst (λ tails. Contains tails weights) (sym e) ((tails_of-each m weights).1 h),
  );
  ordered = subst IsAscending (sym e) (tails_of-ascends (m.level_list 1) m.contractions);
}
