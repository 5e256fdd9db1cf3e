-- Ascending lists: `ascending` makes them, and their members decide them.
use Rattle.std.proofs.Common.{◌≡◌, ◌⊎◌, ◌↔◌, ℕ, zero, suc, ◌<◌, List, []}
use Rattle.std.proofs.Common.{◌∷◌, length, get_or, refl}
use Rattle.std.proofs.Common.{sym, ap, ◌∙◌, subst, inl, inr, ⊎_elim, arith}
use Rattle.std.specs.List.{Contains}
use Rattle.std.specs.Cmp.Lexicographic.{slice_cmp}
use Rattle.std.specs.Ordering.{match_ordering, ordering_reverse, ordering_then, nat_cmp}
use Rattle.std.specs.Ordering.{MatchOrdering}
use Rattle.std.proofs.lemmas.Cmp.{ranked, nat_list_cmp_total, tied_itself}
use Rattle.std.specs.declared.cmp.Ordering.{Ordering}
use Rattle.std.specs.declared.cmp.Ordering.TheVariants.{Less, Equal, Greater}
use Rattle.mc_order.specs.declared.pad.Pad.TheVariants.{NoPad}
use Rattle.mc_order.specs.Order.{list_order, order_to_end}
use Rattle.mc_order.specs.Laws.{IsAscending}
use Rattle.mc_order.specs.Tails.{insert_list, ascending}

-- One of the members.
abbrev pub Among : {X : Type 0} → X → List X → Type 0
Among x [] = ⊥
Among x (y ∷ ys) = (x ≡ y) ⊎ Among x ys

Among-at : {X : Type 0} (xs : List X) (x : X) (k : ℕ) → k < length xs
    → get_or xs k x ≡ x →
    Among x xs
Among-at [] x k below e = absurd (omega arith)
Among-at (y ∷ ys) x zero below e = inl (sym e)
Among-at (y ∷ ys) x (suc k) below e = inr (Among-at ys x k (omega arith) e)

pub Among-from_Contains : {X : Type 0} (xs : List X) (x : X) → Contains xs x → Among x xs
Among-from_Contains xs x h = Among-at xs x h.0 h.1 h.2

pub Contains-from_Among : {X : Type 0} (xs : List X) (x : X) → Among x xs → Contains xs x
Contains-from_Among [] x h = absurd h
Contains-from_Among (y ∷ ys) x (inl e) = (0, omega arith, sym e)
Contains-from_Among (y ∷ ys) x (inr h) =
    let k = Contains-from_Among ys x h in (suc k.0, (let b = k.1 in omega arith), k.2)

-- A list stands before another one, character by character.
abbrev pub Precedes : List ℕ → List ℕ → Type 0
Precedes a b = list_order NoPad 0 a b ≡ Less

-- Each list stands before all behind it.
abbrev pub Rises : List (List ℕ) → Type 0
Rises [] = Unit {0}
Rises (x ∷ xs) = ((y : List ℕ) → Among y xs → Precedes x y) × Rises xs

at_Among : {X : Type 0} (xs : List X) (d : X) (k : ℕ) → k < length xs
    → Among (get_or xs k d) xs
at_Among [] d k below = absurd (omega arith)
at_Among (x ∷ xs) d zero below = inl refl
at_Among (x ∷ xs) d (suc k) below = inr (at_Among xs d k (omega arith))

rises_at : (xs : List (List ℕ)) → Rises xs → (i j : ℕ) → i < j → j < length xs →
    Precedes (get_or xs i []) (get_or xs j [])
rises_at [] h i j less below = absurd (omega arith)
rises_at (x ∷ xs) h zero zero less below = absurd (omega arith)
rises_at (x ∷ xs) h zero (suc j) less below =
    h.0 (get_or xs j []) (at_Among xs [] j (omega arith))
rises_at (x ∷ xs) h (suc i) zero less below = absurd (omega arith)
rises_at (x ∷ xs) h (suc i) (suc j) less below = rises_at xs h.1 i j (omega arith) (omega arith)

pub IsAscending-from_rises : (xs : List (List ℕ)) → Rises xs → IsAscending xs
IsAscending-from_rises xs h = λ i j less below. rises_at xs h i j less below

precedes_all : (x : List ℕ) (xs : List (List ℕ)) → ((j : ℕ) → j < length xs →
    Precedes x (get_or xs j [])) → (y : List ℕ) → Among y xs → Precedes x y
precedes_all x [] h y a = absurd a
precedes_all x (z ∷ zs) h y (inl e) = subst (Precedes x) (sym e) (h 0 (omega arith))
precedes_all x (z ∷ zs) h y (inr a) =
    precedes_all x zs (λ j below. h (suc j) (omega arith)) y a

pub rises_from_IsAscending : (xs : List (List ℕ)) → IsAscending xs → Rises xs
rises_from_IsAscending [] h = tt
rises_from_IsAscending (x ∷ xs) h = (
  precedes_all x xs (λ j below. h 0 (suc j) (omega arith) (omega arith)),
  rises_from_IsAscending xs (λ i j less below. h (suc i) (suc j) (omega arith) (omega arith)),
)

-- Without padding the order is the lexicographic one of std.
pub unpadded : (space : ℕ) (a b : List ℕ)
    → list_order NoPad space a b ≡ slice_cmp nat_cmp a b
unfolding list_order order_to_end
unpadded space [] [] = refl
unpadded space [] (y ∷ ys) = refl
unpadded space (x ∷ xs) [] = refl
unpadded space (x ∷ xs) (y ∷ ys) = ap (ordering_then (nat_cmp x y)) (unpadded space xs ys)

same_rest : (x y : ℕ) (xs ys : List ℕ) (o r : Ordering)
    → MatchOrdering o (x < y) (x ≡ y) (y < x) →
    ordering_then o r ≡ Equal → (r ≡ Equal → xs ≡ ys) → x ∷ xs ≡ y ∷ ys
same_rest x y xs ys Less r h e rest = absurd cc
same_rest x y xs ys Equal r h e rest = let same = rest e in cc
same_rest x y xs ys Greater r h e rest = absurd cc

tied_same : (a b : List ℕ) → slice_cmp nat_cmp a b ≡ Equal → a ≡ b
tied_same [] [] e = refl
tied_same [] (y ∷ ys) e = absurd cc
tied_same (x ∷ xs) [] e = absurd cc
tied_same (x ∷ xs) (y ∷ ys) e =
    same_rest x y xs ys (nat_cmp x y) (slice_cmp nat_cmp xs ys) (ranked x y (nat_cmp x y) refl) e
    (tied_same xs ys)

-- Lists that are equal without padding are one list.
pub same_from_equal : (space : ℕ) (a b : List ℕ) → list_order NoPad space a b ≡ Equal
    → a ≡ b
same_from_equal space a b e = tied_same a b (sym (unpadded space a b) ∙ e)

precedes_trans : (a b c : List ℕ) → Precedes a b → Precedes b c → Precedes a c
precedes_trans a b c h k =
    unpadded 0 a c ∙ nat_list_cmp_total.trans a b c (sym (unpadded 0 a b) ∙ h)
    (sym (unpadded 0 b c) ∙ k)

precedes_back : (a b : List ℕ) → list_order NoPad 0 a b ≡ Greater → Precedes b a
precedes_back a b h =
    unpadded 0 b a ∙ nat_list_cmp_total.antisymm b a
    ∙ ap ordering_reverse (sym (unpadded 0 a b) ∙ h)

precedes_itself : (a : List ℕ) → Precedes a a → ⊥
precedes_itself a h =
    let e : Less ≡ Equal = sym h ∙ unpadded 0 a a ∙ tied_itself nat_list_cmp_total a in cc

insert_cases : (x y : List ℕ) (ys : List (List ℕ)) (P : List (List ℕ) → Type 0) →
    (Precedes x y → P (x ∷ y ∷ ys)) → (x ≡ y → P (y ∷ ys)) →
    (Precedes y x → P (y ∷ insert_list x ys)) → P (insert_list x (y ∷ ys))
unfolding insert_list
insert_cases x y ys P before same behind = go (list_order NoPad 0 x y) refl
  where
    go : (o : Ordering) → list_order NoPad 0 x y ≡ o →
        P (match_ordering o (x ∷ y ∷ ys) (y ∷ ys) (y ∷ insert_list x ys))
    go Less e = before e
    go Equal e = same (same_from_equal 0 x y e)
    go Greater e = behind (precedes_back x y e)

among_inserted : (x : List ℕ) (ys : List (List ℕ)) (z : List ℕ)
    → Among z (insert_list x ys) →
    (z ≡ x) ⊎ Among z ys
unfolding insert_list
among_inserted x [] z (inl e) = inl e
among_inserted x [] z (inr h) = absurd h
among_inserted x (y ∷ ys) z h =
    insert_cases x y ys (λ l. Among z l → (z ≡ x) ⊎ Among z (y ∷ ys)) (λ before h. h)
    (λ same h. inr h)
    (λ behind h. ⊎_elim (λ e. inr (inl e)) (λ a. ⊎_elim (λ e. inl e) (λ b. inr (inr b))
    (among_inserted x ys z a)) h) h

inserted_among : (x : List ℕ) (ys : List (List ℕ)) (z : List ℕ)
    → (z ≡ x) ⊎ Among z ys →
    Among z (insert_list x ys)
unfolding insert_list
inserted_among x [] z h = h
inserted_among x (y ∷ ys) z h =
    insert_cases x y ys (Among z) (λ before. h)
    (λ same. ⊎_elim (λ e. inl (e ∙ same)) (λ a. a) h)
    (λ behind. ⊎_elim (λ e. inr (inserted_among x ys z (inl e)))
    (λ a. ⊎_elim (λ e. inl e) (λ b. inr (inserted_among x ys z (inr b))) a) h)

rises_inserted : (x : List ℕ) (ys : List (List ℕ)) → Rises ys → Rises (insert_list x ys)
unfolding insert_list
rises_inserted x [] h = (λ y a. absurd a, tt)
rises_inserted x (y ∷ ys) h =
    insert_cases x y ys Rises
    (λ before. (
      λ z a. ⊎_elim (λ e. subst (Precedes x) (sym e) before)
          (λ b. precedes_trans x y z before (h.0 z b)) a,
      h,
    ))
    (λ same. h)
    (λ behind. (
      λ z a. ⊎_elim (λ e. subst (Precedes y) (sym e) behind) (λ b. h.0 z b)
          (among_inserted x ys z a),
      rises_inserted x ys h.1,
    ))

-- `ascending` has the members of its lists, in order.
pub rises_ascending : (xs : List (List ℕ)) → Rises (ascending xs)
unfolding ascending
rises_ascending [] = tt
rises_ascending (x ∷ xs) = rises_inserted x (ascending xs) (rises_ascending xs)

pub Among_ascending : (xs : List (List ℕ)) (z : List ℕ)
    → Among z (ascending xs) ↔ Among z xs
unfolding ascending
Among_ascending [] z = (λ h. h, λ h. h)
Among_ascending (x ∷ xs) z = (
  λ h. ⊎_elim (λ e. inl e) (λ a. inr ((Among_ascending xs z).0 a))
      (among_inserted x (ascending xs) z h),
  λ h. inserted_among x (ascending xs) z
      (⊎_elim (λ e. inl e) (λ a. inr ((Among_ascending xs z).1 a)) h),
)

-- Of two rising lists with the same members the first ones are the same.
heads_same : (x y : List ℕ) (xs ys : List (List ℕ)) → Rises (x ∷ xs)
    → Rises (y ∷ ys) →
    Among x (y ∷ ys) → Among y (x ∷ xs) → x ≡ y
heads_same x y xs ys rx ry (inl e) h = e
heads_same x y xs ys rx ry (inr a) (inl e) = sym e
heads_same x y xs ys rx ry (inr a) (inr b) =
    absurd (precedes_itself x (precedes_trans x y x (rx.0 y b) (ry.0 x a)))

not_head : (x y z : List ℕ) (xs ys : List (List ℕ)) → Rises (x ∷ xs) → x ≡ y
    → Among z xs →
    Among z (y ∷ ys) → Among z ys
not_head x y z xs ys rx e a (inl is) =
    absurd (precedes_itself x (subst (Precedes x) (is ∙ sym e) (rx.0 z a)))
not_head x y z xs ys rx e a (inr b) = b

rises_unique : (xs ys : List (List ℕ)) → Rises xs → Rises ys →
    ((z : List ℕ) → Among z xs → Among z ys)
    → ((z : List ℕ) → Among z ys → Among z xs) → xs ≡ ys
rises_unique [] [] rx ry there back = refl
rises_unique [] (y ∷ ys) rx ry there back = absurd (back y (inl refl))
rises_unique (x ∷ xs) [] rx ry there back = absurd (there x (inl refl))
rises_unique (x ∷ xs) (y ∷ ys) rx ry there back =
    let e = heads_same x y xs ys rx ry (there x (inl refl)) (back y (inl refl)) in
    let rest = rises_unique xs ys rx.1 ry.1
    (λ z a. not_head x y z xs ys rx e a (there z (inr a)))
    (λ z a. not_head y x z ys xs ry (sym e) a (back z (inr a))) in
    cc

-- Ascending lists with equal members are equal.
pub IsAscending-unique : (xs ys : List (List ℕ)) → IsAscending xs → IsAscending ys →
    ((z : List ℕ) → Contains xs z ↔ Contains ys z) → xs ≡ ys
IsAscending-unique xs ys ax ay same =
    rises_unique xs ys (rises_from_IsAscending xs ax) (rises_from_IsAscending ys ay)
    (λ z a. Among-from_Contains ys z ((same z).0 (Contains-from_Among xs z a)))
    (λ z a. Among-from_Contains xs z ((same z).1 (Contains-from_Among ys z a)))
