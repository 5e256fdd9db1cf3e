-- Steps of a loop over a list, beside another list.
use Rattle.std.proofs.Common.{◌≡◌, ℕ, zero, suc, ◌+◌, ◌<◌, List, [], ◌∷◌, ◌++◌, length, get_or, map}
use Rattle.std.proofs.Common.{take, drop, refl, sym, ap, ◌∙◌, add-one, arith}
use Rattle.std.specs.List.{AllZip, range_with_len}
use Rattle.std.proofs.lemmas.List.FromFn.{map-range_with_len_more}
use Rattle.mc_group.specs.Cells.{each_with}

later : {A : Type 0} (xs : List A) (i : ℕ) (none : A) →
    get_or (drop 1 xs) i none ≡ get_or xs (suc i) none
later [] i none = refl
later (x ∷ xs) i none = refl

each_with_suc : {A B C : Type 0} (f : A → B → C) (none : B) (xs : List A) (others : List B)
    (i : ℕ) (d : A) →
    i < length xs → each_with f none (take (suc i) xs) others
    ≡ each_with f none (take i xs) others ++ f (get_or xs i d) (get_or others i none) ∷ []
unfolding each_with
each_with_suc f none [] others i d within = absurd (omega arith)
each_with_suc f none (x ∷ xs) others zero d within = refl
each_with_suc f none (x ∷ xs) others (suc i) d within =
    ap (λ t. f x (get_or others 0 none) ∷ t)
    (each_with_suc f none xs (drop 1 others) i d (omega arith)
    ∙ ap (λ y. each_with f none (take i xs) (drop 1 others) ++ f (get_or xs i d) y ∷ [])
    (later others i none))

-- One more member.
pub each_with_more : {A B C : Type 0} (f : A → B → C) (none : B) (xs : List A) (others : List B)
    (i : ℕ) (d : A) →
    i < length xs → each_with f none (take (i + 1) xs) others
    ≡ each_with f none (take i xs) others ++ f (get_or xs i d) (get_or others i none) ∷ []
each_with_more f none xs others i d within =
    ap (λ n. each_with f none (take n xs) others) (add-one i)
    ∙ each_with_suc f none xs others i d within

pub each_with_none : {A B C : Type 0} (f : A → B → C) (none : B) (others : List B) →
    each_with f none [] others ≡ []
unfolding each_with
each_with_none f none others = refl

-- One more member goes behind those before it.
pub each_with_push : {A B C : Type 0} (f : A → B → C) (none : B) (xs : List A) (others : List B)
    (i : ℕ) (d : A)
    (done new : List C) (y : C) → i < length xs → done ≡ each_with f none (take i xs) others →
    y ≡ f (get_or xs i d) (get_or others i none) → new ≡ done ++ y ∷ [] →
    new ≡ each_with f none (take (i + 1) xs) others
each_with_push f none xs others i d done new y within before is pushed =
    pushed ∙ ap (λ l. l ++ y ∷ []) before
    ∙ ap (λ z. each_with f none (take i xs) others ++ z ∷ []) is
    ∙ sym (each_with_more f none xs others i d within)

-- One more number's member goes behind those before it.
pub range_push : {X : Type 0} (f : ℕ → X) (i : ℕ) (done new : List X) (y : X) →
    done ≡ map f (range_with_len 0 i) → y ≡ f i → new ≡ done ++ y ∷ [] →
    new ≡ map f (range_with_len 0 (i + 1))
range_push f i done new y before is pushed =
    let e : 0 + i ≡ i = omega arith in
    pushed ∙ ap (λ l. l ++ y ∷ []) before
    ∙ ap (λ z. map f (range_with_len 0 i) ++ z ∷ []) is
    ∙ sym (map-range_with_len_more f 0 i i e)

-- What holds of two lists, at a place.
pub AllZip-at : {A B : Type 0} (R : A → B → Type 0) (xs : List A) (ys : List B) (i : ℕ) (d : A)
    (e : B) →
    AllZip R xs ys → i < length xs → R (get_or xs i d) (get_or ys i e)
AllZip-at R [] ys i d e h within = absurd (omega arith)
AllZip-at R (x ∷ xs) [] i d e h within = absurd h
AllZip-at R (x ∷ xs) (y ∷ ys) zero d e h within = h.0
AllZip-at R (x ∷ xs) (y ∷ ys) (suc i) d e h within =
    AllZip-at R xs ys i d e h.1 (omega arith)
