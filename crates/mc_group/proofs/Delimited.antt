-- Cells with one frame are one.
use Rattle.std.proofs.Common.{◌≡◌, ℕ, ◌/◌, ◌%◌, pos}
use Rattle.std.proofs.Common.{negsuc, List, [], ◌∷◌, ◌++◌, length, get_or, drop, refl, ap, ◌∙◌}
use Rattle.std.proofs.Common.{arith}
use Rattle.mc_group.specs.declared.cell.Cell.{Cell}
use Rattle.mc_group.specs.declared.cell.Cell.TheVariants.{Null, Number, Weights}
use Rattle.mc_group.specs.Frames.{cell_frame, halves}

heads : (x y : ℕ) (a b : List ℕ) → x ∷ a ≡ y ∷ b → x ≡ y
heads x y a b e = ap (λ l. get_or l 0 0) e

tails : (x y : ℕ) (a b : List ℕ) → x ∷ a ≡ y ∷ b → a ≡ b
tails x y a b e = ap (drop 1) e

append_same : (a b r s : List ℕ) → length a ≡ length b → a ++ r ≡ b ++ s → (a ≡ b) × (r ≡ s)
append_same [] [] r s n e = (refl, e)
append_same [] (y ∷ b) r s n e = absurd (omega (arith, n))
append_same (x ∷ a) [] r s n e = absurd (omega (arith, n))
append_same (x ∷ a) (y ∷ b) r s n e =
    let rest = append_same a b r s (omega (arith, n)) (tails x y (a ++ r) (b ++ s) e) in
    (ap (λ h. h ∷ a) (heads x y (a ++ r) (b ++ s) e) ∙ ap (λ t. y ∷ t) rest.0, rest.1)

halved : (n m : ℕ) → n / 4294967296 ≡ m / 4294967296 → n % 4294967296 ≡ m % 4294967296 → n ≡ m
halved n m e f = omega (arith, e, f)

halves_same : (n m : ℕ) (r s : List ℕ) → halves n ++ r ≡ halves m ++ s → (n ≡ m) × (r ≡ s)
halves_same n m r s e =
    let t = tails (n / 4294967296) (m / 4294967296) (n % 4294967296 ∷ r) (m % 4294967296 ∷ s) e in (
      halved n m
          (heads (n / 4294967296) (m / 4294967296) (n % 4294967296 ∷ r) (m % 4294967296 ∷ s) e)
          (heads (n % 4294967296) (m % 4294967296) r s t),
      tails (n % 4294967296) (m % 4294967296) r s t,
    )

apart : {P : Type 0} (x y : ℕ) (a b : List ℕ) → (x ≡ y → ⊥) → x ∷ a ≡ y ∷ b → P
apart x y a b other e = absurd (other (heads x y a b e))

numbers_same : (x y : ℕ) (n m : ℕ) (r s : List ℕ) → x ∷ (halves n ++ r) ≡ y ∷ (halves m ++ s) →
    (n ≡ m) × (r ≡ s)
numbers_same x y n m r s e = halves_same n m r s (tails x y (halves n ++ r) (halves m ++ s) e)

weights_same : (v w r s : List ℕ) →
    3 ∷ ((halves (length v) ++ v) ++ r) ≡ 3 ∷ ((halves (length w) ++ w) ++ s) →
    (v ≡ w) × (r ≡ s)
weights_same v w r s e =
    let t = halves_same (length v) (length w) (v ++ r) (w ++ s)
    (tails 3 3 ((halves (length v) ++ v) ++ r) ((halves (length w) ++ w) ++ s) e) in
    append_same v w r s t.0 t.1

pub delimited : (p q : Cell) (r s : List ℕ) → cell_frame p ++ r ≡ cell_frame q ++ s →
    (p ≡ q) × (r ≡ s)
unfolding cell_frame
delimited Null Null r s e = (refl, tails 0 0 r s e)
delimited Null (Number (pos m)) r s e = apart 0 1 _ _ (λ h. omega (arith, h)) e
delimited Null (Number (negsuc m)) r s e = apart 0 2 _ _ (λ h. omega (arith, h)) e
delimited Null (Weights w) r s e = apart 0 3 _ _ (λ h. omega (arith, h)) e
delimited (Number (pos n)) Null r s e = apart 1 0 _ _ (λ h. omega (arith, h)) e
delimited (Number (pos n)) (Number (pos m)) r s e =
    let t = numbers_same 1 1 n m r s e in (ap (λ k. Number (pos k)) t.0, t.1)
delimited (Number (pos n)) (Number (negsuc m)) r s e = apart 1 2 _ _ (λ h. omega (arith, h)) e
delimited (Number (pos n)) (Weights w) r s e = apart 1 3 _ _ (λ h. omega (arith, h)) e
delimited (Number (negsuc n)) Null r s e = apart 2 0 _ _ (λ h. omega (arith, h)) e
delimited (Number (negsuc n)) (Number (pos m)) r s e = apart 2 1 _ _ (λ h. omega (arith, h)) e
delimited (Number (negsuc n)) (Number (negsuc m)) r s e =
    let t = numbers_same 2 2 n m r s e in (ap (λ k. Number (negsuc k)) t.0, t.1)
delimited (Number (negsuc n)) (Weights w) r s e = apart 2 3 _ _ (λ h. omega (arith, h)) e
delimited (Weights v) Null r s e = apart 3 0 _ _ (λ h. omega (arith, h)) e
delimited (Weights v) (Number (pos m)) r s e = apart 3 1 _ _ (λ h. omega (arith, h)) e
delimited (Weights v) (Number (negsuc m)) r s e = apart 3 2 _ _ (λ h. omega (arith, h)) e
delimited (Weights v) (Weights w) r s e =
    let t = weights_same v w r s e in (ap (λ k. Weights k) t.0, t.1)
