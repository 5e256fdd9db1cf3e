-- What a collation keeps that has no contractions: each character has weights of its own.
use Rattle.std.proofs.Common.{◌≡◌, ◌≢◌, ◌⊎◌, ℕ, zero, suc, ◌≤◌, List, []}
use Rattle.std.proofs.Common.{◌∷◌, ◌++◌, map, length}
use Rattle.std.proofs.Common.{take, drop, length-append, refl, sym, ap, ◌∙◌, inl, inr, arith}
use Rattle.std.specs.List.{All, flat_map}
use Rattle.std.proofs.lemmas.Grind.{flat_map-append}
use Rattle.std.proofs.lemmas.List.{take-append-drop}
use Rattle.std.proofs.lemmas.List.Elements.{All-head, All-tail}
use Rattle.mc_order.specs.Meaning.{Meaning}
use Rattle.mc_order.specs.Laws.{KeepsTails}
use Rattle.mc_order.specs.Tails.{tails_of}
use Rattle.mc_order.specs.TailsLaw.{tails_of-none, KeepsTails-from}

-- Without contractions there are no tails.
pub without_tails : (m : Meaning) → m.contractions ≡ [] → m.tails ≡ [] → KeepsTails m
without_tails m contractions tails =
    KeepsTails-from m (tails ∙ sym (tails_of-none (m.level_list 1)) ∙ ap
    (tails_of (m.level_list 1)) (sym contractions))

-- The weights of the first characters, and those of the rest.
pub flat_map-split : (f : ℕ → List ℕ) (k : ℕ) (codes : List ℕ) →
    flat_map f codes ≡ flat_map f (take k codes) ++ flat_map f (drop k codes)
flat_map-split f k codes =
    sym (ap (flat_map f) (take-append-drop k codes)) ∙ flat_map-append f (take k codes)
    (drop k codes)

pub map-split : (f : ℕ → ℕ) (k : ℕ) (codes : List ℕ) →
    map f codes ≡ map f (take k codes) ++ map f (drop k codes)
map-split f zero codes = refl
map-split f (suc k) [] = refl
map-split f (suc k) (code ∷ codes) = ap (λ t. f code ∷ t) (map-split f k codes)

-- One character more has one weight more, or more than one.
more : (weights rest : List ℕ) (k : ℕ) (P : Type 0) → weights ≢ []
    → (k ≤ length rest) ⊎ P →
    (suc k ≤ length (weights ++ rest)) ⊎ P
more [] rest k P some h = absurd (some refl)
more (weight ∷ weights) rest k P some (inl h) =
    inl (omega (arith, length-append (weight ∷ weights) rest))
more (weight ∷ weights) rest k P some (inr h) = inr h

-- Where each character has a weight, the first k have k weights or more, or all of them.
pub flat_map-enough : (f : ℕ → List ℕ) (k : ℕ) (codes : List ℕ)
    → All (λ code. f code ≢ []) codes →
    (k ≤ length (flat_map f (take k codes))) ⊎ (flat_map f (drop k codes) ≡ [])
flat_map-enough f zero codes some = inl (omega arith)
flat_map-enough f (suc k) [] some = inr refl
flat_map-enough f (suc k) (code ∷ codes) some =
    more (f code) (flat_map f (take k codes)) k (flat_map f (drop k codes) ≡ [])
    (All-head (λ code. f code ≢ []) code codes some)
    (flat_map-enough f k codes (All-tail (λ code. f code ≢ []) code codes some))

one_more : {k n : ℕ} {P : Type 0} → (k ≤ n) ⊎ P → (suc k ≤ suc n) ⊎ P
one_more (inl h) = inl (omega arith)
one_more (inr h) = inr h

-- So where each character has one weight.
pub map-enough : (f : ℕ → ℕ) (k : ℕ) (codes : List ℕ) →
    (k ≤ length (map f (take k codes))) ⊎ (map f (drop k codes) ≡ [])
map-enough f zero codes = inl (omega arith)
map-enough f (suc k) [] = inr refl
map-enough f (suc k) (code ∷ codes) = one_more (map-enough f k codes)
