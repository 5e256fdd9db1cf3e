-- Members that stand at the same place of two lists.
use Rattle.std.proofs.Common.{◌≡◌, ℕ, zero, suc, List, [], ◌∷◌, Some, length, refl, ap, subst}
use Rattle.std.specs.List.{AllByRecursion, AllZip}
use Rattle.std.specs.Prelude.{slice_get}
use Rattle.mc_catalog.specs.declared.catalog.Catalog.{Catalog}
use Rattle.mc_values.specs.declared.value.Value.{Value}
use Rattle.mc_gather.specs.Tables.{AreRowsOf, AreTablesOf}

pub zip_length : {A B : Type 0} (R : A → B → Type 0) (xs : List A) (ys : List B) → AllZip R xs ys
    → length ys ≡ length xs
zip_length R [] [] h = refl
zip_length R [] (y ∷ ys) h = absurd h
zip_length R (x ∷ xs) [] h = absurd h
zip_length R (x ∷ xs) (y ∷ ys) h = ap suc (zip_length R xs ys h.1)

pub as_many : (c : Catalog) (tables : List (List (List Value))) → AreTablesOf c tables
    → length tables ≡ length c.tables
as_many c tables h = zip_length (AreRowsOf c) c.tables tables h

pub zip_at : {A B : Type 0} (R : A → B → Type 0) (xs : List A) (ys : List B) → AllZip R xs ys
    → (i : ℕ) (y : B) → slice_get ys i ≡ Some y → (x : A) × ((slice_get xs i ≡ Some x) × R x y)
zip_at R [] [] h i y e = absurd (cc)
zip_at R [] (z ∷ ys) h i y e = absurd h
zip_at R (x ∷ xs) [] h i y e = absurd h
zip_at R (x ∷ xs) (z ∷ ys) h zero y e =
    let same : z ≡ y = cc in (x, (refl, subst (R x) same h.0))
zip_at R (x ∷ xs) (z ∷ ys) h (suc i) y e = zip_at R xs ys h.1 i y e

pub zip_get : {A B : Type 0} (R : A → B → Type 0) (xs : List A) (ys : List B) → AllZip R xs ys
    → (i : ℕ) (x : A) → slice_get xs i ≡ Some x → (y : B) × ((slice_get ys i ≡ Some y) × R x y)
zip_get R [] [] h i x e = absurd (cc)
zip_get R [] (z ∷ ys) h i x e = absurd h
zip_get R (w ∷ xs) [] h i x e = absurd h
zip_get R (w ∷ xs) (z ∷ ys) h zero x e =
    let same : w ≡ x = cc in (z, (refl, subst (λ v. R v z) same h.0))
zip_get R (w ∷ xs) (z ∷ ys) h (suc i) x e = zip_get R xs ys h.1 i x e

pub each_get : {A : Type 0} (P : A → Type 0) (xs : List A) → AllByRecursion P xs → (i : ℕ) (x : A)
    → slice_get xs i ≡ Some x → P x
each_get P [] h i x e = absurd (cc)
each_get P (y ∷ xs) h zero x e = let same : y ≡ x = cc in subst P same h.0
each_get P (y ∷ xs) h (suc i) x e = each_get P xs h.1 i x e
