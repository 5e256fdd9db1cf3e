-- Members of a list by their places.
use Rattle.std.proofs.Common.{◌≡◌, ℕ, zero, suc, ◌<◌, List, [], ◌∷◌, length, slice_index_or, refl, sym, subst, ◌∙◌, arith}
use Rattle.std.specs.List.{Contains}
use Rattle.std.proofs.lemmas.List.Elements.{Contains-get_or}

pub at_place : (texts : List (List ℕ)) (k : ℕ) (text : List ℕ) → k < length texts →
    text ≡ slice_index_or texts k [] → Contains texts text
at_place texts k text lt e = subst (Contains texts) (sym e) (Contains-get_or texts k [] lt)

same_at : (texts : List (List ℕ)) (k : ℕ) (one other : List ℕ) → k < length texts →
    slice_index_or texts k one ≡ slice_index_or texts k other
same_at [] k one other lt = absurd (omega arith)
same_at (t ∷ ts) zero one other lt = refl
same_at (t ∷ ts) (suc k) one other lt = same_at ts k one other (omega arith)

pub place_of : (texts : List (List ℕ)) (text : List ℕ) → Contains texts text →
    (k : ℕ) × (k < length texts) × (slice_index_or texts k [] ≡ text)
place_of texts text h = (h.0, h.1, same_at texts h.0 [] text h.1 ∙ h.2)
