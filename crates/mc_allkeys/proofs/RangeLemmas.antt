-- The first range of a list that passes a test, found from the front.
use Rattle.std.proofs.Common.{◌≡◌, ℕ, ◌+◌, ◌<◌, ◌≤◌, Bool, true, false, List, length, drop, get_or, Some, None, sym, ◌∙◌}
use Rattle.std.specs.List.{find}
use Rattle.std.proofs.lemmas.List.{at_drop_more, at_drop_all}
use Rattle.mc_allkeys.specs.declared.range.Range.{Range}

-- Here it is.
pub find_here : (p : Range → Bool) (xs : List Range) (i : ℕ) (d : Range) → i < length xs →
    find p (drop i xs) ≡ find p xs → p (get_or xs i d) ≡ true → find p xs ≡ Some (get_or xs i d)
find_here p xs i d h e t =
    let here = at_drop_more (find p) xs i d h in sym e ∙ (rw t at here)

-- It isn't here.
pub find_next : (p : Range → Bool) (xs : List Range) (i : ℕ) (d : Range) → i < length xs →
    find p (drop i xs) ≡ find p xs → p (get_or xs i d) ≡ false → find p (drop (i + 1) xs) ≡ find p xs
find_next p xs i d h e t =
    let here = at_drop_more (find p) xs i d h in sym (rw t at here) ∙ e

-- There is none.
pub find_past : (p : Range → Bool) (xs : List Range) (i : ℕ) → length xs ≤ i →
    find p (drop i xs) ≡ find p xs → find p xs ≡ None
find_past p xs i h e = sym e ∙ at_drop_all (find p) xs i h
