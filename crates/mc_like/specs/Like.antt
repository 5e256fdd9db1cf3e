-- LIKE, character by character: MySQL 8.0 manual, 12.8.1, LIKE.
use Rattle.std.specs.Prelude.{ℕ, zero, suc, Bool, true, false, ◌&&◌, ◌||◌}
use Rattle.std.specs.Prelude.{List, [], ◌∷◌, drop, length, ⊤}
use Rattle.std.specs.Str.{bytes_eq}
use Rattle.mc_order.specs.Meaning.{Meaning, flat_list}
use Rattle.mc_order.specs.Consequences.{IsSameChar}
use Rattle.mc_like.specs.declared.item.PatternItem.{PatternItem}
use Rattle.mc_like.specs.declared.item.PatternItem.TheVariants.{Literal, One, Any}

-- The characters match the items: a literal one character of its own flat list, `_` any one, and
-- `%` those up to some cut, wherever the rest matches behind it.
unfoldable pub Like : Meaning → List PatternItem → List ℕ → Type 0
Like m [] [] = ⊤
Like m [] (code ∷ codes) = ⊥
Like m (Literal literal ∷ items) [] = ⊥
Like m (Literal literal ∷ items) (code ∷ codes) =
    IsSameChar m literal code × Like m items codes
Like m (One ∷ items) [] = ⊥
Like m (One ∷ items) (code ∷ codes) = Like m items codes
Like m (Any ∷ items) codes = (cut : ℕ) × Like m items (drop cut codes)

-- whether two characters have one flat list
abbrev pub is_same_char : Meaning → ℕ → ℕ → Bool
is_same_char m literal code =
    bytes_eq (flat_list m (literal ∷ [])) (flat_list m (code ∷ []))

-- whether a number passes the test, up to the greatest
abbrev pub some_up_to : (ℕ → Bool) → ℕ → Bool
some_up_to test zero = test zero
some_up_to test (suc greatest) = test (suc greatest) || some_up_to test greatest

-- whether the characters match the items, with the cuts up to their number
unfoldable pub is_like : Meaning → List PatternItem → List ℕ → Bool
is_like m [] [] = true
is_like m [] (code ∷ codes) = false
is_like m (Literal literal ∷ items) [] = false
is_like m (Literal literal ∷ items) (code ∷ codes) =
    is_same_char m literal code && is_like m items codes
is_like m (One ∷ items) [] = false
is_like m (One ∷ items) (code ∷ codes) = is_like m items codes
is_like m (Any ∷ items) codes =
    some_up_to (λ cut. is_like m items (drop cut codes)) (length codes)
