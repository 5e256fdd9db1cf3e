-- Lists put among ascending ones, and so the tails of some prefixes of a contraction.
use Rattle.std.specs.Prelude.{◌≡◌, ℕ, ◌≤◌, List, [], ◌∷◌, ◌++◌, length, map}
use Rattle.std.specs.Prelude.{filter, take, drop}
use Rattle.mc_order.specs.Tails.{insert_list, ascending, has_members}

-- ascending lists with these in their places
abbrev pub inserts : List (List ℕ) → List (List ℕ) → List (List ℕ)
inserts [] lists = lists
inserts (x ∷ xs) lists = insert_list x (inserts xs lists)

-- the tails of some prefixes
abbrev pub tails_with :
    (List ℕ → List ℕ) → List (List ℕ) → List (List ℕ) → List (List ℕ)
tails_with first prefixes lists = inserts (filter has_members (map first prefixes)) lists

-- The lists are some lists in order, each once.
abbrev pub AreAscending : List (List ℕ) → Type 0
AreAscending lists = (some : List (List ℕ)) × (lists ≡ ascending some)

-- The place among lists where a list has to be put.
abbrev pub IsPlace : List ℕ → List (List ℕ) → ℕ → Type 0
IsPlace list lists place =
    (place ≤ length lists)
    × (insert_list list lists ≡ take place lists ++ list ∷ drop place lists)
