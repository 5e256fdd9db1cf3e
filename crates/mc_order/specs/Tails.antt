-- The tails of contractions (UTS #10, 3.3): the first lists of their proper prefixes.
use Rattle.std.specs.Prelude.{ℕ, Bool, true, false, List, [], ◌∷◌, map, drop}
use Rattle.std.specs.List.{filter, flat_map}
use Rattle.std.specs.Ordering.{match_ordering}
use Rattle.mc_order.specs.declared.pad.Pad.TheVariants.{NoPad}
use Rattle.mc_order.specs.Order.{list_order}

-- Ascending lists with one more in its place; one that is there stays once.
unfoldable pub insert_list : List ℕ → List (List ℕ) → List (List ℕ)
insert_list list [] = list ∷ []
insert_list list (other ∷ others) =
    match_ordering (list_order NoPad 0 list other) (list ∷ other ∷ others) (other ∷ others)
    (other ∷ insert_list list others)

-- The lists in lexicographic order, each once.
unfoldable pub ascending : List (List ℕ) → List (List ℕ)
ascending [] = []
ascending (list ∷ lists) = insert_list list (ascending lists)

-- The prefixes that stop before the end.
unfoldable pub fronts : List ℕ → List (List ℕ)
fronts [] = []
fronts (code ∷ codes) = [] ∷ map (λ front. code ∷ front) (fronts codes)

-- The prefixes that stop before the end and have a character.
abbrev pub proper_prefixes : List ℕ → List (List ℕ)
proper_prefixes codes = drop 1 (fronts codes)

-- The list isn't empty.
abbrev pub has_members : {X : Type 0} → List X → Bool
has_members [] = false
has_members (member ∷ members) = true

-- The first lists, where they have a weight, of the proper prefixes of contractions, in order.
unfoldable pub tails_of : (List ℕ → List ℕ) → List (List ℕ) → List (List ℕ)
tails_of first_list contractions =
    ascending (filter has_members (map first_list (flat_map proper_prefixes contractions)))
