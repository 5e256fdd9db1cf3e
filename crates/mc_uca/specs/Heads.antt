-- The weights of the characters that begin contractions.
use Rattle.std.specs.Prelude.{ℕ, List, map, take}
use Rattle.mc_order.specs.Tails.{ascending}

-- the lists of the first characters of texts, in lexicographic order, each once
abbrev pub heads_of : (List ℕ → List ℕ) → List (List ℕ) → List (List ℕ)
heads_of list texts = ascending (map (λ text. list (take 1 text)) texts)
