use Rattle.std.proofs.Common.{◌≡◌, ◌<◌, ◌≤◌, ℕ, List, [], ◌∷◌, length, slice_index_or}
use Rattle.mc_allkeys.specs.Table.{contractions_of}
use Rattle.mc_uca.specs.Reach.{reach_at}
use Rattle.mc_uca.proofs.reach.Reach.of.Given as goal

abbrev pub invariant-loop-i : goal.invariant-loop-i
invariant-loop-i l =
    (k code : ℕ) (rest : List ℕ) → k < l.i →
    slice_index_or (contractions_of l.fn.keys.entries) k [] ≡ code ∷ rest →
    length (code ∷ rest) ≤ reach_at l.reach code
