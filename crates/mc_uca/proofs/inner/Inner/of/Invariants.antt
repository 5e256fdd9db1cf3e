use Rattle.std.proofs.Common.{◌≡◌, ◌<◌, ◌≤◌, ℕ, true, [], length, slice_index_or}
use Rattle.mc_allkeys.specs.Table.{contractions_of}
use Rattle.mc_uca.specs.Inner.{inner_at}
use Rattle.mc_uca.proofs.inner.Inner.of.Given as goal

abbrev pub invariant-loop-place : goal.invariant-loop-place
invariant-loop-place l =
    (k j : ℕ) → k < l.place → 1 ≤ j →
    j < length (slice_index_or (contractions_of l.fn.keys.entries) k []) →
    inner_at l.marks.items
    (slice_index_or (slice_index_or (contractions_of l.fn.keys.entries) k []) j 0) ≡ true
