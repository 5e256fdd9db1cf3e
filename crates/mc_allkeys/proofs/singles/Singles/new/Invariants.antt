use Rattle.std.proofs.Common.{◌≡◌, ℕ, [], length, slice_index_or}
use Rattle.mc_allkeys.proofs.singles.Singles.new.Given as goal

abbrev pub invariant-loop : goal.invariant-loop
invariant-loop l = record {
  sizes : length l.pages.items ≡ l.counter;
  empty : (k : ℕ) → slice_index_or l.pages.items k [] ≡ [];
}
