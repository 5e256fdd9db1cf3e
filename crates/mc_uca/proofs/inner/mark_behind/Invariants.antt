use Rattle.std.proofs.Common.{◌≡◌, ◌<◌, ◌≤◌, ℕ, true, slice_index_or}
use Rattle.mc_uca.specs.Inner.{inner_at}
use Rattle.mc_uca.proofs.inner.mark_behind.Given as goal

abbrev pub invariant-loop-k : goal.invariant-loop-k
invariant-loop-k l = record {
  kept : (c : ℕ) → inner_at l.fn.marks.items c ≡ true → inner_at l.marks.items c ≡ true;
  noted : (j : ℕ) → 1 ≤ j → j < l.k → inner_at l.marks.items (slice_index_or l.text j 0) ≡ true;
}
