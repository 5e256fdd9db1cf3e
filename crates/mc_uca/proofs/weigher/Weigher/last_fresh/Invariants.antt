use Rattle.std.proofs.Common.{◌≡◌, ◌⊎◌, ℕ, ◌≤◌, length, ◌-◌}
use Rattle.mc_uca.proofs.Fronts.{IsFrontOf}
use Rattle.mc_uca.specs.FreshFronts.{IsFreshFront}
use Rattle.mc_uca.specs.Weighing.{set_contractions}
use Rattle.mc_uca.proofs.weigher.Weigher.last_fresh.Given as goal

abbrev pub invariant-loop-at : goal.invariant-loop-at
invariant-loop-at g l = record {
  walked : (count : ℕ) × IsFrontOf g.E.Encoding.set l.fn.a count l.at;
  within_first : l.last ≤ length l.fn.a;
  within_second : l.last ≤ length l.fn.b;
  fresh : (l.last ≡ 0) ⊎ IsFreshFront g.E.Encoding.set
      (set_contractions l.fn.self.charset l.fn.self.keys.entries) l.fn.a l.fn.b l.last;
}

abbrev pub decreases-loop-at : goal.decreases-loop-at
decreases-loop-at g l = length l.fn.a - l.at
