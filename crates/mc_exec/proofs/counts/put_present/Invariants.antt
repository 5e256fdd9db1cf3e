-- So far those of the values in front of this one.
use Rattle.std.proofs.Common.{◌≡◌, ◌++◌, ◌∷◌, [], drop, map}
use Rattle.mc_exec.specs.Aggregates.{present}
use Rattle.mc_exec.proofs.counts.put_present.Given as goal

abbrev pub invariant-loop-it : goal.invariant-loop-it
invariant-loop-it l = l.rows ++ map (λ it. it ∷ []) (present (drop l.it-index l.values))
    ≡ map (λ it. it ∷ []) (present l.values)
