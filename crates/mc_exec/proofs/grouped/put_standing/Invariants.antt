-- So far what stands for the groups in front of this one.
use Rattle.std.proofs.Common.{◌≡◌, map, take}
use Rattle.std.specs.List.{zip}
use Rattle.mc_exec.specs.Shown.{standing}
use Rattle.mc_exec.proofs.grouped.put_standing.Given as goal

abbrev pub invariant-loop-i : goal.invariant-loop-i
invariant-loop-i l = l.subjects
    ≡ map (λ it. standing l.nulls it.0 it.1) (zip (take l.i l.groups) (take l.i l.values))
