-- So far those in front of this one.
use Rattle.std.proofs.Common.{◌≡◌, ◌++◌, drop, length}
use Rattle.mc_exec.specs.Steps.{picked}
use Rattle.mc_exec.proofs.distinct.put_picked.Given as goal

abbrev pub invariant-loop-i : goal.invariant-loop-i
invariant-loop-i l = l.firsts ++ picked (length l.firsts) (drop l.i l.numbers) (drop l.i l.subjects)
    ≡ picked 0 l.numbers l.subjects
