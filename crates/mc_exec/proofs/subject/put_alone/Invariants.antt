-- So far the rows in front of this one.
use Rattle.std.proofs.Common.{◌≡◌, map, take}
use Rattle.mc_exec.specs.Given.{alone}
use Rattle.mc_exec.proofs.subject.put_alone.Given as goal

abbrev pub invariant-loop-row : goal.invariant-loop-row
invariant-loop-row l = l.subjects ≡ map alone (map (λ row. row.now) (take l.row-index l.rows))
