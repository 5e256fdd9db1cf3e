-- So far the rows in front of this one are in their groups.
use Rattle.std.proofs.Common.{◌≡◌, length, map, take}
use Rattle.mc_exec.specs.Grouped.{parted}
use Rattle.mc_exec.proofs.groups.put_numbered.Given as goal

abbrev pub invariant-loop-i : goal.invariant-loop-i
invariant-loop-i l = l.groups
    ≡ parted (length l.initial.groups) (take l.i l.numbers) (map (λ row. row.now) (take l.i l.rows))
