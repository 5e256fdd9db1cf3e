-- So far as many groups as turns.
use Rattle.std.proofs.Common.{◌≡◌, []}
use Rattle.mc_exec.specs.Grouped.{parted}
use Rattle.mc_exec.proofs.groups.open_groups.Given as goal

abbrev pub invariant-loop-turn : goal.invariant-loop-turn
invariant-loop-turn l = l.groups ≡ parted l.turn [] []
