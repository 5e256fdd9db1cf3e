use Rattle.std.proofs.Common.{◌≡◌, ◌≤◌, ◌+◌, ◌-◌, length, drop}
use Rattle.std.specs.List.{prefix_len}
use Rattle.mc_range.specs.Safe.{is_safe}
use Rattle.mc_range.proofs.safe.safe_len.Given as goal

abbrev pub invariant-loop-len : goal.invariant-loop-len
invariant-loop-len g l =
    let safe = is_safe (g.C.Collation.meaning l.collation) in
    (l.len ≤ length l.codes)
    × (l.len + prefix_len safe (drop l.len l.codes) ≡ prefix_len safe l.codes)

abbrev pub decreases-loop-len : goal.decreases-loop-len
decreases-loop-len g l = length l.codes - l.len
