use Rattle.std.proofs.Common.{◌≡◌, ◌≤◌, ◌-◌, ◌++◌, length, take, drop}
use Rattle.mc_order.specs.Consequences.{before_separator}
use Rattle.mc_range.proofs.lists.first_len.Given as goal

abbrev pub invariant-loop-len : goal.invariant-loop-len
invariant-loop-len l =
    (l.len ≤ length l.list)
    × (take l.len l.list ++ before_separator (drop l.len l.list) ≡ before_separator l.list)

abbrev pub decreases-loop-len : goal.decreases-loop-len
decreases-loop-len l = length l.list - l.len
