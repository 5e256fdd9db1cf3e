-- So far the aggregates of the expressions in front of this one are appended.
use Rattle.std.proofs.Common.{◌≡◌, ◌++◌, drop, map}
use Rattle.std.specs.List.{flat_map}
use Rattle.mc_exec.specs.Aggregates.{aggregates_of}
use Rattle.mc_exec.proofs.collected.+collect.Given as goal

abbrev pub invariant-put_each-loop-x : goal.invariant-put_each-loop-x
invariant-put_each-loop-x l =
    map (λ x. x.now) l.found ++ flat_map aggregates_of (drop l.x-index l.xs)
    ≡ map (λ x. x.now) l.initial.found ++ flat_map aggregates_of l.xs
