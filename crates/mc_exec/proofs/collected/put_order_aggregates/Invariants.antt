-- So far the aggregates of the keys in front of this one are appended.
use Rattle.std.proofs.Common.{◌≡◌, ◌++◌, drop, map}
use Rattle.std.specs.List.{flat_map}
use Rattle.mc_exec.specs.Aggregates.{aggregates_of}
use Rattle.mc_exec.proofs.collected.put_order_aggregates.Given as goal

abbrev pub invariant-loop-key : goal.invariant-loop-key
invariant-loop-key l =
    map (λ x. x.now) l.found ++ flat_map (λ key. aggregates_of key.expr) (drop l.key-index l.orders)
    ≡ map (λ x. x.now) l.initial.found ++ flat_map (λ key. aggregates_of key.expr) l.orders
