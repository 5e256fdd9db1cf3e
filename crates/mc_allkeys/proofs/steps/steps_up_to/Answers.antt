use Rattle.std.proofs.Common.{leb, leb-true, leb-false, arith, rules}
use Rattle.std.proofs.lemmas.List.Sorted.{IsPartitionPoint-from_clause, IsPartitionedBy-leb}
use Rattle.mc_allkeys.specs.declared.steps.Step.{Step}
use Rattle.mc_allkeys.proofs.steps.steps_up_to.Goals as goal

pub returns-clause-up_to : goal.returns-clause-up_to
returns-clause-up_to c =
    let parted = IsPartitionedBy-leb (λ (s : Step). s.start) _ c.args.code c.requires in
    let point = IsPartitionPoint-from_clause (λ (s : Step). leb s.start c.args.code) _ _
    c.partition_point.ensures.partitioned parted (λ a r q k. search rules) in
    λ k d h. leb-true _ _ (point.0 k d (omega arith) h)

pub returns-clause-above : goal.returns-clause-above
returns-clause-above c =
    let parted = IsPartitionedBy-leb (λ (s : Step). s.start) _ c.args.code c.requires in
    let point = IsPartitionPoint-from_clause (λ (s : Step). leb s.start c.args.code) _ _
    c.partition_point.ensures.partitioned parted (λ a r q k. search rules) in
    λ k d le lt. leb-false _ _ (point.1 k d le lt)
