use Rattle.std.proofs.Common.{rules}
use Rattle.std.proofs.lemmas.List.Sorted.{IsNonDecreasingBy-from_sort_by}
use Rattle.mc_gather.proofs.gather.sort_runs.Goals as goal

pub returns-clause-sorted : goal.returns-clause-sorted
returns-clause-sorted c =
    IsNonDecreasingBy-from_sort_by (λ run. run.first) _ c.sort_unstable_by.ensures.sorted
    (λ a r f k. search rules)
