use Rattle.std.proofs.Common.{rules}
use Rattle.std.specs.Ordering.{is_lt}
use Rattle.std.proofs.lemmas.Fn.{always_returns_same}
use Rattle.std.proofs.lemmas.List.Sorted.{All-permutation, ranks_by}
use Rattle.mc_index.specs.Held.{IsKeyed, fronts_first}
use Rattle.mc_index.proofs.FrontsFirst.{fronts_total, sorted_by_lists}
use Rattle.mc_index.proofs.sorting.sort_entries.Goals as goal

pub returns-clause-sorted : goal.returns-clause-sorted
returns-clause-sorted c =
    sorted_by_lists c.front_law.ensures c.args.pad c.args.space
    c.sort_unstable_by.new.self.items
    (All-permutation (IsKeyed c.args.pad c.args.space) c.args.entries.now.items
    c.sort_unstable_by.new.self.items c.sort_unstable_by.ensures.permutation c.requires.keyed)
    (c.sort_unstable_by.ensures.sorted
    (λ a b. is_lt (fronts_first c.args.pad c.args.space a b))
    (ranks_by (fronts_total c.order_laws.ensures.total c.args.pad c.args.space) (λ e. e))
    (always_returns_same _ _ _ (λ a r f k. search rules)))
