use Rattle.std.proofs.Common.{rules}
use Rattle.std.specs.Ordering.{is_lt}
use Rattle.std.proofs.lemmas.Fn.{always_returns_same}
use Rattle.std.proofs.lemmas.List.Sorted.{All-permutation, ranks_by}
use Rattle.mc_group.specs.declared.entry.Entry.{Entry}
use Rattle.mc_group.specs.Fronts.{IsFronted, fronts_first}
use Rattle.mc_group.proofs.FrontsFirst.{fronts_total, sorted_by_cells}
use Rattle.mc_group.proofs.order.sort_entries.Goals as goal

pub returns-clause-sorted : goal.returns-clause-sorted
returns-clause-sorted c =
    sorted_by_cells c.front_law.ensures c.args.columns.now c.sort_unstable_by.new.self.items
    (All-permutation (IsFronted c.args.columns.now) c.args.entries.now.items
    c.sort_unstable_by.new.self.items c.sort_unstable_by.ensures.permutation c.requires.fronted)
    (c.sort_unstable_by.ensures.sorted
    (λ a b. is_lt (fronts_first c.args.columns.now a b))
    (ranks_by (fronts_total c.order_laws.ensures.total c.args.columns.now) (λ (e : Entry). e))
    (always_returns_same _ _ _ (λ a r f k. search rules)))
