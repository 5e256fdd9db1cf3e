use Rattle.std.proofs.Common.{sym, subst}
use Rattle.std.proofs.lemmas.List.Sorted.{All-permutation}
use Rattle.mc_index.specs.Entries.{IsSealed, SeenIndex}
use Rattle.mc_index.specs.Held.{IsKeyed, seen_index}
use Rattle.mc_index.proofs.Ordered.{is_sealed, sorted_ascend, still_apart}
use Rattle.mc_index.proofs.builder.IndexBuilder.seal.Goals as goal

pub of_sorted-requires-clause-keyed : goal.of_sorted-requires-clause-keyed
of_sorted-requires-clause-keyed c =
    All-permutation (IsKeyed c.self.inside.pad c.self.inside.space) c.self.inside.entries.items
    c.sort_entries.new.entries.items c.sort_entries.ensures.permutation c.self.invariant.0

pub of_sorted-requires-clause-apart : goal.of_sorted-requires-clause-apart
of_sorted-requires-clause-apart c =
    still_apart c.self.inside.entries.items c.sort_entries.new.entries.items
    c.sort_entries.ensures.permutation c.self.invariant.1

pub of_sorted-requires-clause-ordered : goal.of_sorted-requires-clause-ordered
of_sorted-requires-clause-ordered c =
    sorted_ascend c.order_laws.ensures.total c.self.inside.pad c.self.inside.space
    c.self.inside.entries.items c.sort_entries.new.entries.items c.self.invariant.1
    c.sort_entries.ensures.permutation c.sort_entries.ensures.sorted

pub returns : goal.returns
returns c =
    subst (λ (added : SeenIndex). IsSealed added c.of_sorted.result) c.self.view_is
    (subst
    (λ (index : SeenIndex). IsSealed
    (seen_index c.self.inside.pad c.self.inside.space c.self.inside.entries.items) index)
    (sym c.of_sorted.ensures)
    (is_sealed c.self.inside.pad c.self.inside.space c.self.inside.entries.items
    c.sort_entries.new.entries.items c.sort_entries.ensures.permutation
    (sorted_ascend c.order_laws.ensures.total c.self.inside.pad c.self.inside.space
    c.self.inside.entries.items c.sort_entries.new.entries.items c.self.invariant.1
    c.sort_entries.ensures.permutation c.sort_entries.ensures.sorted)))
