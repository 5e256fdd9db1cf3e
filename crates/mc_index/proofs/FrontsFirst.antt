-- Entries sorted by their fronts first are sorted.
use Rattle.std.proofs.Common.{◌≡◌, ℕ, ◌+◌, ◌<◌, false, List, get_or, refl, ap, ◌∙◌, arith}
use Rattle.std.specs.List.Sorted.{IsSorted}
use Rattle.std.specs.Cmp.{IsTotalOrder}
use Rattle.std.specs.Ordering.{is_lt, nat_cmp, on, ordering_then}
use Rattle.std.specs.declared.cmp.Ordering.{Ordering}
use Rattle.std.specs.declared.cmp.Ordering.TheVariants.{Less, Equal, Greater}
use Rattle.std.proofs.lemmas.Cmp.{nat_cmp_total, on_total, ranked, then_total}
use Rattle.mc_order.specs.declared.pad.Pad.{Pad}
use Rattle.mc_order.specs.Order.{list_order}
use Rattle.mc_key.specs.Fronts.{FrontsDecide, front_of}
use Rattle.mc_index.specs.declared.entry.Entry.{Entry}
use Rattle.mc_index.specs.Entries.{entry_order}
use Rattle.mc_index.specs.Held.{AreKeyed, IsKeyed, fronts_first, seen}
use Rattle.mc_index.proofs.Ordered.{entry_total}

pub fronts_total : ((pad : Pad) (space : ℕ) → IsTotalOrder (list_order pad space)) →
    (pad : Pad) (space : ℕ) → IsTotalOrder (fronts_first pad space)
fronts_total lists pad space =
    then_total (on_total (λ (entry : Entry). entry.front) nat_cmp_total)
    (on_total seen (entry_total lists pad space))

-- The front of an entry of this padding and space is its key's in them.
front_is : (pad : Pad) (space : ℕ) (entry : Entry) → IsKeyed pad space entry →
    entry.front ≡ front_of pad space entry.key.weights
front_is pad space entry keyed =
    entry.is_front ∙ ap (λ p. front_of p entry.key.space entry.key.weights) keyed.0
    ∙ ap (λ s. front_of pad s entry.key.weights) keyed.1

above : (order rest : Ordering) → order ≡ Greater → is_lt (ordering_then order rest) ≡ false
above order rest e = ap (λ o. is_lt (ordering_then o rest)) e

by_front : (pad : Pad) (space : ℕ) (a b : Entry) (order : Ordering) → FrontsDecide →
    IsKeyed pad space a → IsKeyed pad space b → order ≡ nat_cmp a.front b.front →
    is_lt (ordering_then order (entry_order pad space (seen a) (seen b))) ≡ false →
    is_lt (entry_order pad space (seen a) (seen b)) ≡ false
by_front pad space a b Less decide ka kb is h = absurd cc
by_front pad space a b Equal decide ka kb is h = h
by_front pad space a b Greater decide ka kb is h =
    let more : b.front < a.front = ranked a.front b.front Greater is in
    let e = front_is pad space a ka in
    let f = front_is pad space b kb in
    above (list_order pad space a.key.weights b.key.weights) (nat_cmp a.row b.row)
    ((decide pad space a.key.weights b.key.weights).1 (omega (arith, more, e, f)))

pub sorted_by_lists : FrontsDecide → (pad : Pad) (space : ℕ) (entries : List Entry) →
    AreKeyed pad space entries → IsSorted (fronts_first pad space) entries →
    IsSorted (on seen (entry_order pad space)) entries
sorted_by_lists decide pad space entries keyed sorted k d low within =
    let a = get_or entries (k + 1) d in
    let b = get_or entries k d in
    by_front pad space a b (nat_cmp a.front b.front) decide
    (keyed (k + 1) d (omega (arith, within))) (keyed k d (omega (arith, within))) refl
    (sorted k d low within)
