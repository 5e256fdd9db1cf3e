-- What is held has the padding and the space of its collation.
use Rattle.std.proofs.Common.{◌≡◌, ℕ, List, Some, None, refl, sym, ap, subst, ◌∙◌}
use Rattle.std.specs.Prelude.{IsSomeAnd, Option, option_and_then, slice_get}
use Rattle.mc_catalog.specs.declared.catalog.Catalog.{Catalog}
use Rattle.mc_catalog.specs.declared.catalog.IndexDecl.{IndexDecl}
use Rattle.mc_charset.specs.declared.collation_id.CollId.{CollId}
use Rattle.mc_gather.specs.Indexed.{FitBook, rows_in}
use Rattle.mc_gather.specs.PlanLaws.{HeldIsFound, IsHeldFor, held_at}
use Rattle.mc_index.specs.Entries.{SeenIndex}
use Rattle.mc_order.specs.Meaning.{Meaning}
use Rattle.mc_plan.specs.Plans.{index_collation, indexes_at}
use Rattle.mc_typing.specs.SoundStatements.{columns_at}
use Rattle.mc_values.specs.declared.value.Value.{Value}

pub held_alike : (c : Catalog) (meaning : ℕ → Meaning) (rows : List (List (List Value)))
    (indexes : List (List SeenIndex)) (place index : ℕ) (coll : CollId) (m : Meaning)
    (held : SeenIndex) → m ≡ meaning coll.0 → HeldIsFound → FitBook c meaning rows indexes
    → Some coll ≡ option_and_then (λ it. index_collation (columns_at c (Some place)) it)
    (slice_get (indexes_at c (Some place)) index)
    → Some held ≡ held_at indexes place index
    → (held.pad ≡ m.pad) × (held.space ≡ m.space)
held_alike c meaning rows indexes place index coll m held of found fits named is =
    by (slice_get (indexes_at c (Some place)) index) refl named
  where
    by : (o : Option IndexDecl) → slice_get (indexes_at c (Some place)) index ≡ o
        → Some coll ≡ option_and_then (λ it. index_collation (columns_at c (Some place)) it) o
        → (held.pad ≡ m.pad) × (held.space ≡ m.space)
    by None e n = absurd (cc)
    by (Some it) e n =
        let h : IsHeldFor (meaning coll.0) it (rows_in rows place) held =
        subst (λ o. IsSomeAnd o (IsHeldFor (meaning coll.0) it (rows_in rows place))) (sym is)
        (found c meaning rows indexes place index it coll fits e (sym n)) in (
          h.pad ∙ sym (ap (λ (n : Meaning). n.pad) of),
          h.space ∙ sym (ap (λ (n : Meaning). n.space) of),
        )
