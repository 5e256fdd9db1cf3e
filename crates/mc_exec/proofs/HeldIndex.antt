-- The index that is held for a plan, and what seeking in it costs.
use Rattle.std.proofs.Common.{◌≡◌, ℕ, ◌+◌, ◌*◌, ◌<◌, ◌≤◌, Bor, List, Option, None, Some, ap, length}
use Rattle.std.proofs.Common.{refl}
use Rattle.std.proofs.Common.{subst, sym, ◌∙◌}
use Rattle.std.specs.Option.{option_map_or}
use Rattle.std.specs.Prelude.{IsSome, IsSomeAnd, option_map, slice_get}
use Rattle.mc_catalog.specs.declared.catalog.Catalog.{Catalog}
use Rattle.mc_catalog.specs.declared.catalog.IndexDecl.{IndexDecl}
use Rattle.mc_charset.specs.declared.collation_id.CollId.{CollId}
use Rattle.mc_gather.specs.Indexed.{FitBook, rows_in}
use Rattle.mc_gather.specs.PlanLaws.{HeldIsFound, IsDeclared, IsHeldFor, held_at, seeks, text_count}
use Rattle.mc_index.specs.Digits.{binary_digits}
use Rattle.mc_index.specs.Entries.{SeenIndex}
use Rattle.mc_order.specs.Meaning.{Meaning}
use Rattle.mc_plan.specs.Plans.{index_collation, indexes_at}
use Rattle.mc_plan.specs.declared.plan.Plan.TheVariants.{ByIndex}
use Rattle.mc_range.specs.declared.interval.Interval.{Interval}
use Rattle.mc_typing.specs.SoundStatements.{columns_at}
use Rattle.mc_values.specs.declared.value.Value.{Value}

pub some_of : {A : Type 0} (P : A → Type 0) (o : Option A) → IsSomeAnd o P
    → (x : A) × ((o ≡ Some x) × P x)
some_of P None h = absurd h
some_of P (Some x) h = (x, (refl, h))

is_there : {A : Type 0} (P : A → Type 0) (o : Option A) → IsSomeAnd o P → IsSome o
is_there P None h = absurd h
is_there P (Some x) h = refl

-- What is lent is what is held.
pub lent_is : (lent : Option (Bor SeenIndex)) (held : Bor SeenIndex) (o : Option SeenIndex)
    → option_map (λ it. it.now) lent ≡ o → lent ≡ Some held → o ≡ Some held.now
lent_is lent held o e f = sym e ∙ ap (option_map (λ (it : Bor SeenIndex). it.now)) f

pub lent_none : (lent : Option (Bor SeenIndex)) (o : Option SeenIndex)
    → option_map (λ it. it.now) lent ≡ o → lent ≡ None → o ≡ None
lent_none lent o e f = sym e ∙ ap (option_map (λ (it : Bor SeenIndex). it.now)) f

-- The table at a place declares the index, over a column with this collation.
abbrev pub HasCollation : Catalog → ℕ → ℕ → CollId → Type 0
HasCollation c p index coll = IsSomeAnd (slice_get (indexes_at c (Some p)) index)
    (λ it. index_collation (columns_at c (Some p)) it ≡ Some coll)

declared : (c : Catalog) (p count : ℕ) (o : Option IndexDecl) → IsSomeAnd o
    (λ it. IsSomeAnd (index_collation (columns_at c (Some p)) it) (λ coll. coll.0 < count))
    → IsSomeAnd o (λ it. IsSome (index_collation (columns_at c (Some p)) it))
declared c p count None h = absurd h
declared c p count (Some it) h =
    is_there (λ (coll : CollId). coll.0 < count) (index_collation (columns_at c (Some p)) it) h

pub is_declared : (c : Catalog) (p index count : ℕ)
    → IsSomeAnd (slice_get (indexes_at c (Some p)) index)
    (λ it. IsSomeAnd (index_collation (columns_at c (Some p)) it) (λ coll. coll.0 < count))
    → IsDeclared c p index
is_declared c p index count h =
    declared c p count (slice_get (indexes_at c (Some p)) index) h

module _ (law : HeldIsFound) (c : Catalog) (meaning : ℕ → Meaning)
    (rows : List (List (List Value))) (indexes : List (List SeenIndex)) (p index : ℕ)
    (coll : CollId) (fit : FitBook c meaning rows indexes) (has : HasCollation c p index coll) where
  abbrev pub its : (it : IndexDecl) × ((slice_get (indexes_at c (Some p)) index ≡ Some it)
      × (index_collation (columns_at c (Some p)) it ≡ Some coll))
  its = some_of (λ it. index_collation (columns_at c (Some p)) it ≡ Some coll)
      (slice_get (indexes_at c (Some p)) index) has

  found : IsSomeAnd (held_at indexes p index)
      (IsHeldFor (meaning coll.0) its.0 (rows_in rows p))
  found = law c meaning rows indexes p index its.0 coll fit its.1.0 its.1.1

  -- One is held,
  pub always_held : held_at indexes p index ≡ None → ⊥
  always_held e = subst (λ (o : Option SeenIndex). IsSomeAnd o
      (IsHeldFor (meaning coll.0) its.0 (rows_in rows p))) e found

  -- by this collation,
  pub held_for : (held : SeenIndex) → held_at indexes p index ≡ Some held
      → IsHeldFor (meaning coll.0) its.0 (rows_in rows p) held
  held_for held e = subst (λ (o : Option SeenIndex). IsSomeAnd o
      (IsHeldFor (meaning coll.0) its.0 (rows_in rows p))) e found

  -- and what seeking in it takes is what the plan's seeks take.
  pub seeks_within : (held : SeenIndex) → held_at indexes p index ≡ Some held
      → (conjunct : ℕ) (intervals : List Interval) (old new : ℕ)
      → new ≤ old + length intervals * (2 * binary_digits (length held.entries))
      → new ≤ old + seeks c (Some p) (ByIndex index conjunct intervals) (rows_in rows p)
  seeks_within held e conjunct intervals old new h =
      let most = λ (n : ℕ). length intervals * (2 * binary_digits n) in
      let is : most (length held.entries)
      ≡ seeks c (Some p) (ByIndex index conjunct intervals) (rows_in rows p) =
      ap most (held_for held e).counted
      ∙ sym (ap (λ (o : Option IndexDecl). option_map_or
      (λ it. most (text_count it (rows_in rows p))) o 0) its.1.0) in
      subst (λ (n : ℕ). new ≤ old + n) is h
