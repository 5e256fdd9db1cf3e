-- What holds of each row holds of each row of a group.
use Rattle.std.proofs.Common.{◌≡◌, ℕ, zero, suc, ◌+◌, true, false, List, [], ◌∷◌, Some, None}
use Rattle.std.proofs.Common.{map, subst, length}
use Rattle.std.proofs.lemmas.List.Elements.{All-from_recursion, recursion_from_All}
use Rattle.std.specs.List.{AllByRecursion, range_with_len}
use Rattle.std.specs.Prelude.{All, Option, nat_eq, option_map, if◌then◌else◌}
use Rattle.mc_order.specs.Meaning.{Meaning}
use Rattle.mc_typing.specs.declared.typed.TypedExpr.{TypedExpr}
use Rattle.mc_values.specs.declared.value.Value.{Value}
use Rattle.mc_exec.specs.Given.{alone, values_of}
use Rattle.mc_exec.specs.Grouped.{grouped, groups_by, numbered, value_kinds}
use Rattle.mc_group.specs.Groups.{firsts, group_numbers, same_row}

numbered_each : {R : Type 0} (P : R → Type 0) (n : ℕ) (numbers : List ℕ) (rows : List R)
    → AllByRecursion P rows → AllByRecursion P (numbered n numbers rows)
unfolding numbered
numbered_each P n [] rows h = tt
numbered_each P n (m ∷ numbers) [] h = tt
numbered_each P n (m ∷ numbers) (row ∷ rows) h = elim (nat_eq m n) as (λ b. AllByRecursion P
    (if b then row ∷ numbered n numbers rows else numbered n numbers rows)) [
      | true ↦ (h.0, numbered_each P n numbers rows h.1)
      | false ↦ numbered_each P n numbers rows h.1
    ]

parted_each : {R : Type 0} (P : R → Type 0) (numbers : List ℕ) (rows : List R) (a n : ℕ)
    → AllByRecursion P rows
    → AllByRecursion (All P) (map (λ k. numbered k numbers rows) (range_with_len a n))
parted_each P numbers rows a zero h = tt
parted_each P numbers rows a (suc n) h = (
  All-from_recursion P (numbered a numbers rows) (numbered_each P a numbers rows h),
  parted_each P numbers rows (a + 1) n h,
)

mapped_each : {A B : Type 0} (P : B → Type 0) (f : A → B) (o : Option A) (y : B)
    → option_map f o ≡ Some y → ((x : A) → P (f x)) → P y
mapped_each P f None y e h = absurd (cc)
mapped_each P f (Some x) y e h = let same : f x ≡ y = cc in subst P same (h x)

pub groups_each : (P : List Value → Type 0) (meaning : ℕ → Meaning) (exprs : List TypedExpr)
    (rows : List (List Value)) (groups : List (List (List Value)))
    → groups_by meaning exprs rows ≡ Some groups → All P rows → AllByRecursion (All P) groups
groups_each P meaning [] rows groups e h =
    let same : rows ∷ [] ≡ groups = cc in subst (AllByRecursion (All P)) same (h, tt)
groups_each P meaning (x ∷ exprs) rows groups e h =
    let same = same_row meaning (value_kinds (x ∷ exprs)) in
    mapped_each (AllByRecursion (All P)) (λ keys. grouped same keys rows)
    (values_of meaning (x ∷ exprs) (map alone rows)) groups e
    (λ keys. parted_each P (group_numbers same keys) rows 0 (length (firsts same keys))
    (recursion_from_All P rows h))
