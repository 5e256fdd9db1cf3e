-- Groups of rows with the same key: MySQL 8.0 manual, 13.2.10, GROUP BY and DISTINCT.
use Rattle.std.specs.Prelude.{ℕ, Bool, true, not, ◌&&◌, List, [], ◌∷◌, drop, map}
use Rattle.std.specs.List.{filter, position_or_len}
use Rattle.std.specs.Ordering.{eq_by_cmp}
use Rattle.mc_order.specs.Meaning.{Meaning}
use Rattle.mc_values.specs.declared.value.Value.{Value}
use Rattle.mc_group.specs.declared.kind.KeyKind.{KeyKind}
use Rattle.mc_group.specs.Order.{first_value, value_order}

-- Two values are the same where neither stands before the other: `group_laws` has the cases.
abbrev pub same_value : (ℕ → Meaning) → KeyKind → Value → Value → Bool
same_value meaning of = eq_by_cmp (value_order meaning of)

-- Two key rows are the same where all their values are.
unfoldable pub same_row : (ℕ → Meaning) → List KeyKind → List Value → List Value → Bool
same_row meaning [] one other = true
same_row meaning (of ∷ kinds) one other =
    same_value meaning of (first_value one) (first_value other)
    && same_row meaning kinds (drop 1 one) (drop 1 other)

-- The members that are not the same as an earlier one, in order.
unfoldable pub firsts : {A : Type 0} → (A → A → Bool) → List A → List A
firsts same [] = []
firsts same (x ∷ xs) = x ∷ filter (λ y. not (same x y)) (firsts same xs)

-- The number of each member's group: which of the firsts is the same, counted from 0.
abbrev pub group_numbers : {A : Type 0} → (A → A → Bool) → List A → List ℕ
group_numbers same xs = map (λ x. position_or_len (same x) (firsts same xs)) xs
