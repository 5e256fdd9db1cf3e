-- Groups of rows: MySQL 8.0 manual, 13.2.10, GROUP BY.
use Rattle.std.specs.Prelude.{ℕ, Bool, nat_eq, List, [], ◌∷◌, length, map, Option, Some, option_map}
use Rattle.std.specs.Prelude.{if◌then◌else◌}
use Rattle.std.specs.List.{range_with_len}
use Rattle.mc_group.specs.Groups.{firsts, group_numbers, same_row}
use Rattle.mc_group.specs.declared.kind.KeyKind.{KeyKind}
use Rattle.mc_order.specs.Meaning.{Meaning}
use Rattle.mc_typing.specs.declared.typed.TypedExpr.{TypedExpr}
use Rattle.mc_values.specs.declared.value.Value.{Value}
use Rattle.mc_exec.specs.Given.{alone, values_of}
use Rattle.mc_exec.specs.Ordered.{kind_of}

-- The members that have a number, of those that have these numbers, in their order.
unfoldable pub numbered : {R : Type 0} → ℕ → List ℕ → List R → List R
numbered n [] rows = []
numbered n (m ∷ numbers) [] = []
numbered n (m ∷ numbers) (row ∷ rows) =
    if nat_eq m n then row ∷ numbered n numbers rows else numbered n numbers rows

-- The members of each number below a count.
abbrev pub parted : {R : Type 0} → ℕ → List ℕ → List R → List (List R)
parted count numbers rows = map (λ n. numbered n numbers rows) (range_with_len 0 count)

-- Members by the classes of their keys, in the order of the first ones.
abbrev pub grouped : {K R : Type 0} → (K → K → Bool) → List K → List R → List (List R)
grouped same keys rows = parted (length (firsts same keys)) (group_numbers same keys) rows

-- What the values of expressions are compared as.
abbrev pub value_kinds : List TypedExpr → List KeyKind
value_kinds exprs = map (λ e. kind_of e.ty) exprs

-- The groups of rows by expressions: rows whose values are all the same, NULL the same as NULL.
-- Without an expression all rows are one group, even where there is none. None where a value is a
-- fault.
abbrev pub groups_by : (ℕ → Meaning) → List TypedExpr → List (List Value)
    → Option (List (List (List Value)))
groups_by meaning [] rows = Some (rows ∷ [])
groups_by meaning exprs rows =
    option_map (λ keys. grouped (same_row meaning (value_kinds exprs)) keys rows)
    (values_of meaning exprs (map alone rows))
