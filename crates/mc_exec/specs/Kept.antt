-- The rows that WHERE keeps: MySQL 8.0 manual, 13.2.10.
use Rattle.std.specs.Prelude.{Bool, true, false, List, Option, Some, None, filter}
use Rattle.std.specs.Prelude.{if◌then◌else◌}
use Rattle.std.specs.List.{list_any}
use Rattle.mc_eval.specs.declared.truth.Truth.{Truth}
use Rattle.mc_eval.specs.declared.truth.Truth.TheVariants.{Faulty, Yes}

abbrev pub is_yes : Truth → Bool
is_yes Yes = true
is_yes it = false

abbrev pub is_faulty : Truth → Bool
is_faulty Faulty = true
is_faulty it = false

-- The rows that are accepted, in their order; none where the acceptance of a row is a fault.
unfoldable pub kept : {R : Type 0} → (R → Truth) → List R → Option (List R)
kept accepted rows = if list_any (λ row. is_faulty (accepted row)) rows then None
    else Some (filter (λ row. is_yes (accepted row)) rows)
