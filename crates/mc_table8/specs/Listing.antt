-- What the lines of a weight file list: MySQL 8.0 manual, 10.14.3.
use Rattle.std.specs.Prelude.{ℕ, Bool, true, false, List, [], ◌∷◌, Option, Some, None}
use Rattle.std.specs.Prelude.{if◌then◌else◌}
use Rattle.std.specs.List.{list_any}
use Rattle.std.specs.Option.{option_or}
use Rattle.mc_table8.specs.Runs.{lists_code, weight_in, is_overlap}
use Rattle.mc_table8.specs.declared.weight_line.WeightLine.{WeightLine}
use Rattle.mc_table8.specs.declared.weight_line.WeightLine.TheVariants.{Rest, Listed}

-- a weight and maybe a second one, where a code has any
abbrev pub Cell : Type 0
Cell = Option (ℕ × Option ℕ)

-- the weights that a line gives a code, if it lists it
abbrev pub weights_by : WeightLine → ℕ → Cell
weights_by Rest code = None
weights_by (Listed run second) code =
    if lists_code run code then Some (weight_in run code, second) else None

-- the weights that the first line to list a code gives it
abbrev pub listed_weights : List WeightLine → ℕ → Cell
listed_weights [] code = None
listed_weights (line ∷ lines) code = option_or (weights_by line code) (listed_weights lines code)

-- whether a line is `default =`
abbrev pub is_rest : WeightLine → Bool
is_rest Rest = true
is_rest (Listed run second) = false

-- whether `default =` is among lines
abbrev pub has_rest : List WeightLine → Bool
has_rest lines = list_any is_rest lines

-- whether a line says again what another one does: a code that it lists, or the default
abbrev pub repeats : WeightLine → WeightLine → Bool
repeats Rest Rest = true
repeats (Listed one _) (Listed other _) = is_overlap one other
repeats _ _ = false

-- the weights of a code: those of the line that lists it, else with `default =` the code itself
abbrev pub weights_of : List WeightLine → ℕ → Cell
weights_of lines code =
    option_or (listed_weights lines code) (if has_rest lines then Some (code, None) else None)
