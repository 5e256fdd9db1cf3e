-- Runs of codes, as a line of weights lists them: code `first + i` has the weight `weight + i`.
use Rattle.std.specs.Prelude.{ℕ, Bool, ◌+◌, ◌-◌, ◌&&◌, nat_le, max, min}
use Rattle.mc_table8.specs.declared.run.Run.{Run}

-- the codes from one to another, the first of which has this weight
abbrev pub run_from : ℕ → ℕ → ℕ → Run
run_from code last_code its_weight = record { first = code; last = last_code; weight = its_weight }

-- whether a run begins at or below its end, and neither a code nor a weight is above the greatest
abbrev pub run_fits : ℕ → Run → Bool
run_fits greatest run =
    nat_le run.first run.last && nat_le run.last greatest
    && nat_le (run.weight + (run.last - run.first)) greatest

-- whether a run lists a code
abbrev pub lists_code : Run → ℕ → Bool
lists_code run code = nat_le run.first code && nat_le code run.last

-- the weight that a run gives a code that it lists
abbrev pub weight_in : Run → ℕ → ℕ
weight_in run code = run.weight + (code - run.first)

-- whether two runs overlap: the greater of their starts isn't above the lesser of their ends
abbrev pub is_overlap : Run → Run → Bool
is_overlap one other = nat_le (max one.first other.first) (min one.last other.last)
