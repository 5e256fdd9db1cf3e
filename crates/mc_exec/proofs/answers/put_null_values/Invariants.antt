-- So far those of the columns in front of this one.
use Rattle.std.proofs.Common.{◌≡◌, map, take}
use Rattle.mc_values.specs.declared.value.Value.TheVariants as value
use Rattle.mc_exec.proofs.answers.put_null_values.Given as goal

abbrev pub invariant-loop-column : goal.invariant-loop-column
invariant-loop-column l = l.nulls ≡ map (λ column. value.Null) (take l.column-index l.columns)
