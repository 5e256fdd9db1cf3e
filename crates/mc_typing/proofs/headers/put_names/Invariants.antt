use Rattle.std.proofs.Common.{◌≡◌, ◌++◌, drop, map}
use Rattle.mc_typing.proofs.headers.put_names.Given as goal

abbrev pub invariant-loop-column : goal.invariant-loop-column
invariant-loop-column l = l.list ++ map (λ column. column.name) (drop l.column-index l.columns)
    ≡ l.initial.list ++ map (λ column. column.name) l.columns
