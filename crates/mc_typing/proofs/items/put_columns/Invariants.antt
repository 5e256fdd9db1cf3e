use Rattle.std.proofs.Common.{◌≡◌, ◌++◌, drop}
use Rattle.mc_typing.specs.Statements.{star_from}
use Rattle.mc_typing.proofs.items.put_columns.Given as goal

abbrev pub invariant-loop-i : goal.invariant-loop-i
invariant-loop-i l = l.xs ++ star_from l.c l.i
    (drop l.i l.columns) ≡ l.initial.xs ++ star_from l.c 0 l.columns
