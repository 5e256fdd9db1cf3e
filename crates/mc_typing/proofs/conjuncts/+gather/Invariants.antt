use Rattle.std.proofs.Common.{◌≡◌, drop, map, false}
use Rattle.mc_typing.specs.Exprs.{in_row}
use Rattle.mc_typing.specs.Gathered.{gathered_all}
use Rattle.mc_typing.proofs.conjuncts.+gather.Given as goal

abbrev pub invariant-put_members-loop-e : goal.invariant-put_members-loop-e
invariant-put_members-loop-e l =
    gathered_all l.xs l.some_text (map (in_row l.c l.s) (drop l.e-index l.es))
    ≡ gathered_all l.initial.xs false (map (in_row l.c l.s) l.es)
