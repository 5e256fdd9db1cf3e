use Rattle.std.proofs.Common.{◌≡◌, take}
use Rattle.mc_eval.specs.Prepared.{ArePrepared, prepared_exprs}
use Rattle.mc_eval.proofs.prepared.prepare.Given as goal

abbrev pub invariant-loop-expr : goal.invariant-loop-expr
invariant-loop-expr g l =
    record {
      exprs : prepared_exprs l.prepared ≡ take l.expr-index l.conjuncts;
      ready : ArePrepared (g.B.Book.meaning l.book) l.prepared;
    }
