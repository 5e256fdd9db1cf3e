-- So far no conjunct names intervals.
use Rattle.mc_plan.specs.Plans.{ranges}
use Rattle.mc_plan.proofs.Found.{NoneYet}
use Rattle.mc_plan.proofs.choice.first_conjunct.Given as goal

abbrev pub invariant-loop-i : goal.invariant-loop-i
invariant-loop-i g l =
    NoneYet (ranges (g.B.Book.meaning l.book) l.index l.coll) l.conjuncts l.i
