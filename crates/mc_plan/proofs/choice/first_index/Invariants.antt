-- So far no index has a conjunct that names intervals.
use Rattle.mc_plan.specs.Plans.{index_choice}
use Rattle.mc_plan.proofs.Found.{NoneYet}
use Rattle.mc_plan.proofs.choice.first_index.Given as goal

abbrev pub invariant-loop-i : goal.invariant-loop-i
invariant-loop-i g l =
    NoneYet (index_choice (g.B.Book.meaning l.book) l.columns l.conjuncts) l.indexes l.i
