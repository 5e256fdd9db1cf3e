use Rattle.std.proofs.Common.{◌≡◌, drop}
use Rattle.mc_eval.specs.Truths.{least}
use Rattle.mc_eval.proofs.Loops.{differs, joined}
use Rattle.mc_eval.proofs.lists.is_among.Given as goal

abbrev pub invariant-loop-member : goal.invariant-loop-member
invariant-loop-member g l =
    let f = differs (g.B.Book.meaning l.book) l.coll l.it in
    least l.differs (joined f (drop l.member-index l.members)) ≡ joined f l.members
