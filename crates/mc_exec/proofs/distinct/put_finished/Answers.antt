-- Without DISTINCT all lines are shown.
use Rattle.std.proofs.Common.{List, ap, subst, sym}
use Rattle.std.specs.Prelude.{Option, option_map}
use Rattle.mc_values.specs.declared.value.Value.{Value}
use Rattle.mc_exec.specs.FullScan.{arranged, distinct}
use Rattle.mc_exec.specs.Given.{all_of}
use Rattle.mc_exec.specs.Shown.{line_in}
use Rattle.mc_exec.specs.Told.{TellsOf}
use Rattle.mc_exec.proofs.distinct.put_finished.Goals as goal

pub returns-else-q-clause-told : goal.returns-else-q-clause-told
returns-else-q-clause-told g c =
    let m = g.B.Book.meaning c.args.book.now in
    let q = c.args.q.now in
    subst (λ (o : Option (List (List Value))). TellsOf o c.put_arranged.new.shown
    c.put_arranged.result)
    (ap (λ b. option_map (λ ls. arranged m q (distinct m q b ls))
    (all_of (line_in m q) c.args.subjects.now)) (sym c.if-q.false)) c.put_arranged.ensures.told
