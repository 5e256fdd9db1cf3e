-- The texts of the answer are names of indexes.
use Rattle.std.proofs.Common.{subst, sym}
use Rattle.std.specs.Prelude.{All}
use Rattle.mc_values.specs.Values.{IsTextOfSet}
use Rattle.mc_values.specs.declared.answer.Answer.{Answer}
use Rattle.mc_exec.proofs.PlanTexts.{plan_texts}
use Rattle.mc_exec.proofs.Places.{ok_map}
use Rattle.mc_exec.proofs.explained.explain.Goals as goal

pub returns-in-Ok-clause-texts : goal.returns-in-Ok-clause-texts
returns-in-Ok-clause-texts g c = ok_map _ (λ (answer : Answer). All (All IsTextOfSet) answer.rows)
    c.plan_answer.result (λ answer e. subst (λ (it : Answer). All (All IsTextOfSet) it.rows) (sym e)
    (plan_texts c.args.t.now.catalog c.requires.lawful c.args.q.now.table c.in-Ok.plan _))
    c.plan_answer.ensures.is
