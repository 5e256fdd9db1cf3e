use Rattle.std.proofs.Common.{sym, ◌∙◌, arith}
use Rattle.std.proofs.lemmas.List.Elements.{All-push, All-same}
use Rattle.std.proofs.lemmas.Option.{MatchOption-at_some}
use Rattle.std.specs.Prelude.{⊤}
use Rattle.mc_range.specs.Condition.{IsCellOf}
use Rattle.mc_plan.proofs.Cells.{read_all, read_more, read_other}
use Rattle.mc_plan.proofs.constants.cells.Goals as goal

pub returns-in-None-clause-is : goal.returns-in-None-clause-is
returns-in-None-clause-is c =
    read_other c.args.set c.args.xs.now c.loop-x.x-index c.loop-x.cells c.x-item.result
    (omega arith) c.x-item.is (sym c.in-None.is ∙ c.in_ok-it.ensures.is) c.loop-x.invariant.0

pub loop-x-preserved : goal.loop-x-preserved
loop-x-preserved c = (
  read_more c.args.set c.args.xs.now c.loop-x.x-index c.loop-x.cells c.push.new.self
      c.x-item.result c.in-Some.it (omega arith) c.x-item.is
      (sym c.in-Some.is ∙ c.in_ok-it.ensures.is) c.in_ok-push-in-Some.ensures.ok
      c.loop-x.invariant.0,
  All-same (IsCellOf c.args.set) c.push.new.self _ c.in_ok-push-in-Some.ensures.ok
      (All-push (IsCellOf c.args.set) c.loop-x.cells c.in-Some.it c.loop-x.invariant.1
      (MatchOption-at_some ⊤ (IsCellOf c.args.set) c.in-Some.it c.in-Some.is
      c.in_ok-it.ensures.of_set)),
)

pub returns-clause-is : goal.returns-clause-is
returns-clause-is c =
    read_all c.args.set c.args.xs.now c.loop-x.x-index c.loop-x.cells (omega arith)
    c.loop-x.invariant.0
