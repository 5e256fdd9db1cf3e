-- The answers so far, what may still be spent, and that each turn moves on in the script.
use Rattle.std.proofs.Common.{◌≤◌, ◌-◌, length}
use Rattle.mc_token.specs.Statements.{statements}
use Rattle.mycoll.specs.World.{AreSound, state_of, world_of}
use Rattle.mycoll.proofs.AnsweringSteps.{IsSoFar}
use Rattle.mycoll.proofs.CostSteps.{IsCovered}
use Rattle.mycoll.proofs.answering.answer_script.Given as goal

abbrev pub invariant-loop-statement : goal.invariant-loop-statement
invariant-loop-statement g l =
    let w = world_of l.tables.catalog (g.B.Book.meaning l.book) in
    let s = state_of l.initial.session l.tables.rows in
    let left = state_of l.session l.tables.rows in
    let written = g.S.Sink.written in
    record {
      so_far : IsSoFar w s l.script (statements l.script l.from) left l.refused (written l.initial.out) (written l.out);
      covered : IsCovered w s l.script left (statements l.script l.from) l.initial.steps l.steps l.initial.work l.work;
      fetched : l.initial.steps ≤ l.steps;
      compared : l.initial.work ≤ l.work;
      sound : AreSound w (g.B.Book.count l.book) left;
      later : g.S.Sink.faults l.initial.out ≤ g.S.Sink.faults l.out;
      within : l.from ≤ length l.script;
    }

abbrev pub decreases-loop-statement : goal.decreases-loop-statement
decreases-loop-statement g l = length l.script - l.from
