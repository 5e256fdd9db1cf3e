-- Each way to open the files ends in its task.
use Rattle.mycoll.specs.Opened.{accepted_of}
use Rattle.mycoll.proofs.RunSteps.{script_run, script_spent, refusal_run}
use Rattle.mycoll.proofs.run.run_files.Goals as goal

pub returns-in-Ok-clause-told : goal.returns-in-Ok-clause-told
returns-in-Ok-clause-told g c =
    script_run (g.F.Files.contents c.args.files.now) _ (accepted_of (c.in-Ok.opened, c.in-Ok.rows)) c.answer_opened.result c.answered_status.result
    (g.S.Sink.written c.args.out.now) (g.S.Sink.written c.answer_opened.new.out)
    c.in-Ok.ensures.told c.answered_status.ensures c.answer_opened.ensures.told

pub returns-in-Err-Refused-clause-told : goal.returns-in-Err-Refused-clause-told
returns-in-Err-Refused-clause-told g c =
    refusal_run (g.F.Files.contents c.args.files.now) _ c.in-Err-Refused.refusal c.write_refusal.result c.line_status.result
    (g.S.Sink.written c.args.out.now) (g.S.Sink.written c.write_refusal.new.out)
    (rw c.in-Err-Refused.field-0-is at c.in-Err-Refused.ensures.told) c.line_status.ensures c.write_refusal.ensures.told

pub returns-in-Ok-clause-spent : goal.returns-in-Ok-clause-spent
returns-in-Ok-clause-spent g c =
    script_spent (g.F.Files.contents c.args.files.now) _ (accepted_of (c.in-Ok.opened, c.in-Ok.rows))
    c.args.steps.now c.answer_opened.new.steps c.args.work.now c.answer_opened.new.work
    c.in-Ok.ensures.told c.answer_opened.ensures.spent
