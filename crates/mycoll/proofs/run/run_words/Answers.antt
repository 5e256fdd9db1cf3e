-- Words of no form are answered with the usage line alone, and others by their files.
use Rattle.mycoll.specs.Run.{HasWritten, IsSpentOn, task}
use Rattle.mycoll.proofs.RunSteps.{idle, usage_run, named_run}
use Rattle.mycoll.proofs.run.run_words.Goals as goal

pub returns-in-None-clause-told : goal.returns-in-None-clause-told
returns-in-None-clause-told g c =
    usage_run (g.F.Files.contents c.args.files.now) c.args.words.now c.write_bytes.result c.line_status.result
    (g.S.Sink.written c.args.out.now) (g.S.Sink.written c.write_bytes.new.out)
    c.in-None.ensures c.line_status.ensures c.write_bytes.ensures.told

pub returns-in-None-clause-spent : goal.returns-in-None-clause-spent
returns-in-None-clause-spent g c =
    idle (task (g.F.Files.contents c.args.files.now) c.args.words.now) c.args.steps.now c.args.work.now

pub returns-in-Some-clause-told : goal.returns-in-Some-clause-told
returns-in-Some-clause-told g c =
    named_run (λ asked. HasWritten asked c.run_files.result (g.S.Sink.written c.args.out.now) (g.S.Sink.written c.run_files.new.out))
    (g.F.Files.contents c.args.files.now) c.args.words.now _ c.in-Some.ensures c.run_files.ensures.told

pub returns-in-Some-clause-spent : goal.returns-in-Some-clause-spent
returns-in-Some-clause-spent g c =
    named_run (λ asked. IsSpentOn asked c.args.steps.now c.run_files.new.steps c.args.work.now c.run_files.new.work)
    (g.F.Files.contents c.args.files.now) c.args.words.now _ c.in-Some.ensures c.run_files.ensures.spent
