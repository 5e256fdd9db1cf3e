-- What was written and why it may have stopped say that the run is complete.
use Rattle.mycoll.specs.Run.{task}
use Rattle.mycoll.proofs.RunSteps.{complete_told}
use Rattle.mycoll.proofs.run.run.Goals as goal

pub returns-clause-complete : goal.returns-clause-complete
returns-clause-complete g c =
    complete_told (task (g.F.Files.contents c.args.files.now) c.args.words.now) c.run_words.result
    (g.S.Sink.written c.args.out.now) (g.S.Sink.written c.run_words.new.out)
    (g.F.Files.faults c.args.files.now) (g.F.Files.faults c.run_words.new.files)
    (g.S.Sink.faults c.args.out.now) (g.S.Sink.faults c.run_words.new.out)
    c.run_words.ensures.told c.run_words.ensures.read c.run_words.ensures.write
