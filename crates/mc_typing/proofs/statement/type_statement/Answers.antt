use Rattle.mc_typing.specs.SoundStatements.{IsSoundStatement}
use Rattle.mc_typing.specs.Statements.{typed_statement}
use Rattle.mc_typing.proofs.Wholes.{wanted_ok}
use Rattle.mc_typing.proofs.statement.type_statement.Goals as goal

pub returns-clause-sound : goal.returns-clause-sound
returns-clause-sound c = wanted_ok c.typed.result
    (typed_statement c.args.script.now c.args.statement.now c.args.c.now c.args.session.now)
    (IsSoundStatement c.args.c.now) c.typed.ensures.is
    (λ t e. c.typing_law.ensures c.args.script.now c.args.statement.now c.args.c.now
    c.args.session.now t
    c.requires.lawful c.requires.connection e)
