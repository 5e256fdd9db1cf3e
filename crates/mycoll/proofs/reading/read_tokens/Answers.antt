-- The tree's strings are UTF-8, and a fault is the refusal that is made of it.
use Rattle.std.proofs.Common.{refl}
use Rattle.mc_parse.specs.declared.fault.ParseFault.TheVariants.{TooDeep}
use Rattle.mycoll.specs.Messages.{too_deep}
use Rattle.mycoll.proofs.ReadSteps.{tree_of, fault_read}
use Rattle.mycoll.proofs.reading.read_tokens.Goals as goal

pub returns-in-Ok-clause-texts : goal.returns-in-Ok-clause-texts
returns-in-Ok-clause-texts c =
    c.texts_law.ensures c.args.tokens.now c.in-Ok.tree (tree_of c.args.tokens.now c.in-Ok.tree c.in-Ok.ensures)
    (c.token_laws.ensures.texts c.args.script.now c.args.statement c.args.tokens.now c.requires.utf8 c.requires.tokens)

pub returns-in-Err-TooDeep-clause-read : goal.returns-in-Err-TooDeep-clause-read
returns-in-Err-TooDeep-clause-read c =
    let place = c.in-Err-TooDeep.place in
    fault_read c.args.script.now c.args.statement c.args.tokens.now (TooDeep place) (too_deep place) c.too_deep.result
    c.refused-in-Err-TooDeep.result c.requires.tokens (rw c.in-Err-TooDeep.field-0-is at c.in-Err-TooDeep.ensures) refl
    c.refused-in-Err-TooDeep.ensures c.too_deep.ensures
