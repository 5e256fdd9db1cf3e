-- The fault of the text is told of its file.
use Rattle.mc_book.specs.Any.{any_meaning}
use Rattle.mc_book.specs.UcaOutcome.{keys_meaning}
use Rattle.mc_book.proofs.KeysLemmas.{told_keys_fault}
use Rattle.mc_book.proofs.elements.read_elements.Goals as goal

pub returns-in-Err-clause-told : goal.returns-in-Err-clause-told
returns-in-Err-clause-told c =
    told_keys_fault any_meaning (keys_meaning c.args.declared.now c.args.kind) c.args.declared.now.file _ c.in-Err.fault c.keys_refusal.result
    c.in-Err.ensures.outcome c.keys_refusal.ensures.refused c.keys_refusal.ensures.memory
