-- The fault of the text is told of its file.
use Rattle.mc_book.specs.Any.{any_meaning}
use Rattle.mc_book.proofs.ToldLemmas.{told_fault}
use Rattle.mc_book.proofs.table.read_codes.Goals as goal

pub returns-in-Err-clause-told : goal.returns-in-Err-clause-told
returns-in-Err-clause-told c =
    told_fault any_meaning _ c.args.declared.now.file _ c.in-Err.fault c.table_refusal.result c.in-Err.ensures.outcome
    c.table_refusal.ensures.refused c.table_refusal.ensures.memory
