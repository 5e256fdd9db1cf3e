-- The reader's answer is the outcome of the text.
use Rattle.mycoll.proofs.CatalogSteps.{accepted_outcome, refused_told}
use Rattle.mycoll.proofs.catalog_file.check_catalog.Goals as goal

pub returns-in-Ok-clause-told : goal.returns-in-Ok-clause-told
returns-in-Ok-clause-told c =
    rw (accepted_outcome c.args.name.now c.args.text.now c.in-Ok.catalog c.in-Ok.ensures.outcome) c.check_built.ensures.told

pub returns-in-Err-clause-told : goal.returns-in-Err-clause-told
returns-in-Err-clause-told c =
    refused_told c.args.name.now c.args.text.now c.in-Err.fault c.catalog_refusal.result
    c.in-Err.ensures.outcome c.catalog_refusal.ensures.refused c.catalog_refusal.ensures.memory
