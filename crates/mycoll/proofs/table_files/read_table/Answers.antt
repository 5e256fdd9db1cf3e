-- The reader's answer is the outcome of the text.
use Rattle.mycoll.proofs.TableSteps.{accepted_rows, refused_rows}
use Rattle.mycoll.proofs.table_files.read_table.Goals as goal

pub returns-in-Ok-clause-told : goal.returns-in-Ok-clause-told
returns-in-Ok-clause-told g c =
    accepted_rows c.args.catalog.now c.args.table.now c.args.text.now c.in-Ok.rows c.in-Ok.ensures.outcome

pub returns-in-Err-clause-told : goal.returns-in-Err-clause-told
returns-in-Err-clause-told g c =
    refused_rows c.args.catalog.now c.args.table.now c.args.text.now c.in-Err.fault c.rows_refusal.result
    c.in-Err.ensures.outcome c.rows_refusal.ensures.refused c.rows_refusal.ensures.memory
