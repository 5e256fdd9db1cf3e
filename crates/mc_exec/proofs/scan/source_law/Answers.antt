-- The rows of each table can be read, and so can the row without values.
use Rattle.mc_exec.proofs.Readable.{readable_source}
use Rattle.mc_exec.proofs.scan.source_law.Goals as goal

pub returns : goal.returns
returns g c = readable_source c.chars_law.ensures.decodes c.args.t.now.catalog c.requires.lawful
    c.args.t.now.rows c.rows_law.ensures c.args.q.now.table c.requires.sound.table
