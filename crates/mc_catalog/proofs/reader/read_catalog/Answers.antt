-- What is read line by line is the outcome of the text.
use Rattle.mc_catalog.proofs.OutcomeLemmas.{catalog_lawful, catalog_says}
use Rattle.mc_catalog.proofs.reader.read_catalog.Goals as goal

pub returns-clause-outcome : goal.returns-clause-outcome
returns-clause-outcome c =
    catalog_says c.args.text.now c.read_text.result c.read_text.ensures.accepted c.read_text.ensures.value c.read_text.ensures.refused

pub returns-clause-lawful : goal.returns-clause-lawful
returns-clause-lawful c =
    catalog_lawful c.args.text.now c.read_text.result c.read_text.ensures.accepted c.read_text.ensures.value c.read_text.ensures.lawful
