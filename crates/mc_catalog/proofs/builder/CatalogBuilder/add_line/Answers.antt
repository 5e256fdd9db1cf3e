-- The catalog stays lawful with the line's entry.
use Rattle.mc_catalog.proofs.LawfulSteps.{lawful_added}
use Rattle.mc_catalog.proofs.builder.CatalogBuilder.add_line.Goals as goal

pub returns-in-Some-clause-lawful : goal.returns-in-Some-clause-lawful
returns-in-Some-clause-lawful c =
    let formed = rw c.in-Some.is at c.in_ok-entry.ensures.formed in
    lawful_added c.args.number c.args.self.now c.in-Some.entry c.add_entry.new.self c.add_entry.result c.requires formed c.add_entry.ensures.ok c.add_entry.ensures.added
