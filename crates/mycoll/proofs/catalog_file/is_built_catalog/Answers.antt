-- All collations are built.
use Rattle.mycoll.proofs.CatalogSteps.{built_then}
use Rattle.mycoll.proofs.catalog_file.is_built_catalog.Goals as goal

pub returns : goal.returns
returns c =
    built_then c.args.catalog.now c.declares_built_kinds.result c.declares_built_kinds.ensures
