-- An accepted catalog declares built kinds alone.
use Rattle.mycoll.proofs.CatalogSteps.{built_only}
use Rattle.mycoll.proofs.laws.catalog_law.Goals as goal

pub returns : goal.returns
returns c = built_only
