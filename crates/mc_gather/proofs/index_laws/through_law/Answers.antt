use Rattle.mc_gather.proofs.FoundRows.{through_found, through_in_table, through_is_one}
use Rattle.mc_gather.proofs.index_laws.through_law.Goals as goal

pub returns-clause-one : goal.returns-clause-one
returns-clause-one c = through_is_one

pub returns-clause-in_table : goal.returns-clause-in_table
returns-clause-in_table c = through_in_table c.key_laws.ensures.bounds

pub returns-clause-found : goal.returns-clause-found
returns-clause-found c = through_found c.key_laws.ensures.bounds
