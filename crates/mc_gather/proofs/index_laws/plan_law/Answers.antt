use Rattle.mc_gather.proofs.HeldIndexes.{held_is_found}
use Rattle.mc_gather.proofs.Planned.{through_is_read}
use Rattle.mc_gather.proofs.index_laws.plan_law.Goals as goal

pub returns-clause-read : goal.returns-clause-read
returns-clause-read c = through_is_read c.key_laws.ensures.bounds

pub returns-clause-held : goal.returns-clause-held
returns-clause-held c = held_is_found
