-- The laws, each a lemma.
use Rattle.mc_table8.specs.LineFaults.{fault_of}
use Rattle.mc_table8.proofs.RangeLemmas.{range_iff}
use Rattle.mc_table8.proofs.LawLemmas.{overlap_iff, listed_stand, one_fault, no_first_fault}
use Rattle.mc_table8.proofs.laws.weight_file_laws.Goals as goal

pub returns-clause-range : goal.returns-clause-range
returns-clause-range c = range_iff

pub returns-clause-overlap : goal.returns-clause-overlap
returns-clause-overlap c = overlap_iff

pub returns-clause-listed : goal.returns-clause-listed
returns-clause-listed c = listed_stand

pub returns-clause-one_fault : goal.returns-clause-one_fault
returns-clause-one_fault c = one_fault

pub returns-clause-no_fault : goal.returns-clause-no_fault
returns-clause-no_fault c = λ format lines fault. no_first_fault (fault_of format) lines fault
