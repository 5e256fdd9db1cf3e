use Rattle.mc_allkeys.proofs.LongestLemmas.{all-contractions, longest-piece, no-contraction}
use Rattle.mc_allkeys.proofs.laws.longest_law.Goals as goal

pub returns-clause-all : goal.returns-clause-all
returns-clause-all c = all-contractions

pub returns-clause-longest : goal.returns-clause-longest
returns-clause-longest c = longest-piece

pub returns-clause-none : goal.returns-clause-none
returns-clause-none c = no-contraction
