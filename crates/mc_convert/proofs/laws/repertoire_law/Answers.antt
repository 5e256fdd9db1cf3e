use Rattle.mc_convert.proofs.Caps.{chain, cap_has_all, cap_is_least}
use Rattle.mc_convert.proofs.Repertoires.{repertoire_is}
use Rattle.mc_convert.proofs.laws.repertoire_law.Goals as goal

pub returns : goal.returns
returns c = record {
  chain = chain;
  cap_has_all = cap_has_all;
  cap_is_least = cap_is_least;
  is = repertoire_is;
}
