use Rattle.mc_coerce.proofs.Repertoires.{aggregate-least, aggregate-keeps}
use Rattle.mc_coerce.proofs.Losses.{none_lost}
use Rattle.mc_coerce.proofs.laws.repertoire_law.Goals as goal

pub returns : goal.returns
returns c = record {
  of_set = λ list purpose together h. (aggregate-least list purpose together h).of_set;
  greatest = λ list purpose together h. (aggregate-least list purpose together h).above;
  least = λ list purpose together class h. (aggregate-least list purpose together h).least class;
  fits = aggregate-keeps;
  lossless = none_lost c.chars_law.ensures.encodes c.repertoire_law.ensures.cap_has_all
      c.conversion_law.ensures.within_cap;
}
