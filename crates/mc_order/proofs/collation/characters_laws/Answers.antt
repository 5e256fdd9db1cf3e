use Rattle.mc_order.proofs.Consequences.{chars_are_cut, chars_are_joined}
use Rattle.mc_order.proofs.collation.characters_laws.Goals as goal

pub returns : goal.returns
returns c = record {
  cut = chars_are_cut;
  joined = chars_are_joined;
  of_text = λ set text h. (text, c.chars_law.ensures.encodes set text h);
}
