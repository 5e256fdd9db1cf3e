use Rattle.std.proofs.Common.{refl}
use Rattle.mc_charset.specs.declared.charset.Charset.TheVariants.{Binary}
use Rattle.mc_convert.specs.Conversion.{converted_text}
use Rattle.mc_convert.proofs.KeptTexts.{binary_kept}
use Rattle.mc_convert.proofs.Lossless.{lossless, none_lost, same_chars, each_char}
use Rattle.mc_convert.proofs.Texts.{IsConverted-tells, IsConverted_well_formed, converted_text-is}
use Rattle.mc_convert.proofs.laws.conversion_law.Goals as goal

pub returns : goal.returns
returns c = record {
  within_cap = lossless c.chars_law.ensures.encodes;
  none_lost = none_lost;
  same_chars = same_chars c.chars_law.ensures.decodes;
  same_text = λ from to text b h.
      same_chars c.chars_law.ensures.decodes from to text (converted_text from to text) b h
      (converted_text-is from to text);
  is = IsConverted-tells;
  stand_ins = λ from to text b.
      each_char c.chars_law.ensures.decodes from to text (converted_text from to text) b
      (converted_text-is from to text);
  to_binary = λ from text. binary_kept from Binary text refl;
  well_formed = λ from to text w.
      IsConverted_well_formed from to text (converted_text from to text) w (converted_text-is from to text);
  same_within_cap = λ from to text class b w i r.
      same_chars c.chars_law.ensures.decodes from to text (converted_text from to text) b
      (lossless c.chars_law.ensures.encodes from to text class w i r) (converted_text-is from to text);
}
