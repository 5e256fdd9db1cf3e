use Rattle.std.proofs.Common.{ap, ◌∙◌, subst}
use Rattle.mc_charset.specs.Chars.{IsWellFormed}
use Rattle.mc_convert.specs.Conversion.{converted_text}
use Rattle.mc_eval.specs.SetTexts.{set_text}
use Rattle.mc_eval.proofs.forms.with_text.Goals as goal

pub returns-in-Ok : goal.returns-in-Ok
returns-in-Ok g c = λ e column constant node place literal.
    let set = c.charset-set.ensures ∙ ap (λ m. m.charset) c.by_id.ensures in
    record {
      column = column;
      constant = constant;
      set = c.args.charset;
      text = c.args.text.now;
      node = node;
      place = place;
      literal = literal;
      kept = c.in-Ok.ensures.is ∙ ap (λ s. converted_text c.args.charset s c.args.text.now) set;
      well_formed = subst (λ s. IsWellFormed s (set_text c.in-Ok.text)) set
          c.in-Ok.ensures.well_formed;
    }
