use Rattle.std.proofs.Common.{◌≡◌, All, List, map, rules, sym, ap, ◌∙◌, subst}
use Rattle.mc_charset.specs.Chars.{IsWellFormed, chars}
use Rattle.mc_strfun.specs.Joins.{joined, spelled_within}
use Rattle.mc_eval.specs.Held.{held_values}
use Rattle.mc_eval.specs.SetTexts.{set_text}
use Rattle.mc_eval.specs.Texts.{chars_in}
use Rattle.mc_eval.specs.declared.texts.SetText.{SetText}
use Rattle.mc_eval.proofs.HeldTexts.{texts_joined}
use Rattle.mc_eval.proofs.joins.concat.Goals as goal

pub concat_texts-requires : goal.concat_texts-requires
concat_texts-requires c =
    let e : c.as_slice.result.now ≡ c.in_ok-texts.texts = search rules in
    subst (λ (texts : List SetText). All (λ text. IsWellFormed c.args.set (set_text text)) texts) (sym e) c.in_ok-texts.ensures.well_formed

pub returns-in-Ok : goal.returns-in-Ok
returns-in-Ok c =
    let set = c.args.set in
    let values = held_values c.args.operands.now in
    let e : c.as_slice.result.now ≡ c.in_ok-texts.texts = search rules in
    c.spelled.ensures (joined (map (chars_in set) values))
    (c.in-Ok.ensures ∙ ap (λ (texts : List SetText). spelled_within set (joined (map (λ text. chars set (set_text text)) texts))) e
    ∙ ap (spelled_within set) (texts_joined set c.in_ok-texts.texts values c.in_ok-texts.ensures.are))
