use Rattle.std.proofs.Common.{◌≡◌, ℕ, All, List, IfOk, map, rules, sym, ap, ◌∙◌, subst}
use Rattle.mc_charset.specs.Chars.{IsWellFormed, chars}
use Rattle.mc_strfun.specs.Joins.{joined_with}
use Rattle.mc_eval.specs.Held.{held_values}
use Rattle.mc_eval.specs.Outcomes.{IsValue}
use Rattle.mc_eval.specs.SetTexts.{set_text}
use Rattle.mc_eval.specs.Texts.{chars_in, spelled}
use Rattle.mc_eval.specs.declared.texts.SetText.{SetText}
use Rattle.mc_eval.proofs.HeldTexts.{texts_chars}
use Rattle.mc_eval.proofs.joins.joined_by.Goals as goal

pub separated-requires-clause-texts : goal.separated-requires-clause-texts
separated-requires-clause-texts c =
    let e : c.as_slice.result.now ≡ c.in_ok-texts.texts = search rules in
    subst (λ (texts : List SetText). All (λ text. IsWellFormed c.args.set (set_text text)) texts) (sym e) c.in_ok-texts.ensures.well_formed

pub returns : goal.returns
returns c =
    let set = c.args.set in
    let e : c.as_slice.result.now ≡ c.in_ok-texts.texts = search rules in
    subst (λ (codes : List ℕ). IfOk c.separated.result (IsValue (spelled set codes)))
    (ap (λ (text : List ℕ). joined_with (chars set text) (map (λ t. chars set (set_text t)) c.as_slice.result.now)) (c.get.ensures ∙ c.in_ok-separator.ensures.is)
    ∙ ap (λ (texts : List SetText). joined_with (chars_in set c.args.separator.now) (map (λ t. chars set (set_text t)) texts)) e
    ∙ ap (joined_with (chars_in set c.args.separator.now)) (texts_chars set c.in_ok-texts.texts (held_values c.args.operands.now) c.in_ok-texts.ensures.are))
    c.separated.ensures
