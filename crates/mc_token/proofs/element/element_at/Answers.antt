use Rattle.std.proofs.Common.{◌≡◌, ◌+◌, ◌<◌, ◌∷◌, drop, get_or, ap, sym, subst, ◌∙◌}
use Rattle.mc_token.specs.Elements.{element_of, elements}
use Rattle.mc_token.specs.declared.element.Element.{Element}
use Rattle.mc_token.proofs.Elements.{behind_of, elements-step}
use Rattle.mc_token.proofs.element.element_at.Goals as goal

pub returns-clause-cut : goal.returns-clause-cut
returns-clause-cut c =
    let script = c.args.script.now in
    let at = c.args.at in
    let same = c.element_of.ensures.value ∙ ap (element_of (get_or script at 0)) (behind_of script at) in
    let cut = elements-step script at c.requires (subst (λ (e : Element). 0 < e.len) same c.element_of.ensures.not_empty) in
    subst (λ (e : Element). elements (drop at script) ≡ e ∷ elements (drop (at + e.len) script)) (sym same) cut
