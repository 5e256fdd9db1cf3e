use Rattle.std.proofs.Common.{◌≡◌, IfOk, sym, ap, ◌∙◌, subst}
use Rattle.mc_eval.specs.Truths.{told, turned}
use Rattle.mc_eval.proofs.operands.made_truth.Goals as goal

pub returns-in-Ok-clause-told : goal.returns-in-Ok-clause-told
returns-in-Ok-clause-told c = λ t h.
    let same : c.in-Ok.it ≡ t = subst (λ r. IfOk r (λ is. is ≡ t)) c.in-Ok.is h in
    c.made.ensures.told (told (turned c.args.turn t)) (c.told.ensures.told (told (turned c.args.turn t))
    (ap told (ap (turned c.args.turn) (sym same) ∙ sym c.turned.ensures)))
