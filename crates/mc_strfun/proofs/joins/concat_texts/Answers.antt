use Rattle.std.proofs.Common.{◌∙◌}
use Rattle.std.proofs.lemmas.Result.{IfOk-weaker}
use Rattle.mc_strfun.proofs.Joined.{concat_value}
use Rattle.mc_strfun.proofs.joins.concat_texts.Goals as goal

pub returns : goal.returns
returns g c =
    IfOk-weaker c.join.result _ _
    (λ value h. h ∙ concat_value c.chars_law.ensures.joins c.chars_law.ensures.encodes c.args.set g.T.TextLike.bytes c.args.parts.now c.requires)
    c.join.ensures
