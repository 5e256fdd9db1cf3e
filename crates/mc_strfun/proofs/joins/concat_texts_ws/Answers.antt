use Rattle.std.proofs.Common.{ap, ◌∙◌}
use Rattle.std.specs.List.{join_by}
use Rattle.std.proofs.lemmas.Result.{IfOk-weaker}
use Rattle.mc_values.specs.Values.{within_limit}
use Rattle.mc_strfun.proofs.Joined.{ws_value}
use Rattle.mc_strfun.proofs.joins.concat_texts_ws.Goals as goal

pub returns : goal.returns
returns g c =
    IfOk-weaker c.join.result _ _
    (λ value h. h ∙ ap (λ separator. within_limit (join_by g.T.TextLike.bytes separator c.args.parts.now)) c.as_slice.ensures
    ∙ ws_value c.chars_law.ensures.joins c.chars_law.ensures.encodes c.args.set g.T.TextLike.bytes c.args.separator.now c.args.parts.now
    c.requires.separator c.requires.parts)
    c.join.ensures
