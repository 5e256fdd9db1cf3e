use Rattle.std.proofs.Common.{◌≡◌, ◌∷◌, rules, sym, ap, ◌∙◌, length}
use Rattle.mc_strfun.proofs.Limits.{joined_long, joined_short}
use Rattle.mc_strfun.proofs.joins.join.Goals as goal

pub returns-in_default-joined_len : goal.returns-in_default-joined_len
returns-in_default-joined_len g c =
    let parts : c.args.parts.now ≡ c.in-Some.first.now ∷ c.in-Some.others.now = search rules in
    joined_long g.T.TextLike.bytes c.args.separator.now c.in-Some.first.now c.in-Some.others.now c.args.parts.now (length c.bytes-first.result.now) parts
    (ap (λ t. length t) c.bytes-first.ensures)
    (sym c.joined_len.ensures ∙ c.in_default-joined_len.is)

pub returns : goal.returns
returns g c =
    let parts : c.args.parts.now ≡ c.in-Some.first.now ∷ c.in-Some.others.now = search rules in
    joined_short g.T.TextLike.bytes c.args.separator.now c.in-Some.first.now c.in-Some.others.now c.args.parts.now (length c.bytes-first.result.now)
    c.in-Some-joined_len.len c.bytes-first.result.now c.in_ok-joined_text.field-0 parts
    (ap (λ t. length t) c.bytes-first.ensures)
    (sym c.joined_len.ensures ∙ c.in-Some-joined_len.is) c.bytes-first.ensures c.in_ok-joined_text.ensures
