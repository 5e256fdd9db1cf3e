use Rattle.std.proofs.Common.{◌∙◌, ap}
use Rattle.mc_ast.specs.Spans.{from_to}
use Rattle.mc_parse.specs.Place.{span_at}
use Rattle.mc_parse.proofs.StringWays.{intro_read, intro_hex_read, intro_missed}
use Rattle.mc_parse.proofs.strings.introduced.Goals as goal

pub returns-in-Ok-clause-ok : goal.returns-in-Ok-clause-ok
returns-in-Ok-clause-ok c below =
    intro_read below _ _ _ _ _ _ _ _ _ _ _ c.requires c.in-Some.ensures
    (c.from_to-extent.ensures ∙ ap (λ z. from_to z c.span-2.result) c.span.ensures
    ∙ ap (λ z. from_to (span_at c.args.start.tokens.now) z) c.span-2.ensures)
    (c.in_ok-set.ensures ∙ c.set_of.ensures) (c.in-Ok.ensures.ok below) c.whole.ensures

pub returns-in-Some-hex-clause-ok : goal.returns-in-Some-hex-clause-ok
returns-in-Some-hex-clause-ok c below =
    intro_hex_read below _ _ _ _ _ _ _ _ _ c.requires c.in-Some-hex.ensures
    (c.from_to-extent.ensures ∙ ap (λ z. from_to z c.span-2.result) c.span.ensures
    ∙ ap (λ z. from_to (span_at c.args.start.tokens.now) z) c.span-2.ensures)
    (c.in_ok-set-2.ensures ∙ c.set_of-in-Some-hex.ensures) c.in_ok-text.ensures
    c.whole-in-Some-hex.ensures

pub returns-clause-err : goal.returns-clause-err
returns-clause-err c below =
    intro_missed below _ _ _ _ c.requires c.in_default.ensures c.in_default-hex.ensures
    c.left.ensures
