use Rattle.std.proofs.Common.{ap, ◌∙◌}
use Rattle.mc_ast.specs.Spans.{from_to}
use Rattle.mc_parse.proofs.MatchingWays.{escape_none, escape_read, escape_left, escape_missed}
use Rattle.mc_parse.proofs.matching.escape_option.Goals as goal

pub returns-then-alias-clause-ok : goal.returns-then-alias-clause-ok
returns-then-alias-clause-ok c below =
    escape_left _ below _ _ _ c.if-alias.true c.in-Some.ensures c.in-None-str.ensures

pub returns-in_ok-escape-in-Some-str-clause-ok : goal.returns-in_ok-escape-in-Some-str-clause-ok
returns-in_ok-escape-in-Some-str-clause-ok c below =
    escape_read _ below _ _ _ _ _ _ _ c.in-Some.ensures c.in-Some-str.ensures
    c.in_ok-escape-in-Some-str.ensures
    (c.from_to.ensures ∙ ap (λ s. from_to c.args.pattern s) c.span.ensures)

pub returns-else-alias-clause-err : goal.returns-else-alias-clause-err
returns-else-alias-clause-err c below =
    escape_missed _ below _ _ _ c.if-alias.false c.in-Some.ensures c.in-None-str.ensures
    c.left.ensures

pub returns-in-None-clause-ok : goal.returns-in-None-clause-ok
returns-in-None-clause-ok c below = escape_none _ below _ _ c.in-None.ensures
