use Rattle.std.proofs.Common.{◌∙◌, ap}
use Rattle.mc_ast.specs.Spans.{from_to}
use Rattle.mc_parse.proofs.Ways.{next_shorter}
use Rattle.mc_parse.proofs.StringWays.{joins_none, str_read, strs_read}
use Rattle.mc_parse.proofs.strings.more_strs.Goals as goal

pub loop-more-init : goal.loop-more-init
loop-more-init c below = joins_none

pub loop-more-smaller : goal.loop-more-smaller
loop-more-smaller c = next_shorter c.in-Some.ensures

pub loop-more-preserved : goal.loop-more-preserved
loop-more-preserved c below =
    str_read below _ _ _ _ _ _ _ _ _ _ (c.loop-more.invariant below) c.in-Some.ensures
    c.in_ok-extend_from_slice.ensures.ok
    (c.from_to-last.ensures ∙ ap (λ z. from_to c.loop-more.last z) c.span.ensures)

pub returns-clause-ok : goal.returns-clause-ok
returns-clause-ok c below =
    strs_read below _ _ _ _ _ _ (c.loop-more.invariant below) c.in_default.ensures
