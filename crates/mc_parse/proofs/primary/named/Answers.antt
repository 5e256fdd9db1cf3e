use Rattle.std.proofs.Common.{ap, ◌∙◌}
use Rattle.mc_ast.specs.Spans.{from_to}
use Rattle.mc_parse.specs.Place.{span_at}
use Rattle.mc_parse.proofs.ColumnWays.{column_read, qualified_read, dot_missed, nothing_read}
use Rattle.mc_parse.proofs.primary.named.Goals as goal

pub returns-in_ok-name-in-Some-name-clause-ok : goal.returns-in_ok-name-in-Some-name-clause-ok
returns-in_ok-name-in-Some-name-clause-ok c below =
    qualified_read below _ _ _ _ _ _ _ _ _ _ c.in-Some.ensures c.in-Some-mark.ensures
    c.in-Some-name.ensures c.requires.no_call c.requires.no_string
    c.in_ok-table-in-Some-name.ensures c.in_ok-name-in-Some-name.ensures
    (c.from_to-span.ensures ∙ ap (λ s. from_to s c.span-in-Some-name.result) c.span.ensures
    ∙ ap (λ s. from_to (span_at c.args.place.tokens.now) s) c.span-in-Some-name.ensures)
    c.whole.ensures

pub returns-in-None-name-clause-err : goal.returns-in-None-name-clause-err
returns-in-None-name-clause-err c below =
    dot_missed below _ _ _ _ _ c.in-Some.ensures c.in-Some-mark.ensures c.requires.no_call
    c.requires.no_string c.in-None-name.ensures c.left.ensures

pub returns-in_ok-name-in-None-mark-clause-ok : goal.returns-in_ok-name-in-None-mark-clause-ok
returns-in_ok-name-in-None-mark-clause-ok c below =
    column_read below _ _ _ _ _ _ c.in-Some.ensures c.requires.no_call c.requires.no_string
    c.in-None-mark.ensures c.in_ok-name-in-None-mark.ensures c.span-in-None-mark.ensures
    c.whole-in-None-mark.ensures

pub returns-in-None-clause-err : goal.returns-in-None-clause-err
returns-in-None-clause-err c below =
    nothing_read below _ _ _ c.missing_at.ensures c.requires.no_call c.requires.no_paren
    c.requires.no_string c.requires.no_literal c.in-None.ensures c.left-in-None.ensures
