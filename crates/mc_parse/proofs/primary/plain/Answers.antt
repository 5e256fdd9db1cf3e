use Rattle.std.proofs.Common.{sym, ◌∙◌}
use Rattle.mc_parse.proofs.PrimWays.{string_read, string_missed}
use Rattle.mc_parse.proofs.primary.plain.Goals as goal

pub returns-in-Ok-clause-ok : goal.returns-in-Ok-clause-ok
returns-in-Ok-clause-ok c below =
    string_read below _ _ _ (sym c.begins_string.ensures ∙ c.if-begins_string.true)
    (c.in-Ok.ensures.ok below)

pub returns-in-Err-clause-err : goal.returns-in-Err-clause-err
returns-in-Err-clause-err c below =
    string_missed below _ _ (sym c.begins_string.ensures ∙ c.if-begins_string.true)
    (c.in-Err.ensures.err below)
