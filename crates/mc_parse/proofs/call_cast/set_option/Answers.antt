use Rattle.mc_parse.proofs.CastWays.{set_left, set_read, set_word_missed, set_name_missed}
use Rattle.mc_parse.proofs.call_cast.set_option.Goals as goal

pub returns-in_default-clause-ok : goal.returns-in_default-clause-ok
returns-in_default-clause-ok c below = set_left below _ c.in_default.ensures

pub returns-in_default-keyword-clause-err : goal.returns-in_default-keyword-clause-err
returns-in_default-keyword-clause-err c below =
    set_word_missed c.in-Some.ensures c.in_default-keyword.ensures c.left.ensures

pub returns-in-Ok-clause-ok : goal.returns-in-Ok-clause-ok
returns-in-Ok-clause-ok c below =
    set_read c.in-Some.ensures c.in-Some-keyword.ensures (c.in-Ok.ensures.ok below)

pub returns-in-Err-clause-err : goal.returns-in-Err-clause-err
returns-in-Err-clause-err c below =
    set_name_missed c.in-Some.ensures c.in-Some-keyword.ensures (c.in-Err.ensures.err below)
