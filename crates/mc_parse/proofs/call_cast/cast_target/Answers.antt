use Rattle.mc_parse.proofs.CastWays.{as_missed, target_missed, char_read, char_set_missed}
use Rattle.mc_parse.proofs.CastWays.{char_unclosed, binary_read, binary_unclosed}
use Rattle.mc_parse.proofs.call_cast.cast_target.Goals as goal

pub returns-in_default-clause-err : goal.returns-in_default-clause-err
returns-in_default-clause-err c below x p = as_missed c.in_default.ensures c.left.ensures p

pub returns-in-Ok-closed-clause-ok : goal.returns-in-Ok-closed-clause-ok
returns-in-Ok-closed-clause-ok c below x p =
    char_read c.in-Some.ensures c.in-Some-keyword.ensures (c.in-Ok.ensures.ok below)
    c.in-Ok-closed.ensures.ok p

pub returns-in-Err-closed-clause-err : goal.returns-in-Err-closed-clause-err
returns-in-Err-closed-clause-err c below x p =
    char_unclosed c.in-Some.ensures c.in-Some-keyword.ensures (c.in-Ok.ensures.ok below)
    c.in-Err-closed.ensures.err p

pub returns-in-Err-clause-err : goal.returns-in-Err-clause-err
returns-in-Err-clause-err c below x p =
    char_set_missed c.in-Some.ensures c.in-Some-keyword.ensures (c.in-Err.ensures.err below) p

pub returns-in_default-keyword-2-clause-err : goal.returns-in_default-keyword-2-clause-err
returns-in_default-keyword-2-clause-err c below x p =
    target_missed c.in-Some.ensures c.in_default-keyword.ensures c.in_default-keyword-2.ensures
    c.left-in_default-keyword-2.ensures p

pub returns-in-Ok-closed-2-clause-ok : goal.returns-in-Ok-closed-2-clause-ok
returns-in-Ok-closed-2-clause-ok c below x p =
    binary_read c.in-Some.ensures c.in-Some-keyword-2.ensures c.in-Ok-closed-2.ensures.ok p

pub returns-in-Err-closed-2-clause-err : goal.returns-in-Err-closed-2-clause-err
returns-in-Err-closed-2-clause-err c below x p =
    binary_unclosed c.in-Some.ensures c.in-Some-keyword-2.ensures c.in-Err-closed-2.ensures.err p
