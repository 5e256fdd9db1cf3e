use Rattle.mc_parse.proofs.CallWays.{using_missed, using_name_missed, using_read, using_unclosed}
use Rattle.mc_parse.proofs.call_convert.using_set.Goals as goal

pub returns-in_default-clause-err : goal.returns-in_default-clause-err
returns-in_default-clause-err c below x p = using_missed c.in_default.ensures c.left.ensures p

pub returns-in-Ok-closed-clause-ok : goal.returns-in-Ok-closed-clause-ok
returns-in-Ok-closed-clause-ok c below x p =
    using_read c.in-Some.ensures (c.in-Ok.ensures.ok below) c.in-Ok-closed.ensures.ok p

pub returns-in-Err-closed-clause-err : goal.returns-in-Err-closed-clause-err
returns-in-Err-closed-clause-err c below x p =
    using_unclosed c.in-Some.ensures (c.in-Ok.ensures.ok below) c.in-Err-closed.ensures.err p

pub returns-in-Err-clause-err : goal.returns-in-Err-clause-err
returns-in-Err-clause-err c below x p =
    using_name_missed c.in-Some.ensures (c.in-Err.ensures.err below) p
