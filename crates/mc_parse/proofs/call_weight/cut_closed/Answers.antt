use Rattle.mc_parse.proofs.WeightWays.{weight_read, weight_unclosed, weight_cut_missed}
use Rattle.mc_parse.proofs.call_weight.cut_closed.Goals as goal

pub returns-in-Ok-closed-clause-ok : goal.returns-in-Ok-closed-clause-ok
returns-in-Ok-closed-clause-ok c x p =
    weight_read c.in-Ok.ensures.ok c.in-Ok-closed.ensures.ok p

pub returns-in-Err-closed-clause-err : goal.returns-in-Err-closed-clause-err
returns-in-Err-closed-clause-err c x p =
    weight_unclosed c.in-Ok.ensures.ok c.in-Err-closed.ensures.err p

pub returns-in-Err-clause-err : goal.returns-in-Err-clause-err
returns-in-Err-clause-err c x p = weight_cut_missed c.in-Err.ensures.err p
