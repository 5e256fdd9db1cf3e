use Rattle.mc_parse.proofs.CallWays.{other_word}
use Rattle.mc_parse.proofs.call.call_word.Goals as goal

pub returns-in-Some-called : goal.returns-in-Some-called
returns-in-Some-called c =
    other_word c.in-Some-called.ensures c.in_default.ensures c.in_default-keyword.ensures
    c.in_default-keyword-2.ensures c.in_default-keyword-3.ensures c.in_default-keyword-4.ensures
    c.in_default-keyword-5.ensures
