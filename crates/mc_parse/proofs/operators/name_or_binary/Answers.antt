use Rattle.mc_parse.proofs.NameWays.{name_read, binary_read, name_missed}
use Rattle.mc_parse.proofs.operators.name_or_binary.Goals as goal

pub returns-in-Some-clause-ok : goal.returns-in-Some-clause-ok
returns-in-Some-clause-ok c below =
    name_read below _ _ _ _ _ c.in-Some.ensures c.in_ok-from_slice.ensures c.span-span.ensures

pub returns-in-Some-keyword-clause-ok : goal.returns-in-Some-keyword-clause-ok
returns-in-Some-keyword-clause-ok c below =
    binary_read below _ _ _ _ c.in-Some-keyword.ensures c.in_ok-from_slice-2.ensures
    c.span-span.ensures

pub returns-clause-err : goal.returns-clause-err
returns-clause-err c below =
    name_missed below _ _ c.in_default.ensures c.in_default-keyword.ensures c.left.ensures
