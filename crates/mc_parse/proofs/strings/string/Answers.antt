use Rattle.mc_parse.proofs.StringWays.{plain_read, national_read, hex_read, string_missed}
use Rattle.mc_parse.proofs.strings.string.Goals as goal

pub returns-in-Ok-clause-ok : goal.returns-in-Ok-clause-ok
returns-in-Ok-clause-ok c below =
    plain_read below _ _ _ _ _ _ _ _ c.in-Some.ensures c.span-span.ensures
    (c.in-Ok.ensures.ok below) c.whole.ensures

pub returns-in-Ok-joined-clause-ok : goal.returns-in-Ok-joined-clause-ok
returns-in-Ok-joined-clause-ok c below =
    national_read below _ _ _ _ _ _ _ _ c.in-Some-national.ensures c.span-span.ensures
    (c.in-Ok-joined.ensures.ok below) c.whole-in-Ok-joined.ensures

pub returns-in-Some-hex-clause-ok : goal.returns-in-Some-hex-clause-ok
returns-in-Some-hex-clause-ok c below =
    hex_read below _ _ _ _ _ _ c.in-Some-hex.ensures c.span-span.ensures
    c.in_ok-from_slice.ensures c.whole-in-Some-hex.ensures

pub returns-in-None-clause-err : goal.returns-in-None-clause-err
returns-in-None-clause-err c below =
    string_missed below _ _ c.in_default.ensures c.in_default-national.ensures
    c.in_default-hex.ensures c.in-None.ensures c.left.ensures
