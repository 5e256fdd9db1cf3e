use Rattle.std.proofs.Common.{◌<◌, length, ◌∙◌, arith}
use Rattle.mc_charset.specs.Chars.{chars}
use Rattle.mc_strfun.proofs.Paddings.{chars_filled, padded_long, padded_short}
use Rattle.mc_strfun.proofs.pads.padded.Goals as goal

pub nonzero_div-copies : goal.nonzero_div-copies
nonzero_div-copies c =
    let spelled = c.chars_law.ensures.encodes c.args.set c.args.pad.now c.requires.pad in
    omega (arith, c.from-width.ensures, c.char_count.ensures, chars_filled c.args.set _ _ spelled c.requires.filled)

pub nonzero_rem-missing : goal.nonzero_rem-missing
nonzero_rem-missing c =
    let spelled = c.chars_law.ensures.encodes c.args.set c.args.pad.now c.requires.pad in
    omega (arith, c.from-width.ensures, c.char_count.ensures, chars_filled c.args.set _ _ spelled c.requires.filled)

pub returns-then-len-gt-GREATEST_STRING : goal.returns-then-len-gt-GREATEST_STRING
returns-then-len-gt-GREATEST_STRING c codes more b m =
    let its = chars c.args.set c.args.pad.now in
    let spelled = c.chars_law.ensures.encodes c.args.set c.args.pad.now c.requires.pad in
    let filled : 0 < length its = chars_filled c.args.set _ _ spelled c.requires.filled in
    padded_long c.chars_law.ensures.joins c.args.set codes more its c.args.before.now c.args.behind.now c.args.pad.now
    c.front-rest.result.now c.args.missing c.from-width.result (c.from-width.ensures ∙ c.char_count.ensures) b m spelled filled
    c.front-rest.ensures.spelled c.if-len-gt-GREATEST_STRING.true

pub returns : goal.returns
returns c codes more b m =
    let its = chars c.args.set c.args.pad.now in
    let spelled = c.chars_law.ensures.encodes c.args.set c.args.pad.now c.requires.pad in
    let filled : 0 < length its = chars_filled c.args.set _ _ spelled c.requires.filled in
    padded_short c.chars_law.ensures.joins c.args.set codes more its c.args.before.now c.args.behind.now c.args.pad.now
    c.front-rest.result.now c.in_ok-filled.field-0 c.args.missing c.from-width.result
    (c.from-width.ensures ∙ c.char_count.ensures) b m spelled filled
    c.front-rest.ensures.spelled c.if-len-gt-GREATEST_STRING.false c.in_ok-filled.ensures
