use Rattle.mc_convert.proofs.KeptTexts.{not_binary, plain_kept, told_kept}
use Rattle.mc_convert.proofs.kept.keeps_text.Goals as goal

pub returns-then-keeps_bytes : goal.returns-then-keeps_bytes
returns-then-keeps_bytes c =
    told_kept c.keeps_bytes.result c.args.from c.args.to c.args.text.now c.if-keeps_bytes.true
    c.keeps_bytes.ensures.exactly c.keeps_bytes.ensures.lossless c.requires

pub returns : goal.returns
returns c =
    plain_kept c.are_plain.result c.args.from c.args.to c.args.text.now
    (not_binary c.keeps_bytes.result c.args.from c.args.to c.if-keeps_bytes.false c.keeps_bytes.ensures.exactly)
    c.are_plain.ensures
