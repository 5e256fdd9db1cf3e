use Rattle.std.proofs.Common.{ap, ◌∙◌, arith, drop, drop-cons}
use Rattle.mc_charset.specs.Rows.{first_in}
use Rattle.mc_charset.specs.Tables.{rows}
use Rattle.mc_charset.specs.declared.charset.Charset.TheVariants.{Latin1}
use Rattle.mc_charset.proofs.latin1.next.Goals as goal

pub returns-in-len1-up : goal.returns-in-len1-up
returns-in-len1-up c =
    let text = c.args.text.now in
    ap (first_in (rows Latin1)) (drop-cons text 0 0 (omega arith)) ∙ c.code_of.ensures (drop 1 text)
