use Rattle.std.proofs.Common.{sym, ◌∙◌, arith}
use Rattle.std.proofs.lemmas.Grind.{common_steps}
use Rattle.mc_charset.specs.Chars.{chars}
use Rattle.mc_uca.proofs.CodeLemmas.{drop_next}
use Rattle.mc_uca.proofs.codes.behind_codes.Goals as goal

pub loop-preserved : goal.loop-preserved
loop-preserved g c =
    let step = drop_next c.loop.counter (chars g.E.Encoding.set c.args.text.now) c.in-Char.code _
    (sym c.loop.invariant ∙ c.in-Char.ensures.heads.0) in
    grind (arith, common_steps, step)
