use Rattle.mc_convert.proofs.StepLemmas.{TakesFront-char}
use Rattle.mc_convert.proofs.steps.take_char.Goals as goal

pub returns-in-Ok : goal.returns-in-Ok
returns-in-Ok g c =
    TakesFront-char g.F.Encoding.set g.T.Encoding.set c.args.text.now c.args.out.now c.put_stand_in.new.out
    c.in-Char.code c.in-Char.len c.in-Ok.fit
    c.in-Char.ensures.first c.in-Char.ensures.heads.0 c.in-Ok.ensures.ok c.in-Ok.ensures.fit
