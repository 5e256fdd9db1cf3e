use Rattle.std.proofs.Common.{arith}
use Rattle.mc_convert.proofs.StepLemmas.{TakesFront-plain}
use Rattle.mc_convert.proofs.steps.take_plain.Goals as goal

pub returns-in-Ok : goal.returns-in-Ok
returns-in-Ok g c =
    TakesFront-plain g.F.Encoding.set g.T.Encoding.set c.args.text.now c.args.out.now c.put_plain.new.out
    c.args.front.now 8 (c.chars_law.ensures.fronts g.F.Encoding.set) c.requires.front
    (omega arith) c.requires.within (omega arith) c.requires.plain c.in-Ok.ensures.ok
