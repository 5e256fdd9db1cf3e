-- What each step appends is the converted text.
use Rattle.std.proofs.lemmas.Result.{IfOk-weaker}
use Rattle.mc_convert.proofs.Texts.{appended_text}
use Rattle.mc_convert.proofs.conversion.append.Goals as goal

pub returns-clause-is : goal.returns-clause-is
returns-clause-is c =
    IfOk-weaker c.append_each.result _ _
    (λ lost appends stop. appended_text c.args.from c.args.to c.args.text.now c.args.out.now c.append_each.new.out
    c.if-keeps_text.ensures (appends stop))
    c.append_each.ensures.appends
