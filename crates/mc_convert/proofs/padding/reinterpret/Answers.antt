-- What the bytes are taken for is what the function says.
use Rattle.std.proofs.lemmas.Result.{IfOk-weaker}
use Rattle.mc_convert.specs.Conversion.{padded}
use Rattle.mc_convert.proofs.Texts.{IsReinterpreted-is}
use Rattle.mc_convert.proofs.padding.reinterpret.Goals as goal

pub returns-clause-is : goal.returns-clause-is
returns-clause-is c =
    let tells = c.chars_law.ensures.tells c.args.to (padded c.args.to c.args.bytes.now) in
    IfOk-weaker c.taken.result _ _ (λ taken. IsReinterpreted-is c.args.to c.args.bytes.now taken tells) c.taken.ensures
