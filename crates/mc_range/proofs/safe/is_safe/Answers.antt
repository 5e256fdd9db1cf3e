use Rattle.mc_range.proofs.SafeChars.{safe_answered}
use Rattle.mc_range.proofs.safe.is_safe.Goals as goal

pub returns : goal.returns
returns g c =
    safe_answered (g.C.Collation.meaning c.args.collation.now) c.args.code c.safe.result
    c.safe.ensures
