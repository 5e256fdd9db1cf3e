use Rattle.std.proofs.Common.{◌≡◌, drop}
use Rattle.mc_charset.specs.Chars.{chars}
use Rattle.mc_like.proofs.ends.skip_in.Given as goal

abbrev pub invariant-loop-left : goal.invariant-loop-left
invariant-loop-left g l =
    drop l.left (chars g.E.Encoding.set l.rest) ≡ drop l.count (chars g.E.Encoding.set l.text)

abbrev pub decreases-loop-left : goal.decreases-loop-left
decreases-loop-left g l = l.left
