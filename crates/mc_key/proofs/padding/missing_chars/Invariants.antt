-- The characters that are left are as many too few for what is still missing.
use Rattle.std.proofs.Common.{◌≡◌, ◌-◌, length}
use Rattle.mc_charset.specs.Chars.{chars}
use Rattle.mc_key.proofs.padding.missing_chars.Given as goal

abbrev pub invariant-loop-missing : goal.invariant-loop-missing
invariant-loop-missing l =
    l.missing - length (chars l.set l.rest) ≡ l.count - length (chars l.set l.text)

abbrev pub decreases-loop-missing : goal.decreases-loop-missing
decreases-loop-missing l = l.missing
