use Rattle.std.proofs.Common.{◌≡◌, ◌+◌, ◌≤◌, length}
use Rattle.mc_charset.specs.Chars.{chars}
use Rattle.mc_like.proofs.ends.count_in.Given as goal

abbrev pub invariant-loop-behind : goal.invariant-loop-behind
invariant-loop-behind g l = record {
  in_range : l.count + length l.rest ≤ length l.text;
  counted : l.count + length (chars g.E.Encoding.set l.rest)
      ≡ length (chars g.E.Encoding.set l.text);
}

abbrev pub decreases-loop-behind : goal.decreases-loop-behind
decreases-loop-behind g l = length l.rest
