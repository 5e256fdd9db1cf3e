use Rattle.std.proofs.Common.{◌≡◌, ◌+◌, ◌≤◌, length}
use Rattle.mc_charset.specs.Chars.{chars}
use Rattle.mc_charset.proofs.count.count_each.Given as goal

abbrev pub invariant-loop-len : goal.invariant-loop-len
invariant-loop-len g l = record {
  in_range : l.count + length l.rest ≤ length l.text;
  counted : l.count + length (chars g.E.Encoding.set l.rest) ≡ length (chars g.E.Encoding.set l.text);
}

abbrev pub decreases-loop-len : goal.decreases-loop-len
decreases-loop-len g l = length l.rest
