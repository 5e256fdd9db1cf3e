use Rattle.std.proofs.Common.{length}
use Rattle.mc_allkeys.proofs.ReadLemmas.{IsRead}
use Rattle.mc_allkeys.proofs.reader.read_lines.Given as goal

abbrev pub invariant-loop-line : goal.invariant-loop-line
invariant-loop-line l = IsRead l.text l.keys l.lines

abbrev pub decreases-loop-line : goal.decreases-loop-line
decreases-loop-line l = length l.lines
