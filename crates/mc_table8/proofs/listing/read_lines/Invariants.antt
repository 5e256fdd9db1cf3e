use Rattle.std.proofs.Common.{length}
use Rattle.mc_table8.proofs.ReadLemmas.{IsRead}
use Rattle.mc_table8.proofs.listing.read_lines.Given as goal

abbrev pub invariant-loop-line : goal.invariant-loop-line
invariant-loop-line l = IsRead l.format l.text l.cells.cells.items l.cells.rest l.lines

abbrev pub decreases-loop-line : goal.decreases-loop-line
decreases-loop-line l = length l.lines
