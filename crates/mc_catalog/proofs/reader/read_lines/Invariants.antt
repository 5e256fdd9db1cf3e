-- What the lines so far say, without a fault.
use Rattle.std.proofs.Common.{length}
use Rattle.mc_base.specs.Lines.{lines_of}
use Rattle.mc_catalog.proofs.LinesRead.{HasRead}
use Rattle.mc_catalog.proofs.reader.read_lines.Given as goal

abbrev pub invariant-loop-line : goal.invariant-loop-line
invariant-loop-line l = HasRead (lines_of l.text) l.lines l.builder

abbrev pub decreases-loop-line : goal.decreases-loop-line
decreases-loop-line l = length l.lines
