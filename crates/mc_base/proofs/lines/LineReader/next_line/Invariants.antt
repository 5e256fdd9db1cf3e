-- The lines that were skipped said nothing.
use Rattle.std.proofs.Common.{◌≡◌, ◌+◌, length}
use Rattle.std.specs.Str.Lines.{lines}
use Rattle.mc_base.specs.Lines.{bodies_from}
use Rattle.mc_base.proofs.lines.LineReader.next_line.Given as goal

abbrev pub invariant-loop-raw : goal.invariant-loop-raw
invariant-loop-raw l =
    let raw = l.self-inside.raw in
    bodies_from (raw.taken + 1) (lines raw.rest.now) ≡ l.fn.self

abbrev pub decreases-loop-raw : goal.decreases-loop-raw
decreases-loop-raw l = length l.self-inside.raw.rest.now
