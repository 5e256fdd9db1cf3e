-- A part up to the end of a text is what is left behind its start.
use Rattle.std.proofs.Common.{◌≡◌, ◌+◌, ◌-◌, ℕ, List, length, take, drop, arith}
use Rattle.std.proofs.lemmas.Grind.{common_steps}
use Rattle.mc_base.proofs.LineLemmas.{lines_ended, lines_last}
use Rattle.mc_base.proofs.lines.split_line.Goals as goal

to_the_end : (text : List ℕ) (start : ℕ) → take (length text - start) (drop start text) ≡ drop start text
to_the_end text start = grind (arith, common_steps)

pub returns-then-end-text-clause-line : goal.returns-then-end-text-clause-line
returns-then-end-text-clause-line c =
    let text = c.args.text.now in
    let end = c.place_of-end.result in
    rw (to_the_end text (end + 1), c.without_carriage_return.ensures) (lines_ended text end c.place_of-end.ensures.place (omega arith))

pub returns-else-end-text-clause-line : goal.returns-else-end-text-clause-line
returns-else-end-text-clause-line c =
    let text = c.args.text.now in
    let end = c.place_of-end.result in
    rw (to_the_end text end) (lines_last text end c.place_of-end.ensures.place (omega arith) (omega arith))
