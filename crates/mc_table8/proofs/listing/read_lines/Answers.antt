-- A line that is taken comes to those before it; one that isn't is the first with a fault.
use Rattle.std.proofs.lemmas.Result.{err_from_is_err_and}
use Rattle.mc_table8.proofs.ReadLemmas.{read_more, read_fault, line_fault}
use Rattle.mc_table8.proofs.listing.read_lines.Goals as goal

pub loop-line-preserved : goal.loop-line-preserved
loop-line-preserved c =
    let here = rw c.in-Some.ensures at c.loop-line.invariant in
    read_more c.args.format c.args.text.now c.loop-line.cells.cells.items c.loop-line.cells.rest c.in-Some.line.number
    c.in-Some.line.body.now c.next_line.new.self c.take_line.new.cells.cells.items c.take_line.new.cells.rest here
    (c.in_ok-take_line.ensures here.before here.listing)

pub returns-in_err-take_line : goal.returns-in_err-take_line
returns-in_err-take_line c =
    let p = err_from_is_err_and c.from_residual-in_err-take_line.result c.from_residual-in_err-take_line.ensures.1 in
    let here = rw c.in-Some.ensures at c.loop-line.invariant in
    let why = c.in_err-take_line.ensures here.before here.listing in
    rw (p.1, p.2) (line_fault c.args.format c.args.text.now here.before c.in-Some.line.number c.in-Some.line.body.now
    c.in_err-take_line.field-0.0 why
    (read_fault c.args.format c.args.text.now c.loop-line.cells.cells.items c.loop-line.cells.rest
    c.in-Some.line.number c.in-Some.line.body.now c.next_line.new.self c.in_err-take_line.field-0.0 here why))
