-- A line that is taken comes to those before it; one that isn't is the first with a fault.
use Rattle.std.proofs.lemmas.Result.{err_from_is_err_and}
use Rattle.mc_allkeys.proofs.ReadLemmas.{read_more, read_fault, read_all}
use Rattle.mc_allkeys.proofs.reader.read_lines.Goals as goal

pub loop-line-preserved : goal.loop-line-preserved
loop-line-preserved c =
    let here = rw c.in-Some.ensures at c.loop-line.invariant in
    let done = rw (c.as_slice.ensures, c.as_slice-in-Some.ensures, ← c.in_ok-kind.ensures.said) at c.in_ok-take_line.ensures in
    read_more c.args.text.now c.loop-line.keys c.take_line.new.keys c.in-Some.line.number
    c.in-Some.line.body.now c.next_line.new.self here done.0 done.1

pub returns-in_err-take_line-clause-lines : goal.returns-in_err-take_line-clause-lines
returns-in_err-take_line-clause-lines c =
    let p = err_from_is_err_and c.from_residual-in_err-take_line.result c.from_residual-in_err-take_line.ensures.1 in
    let here = rw c.in-Some.ensures at c.loop-line.invariant in
    let why = rw (c.as_slice.ensures, c.as_slice-in-Some.ensures, ← c.in_ok-kind.ensures.said) at c.in_err-take_line.ensures in
    rw (p.1, p.2)
    (read_fault c.args.text.now c.loop-line.keys c.in-Some.line.number c.in-Some.line.body.now
    c.next_line.new.self c.in_err-take_line.field-0.0 here why).0

pub returns-in_err-take_line-clause-outcome : goal.returns-in_err-take_line-clause-outcome
returns-in_err-take_line-clause-outcome c =
    let p = err_from_is_err_and c.from_residual-in_err-take_line.result c.from_residual-in_err-take_line.ensures.1 in
    let here = rw c.in-Some.ensures at c.loop-line.invariant in
    let why = rw (c.as_slice.ensures, c.as_slice-in-Some.ensures, ← c.in_ok-kind.ensures.said) at c.in_err-take_line.ensures in
    rw (p.1, p.2)
    (read_fault c.args.text.now c.loop-line.keys c.in-Some.line.number c.in-Some.line.body.now
    c.next_line.new.self c.in_err-take_line.field-0.0 here why).1

pub returns-clause-lines : goal.returns-clause-lines
returns-clause-lines c =
    (read_all c.args.text.now c.loop-line.keys (rw c.in_default.ensures.0 at c.loop-line.invariant)).0

pub returns-clause-outcome : goal.returns-clause-outcome
returns-clause-outcome c =
    (read_all c.args.text.now c.loop-line.keys (rw c.in_default.ensures.0 at c.loop-line.invariant)).1
