-- Each line without a fault adds its entry; the first one with a fault is told.
use Rattle.mc_base.specs.Lines.{lines_of}
use Rattle.mc_catalog.proofs.LinesRead.{none_read, one_read, refused_read}
use Rattle.mc_catalog.proofs.reader.read_lines.Goals as goal

pub loop-line-init : goal.loop-line-init
loop-line-init c = rw (c.requires.fresh, c.new-lines.ensures) (none_read (lines_of c.args.text.now))

pub returns-in-Err-clause-refused : goal.returns-in-Err-clause-refused
returns-in-Err-clause-refused c =
    let line = c.in-Some.line in
    rw c.at_line.ensures
    (refused_read (lines_of c.args.text.now) c.loop-line.lines c.next_line.new.self (line.number, line.body.now) c.loop-line.builder c.in-Err.kind
    c.loop-line.invariant c.in-Some.ensures c.in-Err.ensures.err)

pub loop-line-preserved : goal.loop-line-preserved
loop-line-preserved c =
    let line = c.in-Some.line in
    one_read (lines_of c.args.text.now) c.loop-line.lines c.next_line.new.self (line.number, line.body.now) c.loop-line.builder c.add_line.new.self
    c.loop-line.invariant c.in-Some.ensures c.in-Ok.ensures.ok c.in-Ok.ensures.added c.in-Ok.ensures.lawful
