-- A line that is taken has no fault, and the cells list it too.
use Rattle.std.proofs.Common.{sym}
use Rattle.mc_table8.specs.LineFaults.{said_by}
use Rattle.mc_table8.proofs.ReadLemmas.{taken_line}
use Rattle.mc_table8.proofs.listing.take_line.Goals as goal

pub returns-then-add : goal.returns-then-add
returns-then-add c = λ before h.
    let added = c.if-add.ensures (said_by c.args.format before) h in
    taken_line c.args.format before c.args.number c.args.body.now c.in-Some.line c.add.new.self.cells.items
    c.add.new.self.rest (sym c.in-Some.ensures.line) added.0 added.1
