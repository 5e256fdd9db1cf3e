-- The cell is one of the table's.
use Rattle.std.proofs.Common.{[], sym, ap, ◌∙◌, arith}
use Rattle.std.proofs.lemmas.List.{get_or_read}
use Rattle.mc_allkeys.specs.declared.page.Cell.{Cell}
use Rattle.mc_allkeys.proofs.singles.Singles.cell.Goals as goal

pub returns-then-number-len-clause-within : goal.returns-then-number-len-clause-within
returns-then-number-len-clause-within c = λ part e.
    let page = get_or_read c.self.inside.pages.items _ _
    (omega (arith, c.len.ensures, c.self.inside.pages.ok.0)) c.index.ensures [] in
    let same = rw page at c.cell.ensures in
    rw (← c.self.view_is)
    (c.self.inside.within c.args.code part (ap (λ (cell : Cell). cell.part) (sym same) ∙ e))
