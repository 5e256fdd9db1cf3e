-- The steps decide where they have a range, else the ranges behind those that they are made of.
use Rattle.std.proofs.Common.{sym, ap, ◌∙◌, arith}
use Rattle.std.proofs.lemmas.List.{take_rest}
use Rattle.std.specs.List.{find}
use Rattle.mc_allkeys.specs.Table.{covers}
use Rattle.mc_allkeys.proofs.RangesLemmas.{found_first, found_behind}
use Rattle.mc_allkeys.proofs.ranges.Ranges.covering.Goals as goal

pub returns-in-Some : goal.returns-in-Some
returns-in-Some c =
    rw (← c.self.view_is)
    (found_first c.self.inside.ranges.items c.self.inside.covered c.args.code
    c.self.inside.steps.items c.in-Some.range c.self.inside.stepped (omega arith)
    (sym c.in-Some.is ∙ (rw c.as_slice.ensures.value at c.range_at.ensures)))

pub returns-in-None : goal.returns-in-None
returns-in-None c =
    rw (← c.self.view_is)
    (found_behind c.self.inside.ranges.items c.self.inside.covered c.args.code
    c.self.inside.steps.items c.first_covering.result c.self.inside.stepped (omega arith)
    (sym c.in-None.is ∙ (rw c.as_slice.ensures.value at c.range_at.ensures))
    ((rw c.deref.ensures.value at c.first_covering.ensures)
    ∙ ap (find (covers c.args.code)) (take_rest c.self.inside.ranges.items c.self.inside.covered)))
