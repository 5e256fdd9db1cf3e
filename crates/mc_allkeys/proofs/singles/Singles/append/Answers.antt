-- What stood in the list stands there still.
use Rattle.std.proofs.Common.{refl}
use Rattle.mc_allkeys.specs.Singles.{single_in, reach_in}
use Rattle.mc_allkeys.proofs.CellLemmas.{found-append}
use Rattle.mc_allkeys.proofs.singles.Singles.append.Goals as goal

pub returns-clause-entries : goal.returns-clause-entries
unfolding single_in
returns-clause-entries c = λ code.
    rw (← c.self.view_is, c.in_ok-extend_from_slice.ensures.items)
    (found-append _ _ _ (c.self.inside.within code))

pub returns-clause-reach : goal.returns-clause-reach
unfolding reach_in
returns-clause-reach c = λ code. rw (← c.self.view_is) refl
