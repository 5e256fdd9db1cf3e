-- The parts in front of the first such byte and behind it.
use Rattle.std.proofs.Common.{◌==◌, ℕ, sym}
use Rattle.mc_allkeys.proofs.CutLemmas.{parts_some, parts_none, take_rest}
use Rattle.mc_allkeys.proofs.cut.cut.Goals as goal

pub returns-in-Some-clause-parts : goal.returns-in-Some-clause-parts
returns-in-Some-clause-parts c =
    rw take_rest
    (parts_some (λ (b : ℕ). b == c.args.byte) c.args.text.now c.in-Some.place (sym c.in-Some.ensures.first))

pub returns-in-None-clause-parts : goal.returns-in-None-clause-parts
returns-in-None-clause-parts c =
    parts_none (λ (b : ℕ). b == c.args.byte) c.args.text.now (sym c.in-None.ensures.first)
