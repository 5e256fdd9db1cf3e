use Rattle.mc_uca.proofs.Fronts.{IsFrontOf}
use Rattle.mc_uca.proofs.codes.front_codes.Given as goal

abbrev pub invariant-loop : goal.invariant-loop
invariant-loop g l = IsFrontOf g.E.Encoding.set l.fn.text l.counter l.at
