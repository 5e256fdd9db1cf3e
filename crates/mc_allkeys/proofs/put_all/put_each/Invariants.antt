-- The texts so far have their elements.
use Rattle.mc_allkeys.specs.Put.{IsPut}
use Rattle.mc_allkeys.proofs.put_all.put_each.Given as goal

abbrev pub invariant-loop-place : goal.invariant-loop-place
invariant-loop-place l = IsPut l.texts l.elements l.place l.initial.keys l.keys
