-- So far the numbers are those of a bound.
use Rattle.mc_key.specs.Keys.{AreBoundNumbers}
use Rattle.mc_gather_tests.proofs.intervals.weights_of.Given as goal

abbrev pub invariant-loop-byte : goal.invariant-loop-byte
invariant-loop-byte l = AreBoundNumbers l.numbers
