use Rattle.mc_charset.specs.CharStart.{IsCharStart}
use Rattle.mc_charset.proofs.count.start_behind.Given as goal

abbrev pub invariant-loop-passed : goal.invariant-loop-passed
invariant-loop-passed g l = IsCharStart g.E.Encoding.set l.text l.passed l.start
