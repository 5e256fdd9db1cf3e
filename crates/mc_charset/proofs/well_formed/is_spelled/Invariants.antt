use Rattle.std.proofs.Common.{◌↔◌, length}
use Rattle.mc_charset.specs.Chars.{IsWellFormed}
use Rattle.mc_charset.proofs.well_formed.is_spelled.Given as goal

abbrev pub invariant-loop-len : goal.invariant-loop-len
invariant-loop-len g l = IsWellFormed g.E.Encoding.set l.text ↔ IsWellFormed g.E.Encoding.set l.rest

abbrev pub decreases-loop-len : goal.decreases-loop-len
decreases-loop-len g l = length l.rest
