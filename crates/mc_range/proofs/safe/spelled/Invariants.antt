use Rattle.std.proofs.Common.{take}
use Rattle.mc_charset.specs.Chars.{Spells}
use Rattle.mc_range.proofs.safe.spelled.Given as goal

abbrev pub invariant-loop-code : goal.invariant-loop-code
invariant-loop-code l = Spells l.set (take l.code-index l.codes) l.text
