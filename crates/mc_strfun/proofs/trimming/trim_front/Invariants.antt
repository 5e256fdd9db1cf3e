-- From the place on there is left what is left of the whole text, in each set.
use Rattle.std.proofs.Common.{◌-◌, ◌≤◌, length}
use Rattle.mc_charset.specs.Chars.{IsWellFormed}
use Rattle.mc_charset.specs.declared.charset.Charset.{Charset}
use Rattle.mc_strfun.proofs.Trimmed.{IsLeft}
use Rattle.mc_strfun.proofs.trimming.trim_front.Given as goal

abbrev pub invariant-loop-at : goal.invariant-loop-at
invariant-loop-at l = record {
  within : l.at ≤ length l.text;
  left : (set : Charset) → IsWellFormed set l.removed → IsWellFormed set l.text → IsLeft set l.removed l.text l.at;
}

abbrev pub decreases-loop-at : goal.decreases-loop-at
decreases-loop-at l = length l.text - l.at
