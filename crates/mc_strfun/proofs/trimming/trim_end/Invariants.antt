-- Up to the place there is left what is left of the whole text, in each set.
use Rattle.std.proofs.Common.{◌≤◌, length}
use Rattle.mc_charset.specs.Chars.{IsWellFormed}
use Rattle.mc_charset.specs.declared.charset.Charset.{Charset}
use Rattle.mc_strfun.proofs.Ended.{IsLeftUpTo}
use Rattle.mc_strfun.proofs.trimming.trim_end.Given as goal

abbrev pub invariant-loop-end : goal.invariant-loop-end
invariant-loop-end l = record {
  within : l.end ≤ length l.text;
  left : (set : Charset) → IsWellFormed set l.removed → IsWellFormed set l.text → IsLeftUpTo set l.removed l.text l.end;
}

abbrev pub decreases-loop-end : goal.decreases-loop-end
decreases-loop-end l = l.end
