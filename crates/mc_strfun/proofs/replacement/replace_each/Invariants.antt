-- With what is left replaced, the bytes so far are the text replaced.
use Rattle.std.proofs.Common.{◌-◌, ◌≤◌, drop, length}
use Rattle.mc_charset.specs.Chars.{chars, IsWellFormed}
use Rattle.mc_values.specs.Values.{greatest_string}
use Rattle.mc_strfun.proofs.Replaced.{IsBuilt}
use Rattle.mc_strfun.proofs.replacement.replace_each.Given as goal

abbrev pub invariant-loop-out : goal.invariant-loop-out
invariant-loop-out l = record {
  within : l.at ≤ length l.text;
  short : length l.out ≤ greatest_string;
  well_formed : IsWellFormed l.set (drop l.at l.text);
  built : IsBuilt l.set (chars l.set l.from) (chars l.set l.to) l.text l.at l.out;
}

abbrev pub decreases-loop-out : goal.decreases-loop-out
decreases-loop-out l = length l.text - l.at
