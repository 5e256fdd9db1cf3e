-- Behind the characters that are left backwards, those so far stand backwards at the end.
use Rattle.std.proofs.Common.{◌≡◌, ◌++◌, ◌-◌, ◌≤◌, List, ℕ, drop, length, reverse}
use Rattle.mc_charset.specs.Chars.{Spells, chars, IsWellFormed}
use Rattle.mc_strfun.proofs.reversal.put_backwards.Given as goal

abbrev pub invariant-loop-len : goal.invariant-loop-len
invariant-loop-len l = record {
  within : l.at ≤ length l.text;
  as_long : length l.out ≡ length l.text;
  well_formed : IsWellFormed l.set (drop l.at l.text);
  spelled : (front : List ℕ) → Spells l.set (reverse (chars l.set (drop l.at l.text))) front
      → Spells l.set (reverse (chars l.set l.text)) (front ++ drop (length l.text - l.at) l.out);
}

abbrev pub decreases-loop-len : goal.decreases-loop-len
decreases-loop-len l = length l.text - l.at
