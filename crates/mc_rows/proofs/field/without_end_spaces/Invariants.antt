-- Behind `len` bytes there are spaces alone.
use Rattle.std.proofs.Common.{◌≡◌, ◌≤◌, IsUtf8, length, take}
use Rattle.mc_rows.specs.Fields.{without_end_spaces}
use Rattle.mc_rows.proofs.field.without_end_spaces.Given as goal

abbrev pub invariant-loop-len : goal.invariant-loop-len
invariant-loop-len l = record {
  within : l.len ≤ length l.text;
  utf8 : IsUtf8 (take l.len l.text);
  kept : without_end_spaces (take l.len l.text) ≡ without_end_spaces l.text;
}

abbrev pub decreases-loop-len : goal.decreases-loop-len
decreases-loop-len l = l.len
