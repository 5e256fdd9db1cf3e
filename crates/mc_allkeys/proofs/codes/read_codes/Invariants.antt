-- What is read stands in front of the code points of the rest, and each is one.
use Rattle.std.proofs.Common.{◌≤◌, ℕ, length, slice_index}
use Rattle.mc_base.specs.Fields.{fields_of}
use Rattle.mc_allkeys.specs.Listed.{codes_of}
use Rattle.mc_allkeys.proofs.ListedLemmas.{IsFront}
use Rattle.mc_allkeys.proofs.codes.read_codes.Given as goal

abbrev pub invariant-loop-field : goal.invariant-loop-field
invariant-loop-field l = record {
  front : IsFront (codes_of l.text) l.codes (codes_of l.rest);
  small : (k : ℕ) → slice_index l.codes k ≤ 0x10FFFF;
}

abbrev pub decreases-loop-field : goal.decreases-loop-field
decreases-loop-field l = length (fields_of l.rest)
