use Rattle.std.proofs.Common.{◌≡◌, ℕ, ◌<◌, length, slice_index_or}
use Rattle.mc_table8.specs.PlainWeights.{plain_weight}
use Rattle.mc_table8.specs.Table8.{byte_entry}
use Rattle.mc_table8.proofs.table8.plain_weights.Given as goal

abbrev pub invariant-loop-byte : goal.invariant-loop-byte
invariant-loop-byte l = record {
  all_bytes : length l.plain ≡ 256;
  so_far : (byte : ℕ) → byte < l.byte →
      slice_index_or l.plain byte 0 ≡ plain_weight (byte_entry l.entries byte);
}
