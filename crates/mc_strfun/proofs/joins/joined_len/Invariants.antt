-- What is left of the greatest length.
use Rattle.std.proofs.Common.{◌≡◌, ◌+◌, length, take}
use Rattle.std.specs.List.{sum_by}
use Rattle.mc_values.specs.Values.{greatest_string}
use Rattle.mc_strfun.proofs.joins.joined_len.Given as goal

abbrev pub invariant-loop-part : goal.invariant-loop-part
invariant-loop-part g l =
    l.left + (l.fn.first + sum_by (λ part. l.fn.separator + length (g.T.TextLike.bytes part)) (take l.part-index l.others)) ≡ greatest_string
