-- The texts so far are appended, the separator before each.
use Rattle.std.proofs.Common.{◌≡◌, ◌++◌, take}
use Rattle.std.specs.List.{flat_map}
use Rattle.mc_strfun.proofs.joins.push_others.Given as goal

abbrev pub invariant-loop-part : goal.invariant-loop-part
invariant-loop-part g l =
    l.out ≡ l.fn.out ++ flat_map (λ part. l.fn.separator ++ g.T.TextLike.bytes part) (take l.part-index l.parts)
