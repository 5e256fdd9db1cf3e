-- The collations so far are the first built-in ones.
use Rattle.std.proofs.Common.{◌≡◌, ◌≤◌, map, take}
use Rattle.mc_order.specs.Bin.{built_in}
use Rattle.mc_book.specs.declared.any_collation.AnyCollation.TheVariants.{Bin}
use Rattle.mc_book.proofs.build.built_in_collations.Given as goal

abbrev pub invariant-loop-id : goal.invariant-loop-id
invariant-loop-id l = (l.id ≤ 9) × (l.collations ≡ map Bin (take l.id built_in))
