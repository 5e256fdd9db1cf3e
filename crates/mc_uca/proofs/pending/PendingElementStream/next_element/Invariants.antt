use Rattle.std.proofs.Common.{◌≡◌}
use Rattle.mc_uca.specs.Streams.{jamo_count, pending_left}
use Rattle.mc_uca.proofs.pending.PendingElementStream.next_element.Given as goal

abbrev pub invariant-loop-element : goal.invariant-loop-element
invariant-loop-element l = pending_left l.self ≡ pending_left l.fn.self

abbrev pub decreases-loop-element : goal.decreases-loop-element
decreases-loop-element l = jamo_count l.self
