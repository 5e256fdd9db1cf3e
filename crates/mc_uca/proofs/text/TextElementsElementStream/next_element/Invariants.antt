use Rattle.std.proofs.Common.{◌≡◌, ◌++◌, length}
use Rattle.mc_charset.specs.Chars.{chars}
use Rattle.mc_uca.specs.Streams.{pending_left}
use Rattle.mc_uca.specs.Weighing.{uca_elements}
use Rattle.mc_uca.proofs.text.TextElementsElementStream.next_element.Given as goal

abbrev pub invariant-loop-element : goal.invariant-loop-element
invariant-loop-element g l = record {
  weigher : l.self.weigher ≡ l.fn.self.weigher;
  left : pending_left l.self.pending
      ++ uca_elements l.self.weigher.now.charset l.self.weigher.now.kind l.self.weigher.now.keys
      (chars g.E.Encoding.set l.self.text.now)
      ≡ pending_left l.fn.self.pending
      ++ uca_elements l.fn.self.weigher.now.charset l.fn.self.weigher.now.kind
      l.fn.self.weigher.now.keys (chars g.E.Encoding.set l.fn.self.text.now);
}

abbrev pub decreases-loop-element : goal.decreases-loop-element
decreases-loop-element g l = length (chars g.E.Encoding.set l.self.text.now)
