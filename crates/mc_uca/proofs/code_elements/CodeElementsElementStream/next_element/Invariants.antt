use Rattle.std.proofs.Common.{◌≡◌, ◌++◌, length}
use Rattle.mc_uca.specs.Streams.{pending_left}
use Rattle.mc_uca.specs.Weighing.{uca_elements}
use Rattle.mc_uca.proofs.code_elements.CodeElementsElementStream.next_element.Given as goal

abbrev pub invariant-loop-element : goal.invariant-loop-element
invariant-loop-element l = record {
  weigher : l.self.weigher ≡ l.fn.self.weigher;
  left : pending_left l.self.pending
      ++ uca_elements l.self.weigher.now.charset l.self.weigher.now.kind l.self.weigher.now.keys
      l.self.codes.now
      ≡ pending_left l.fn.self.pending
      ++ uca_elements l.fn.self.weigher.now.charset l.fn.self.weigher.now.kind
      l.fn.self.weigher.now.keys l.fn.self.codes.now;
}

abbrev pub decreases-loop-element : goal.decreases-loop-element
decreases-loop-element l = length l.self.codes.now
