use Rattle.std.proofs.Common.{◌≡◌, List, ℕ, length}
use Rattle.mc_charset.specs.Chars.{chars}
use Rattle.mc_order.specs.Order.{list_order}
use Rattle.mc_uca.specs.Kind.{pad_of}
use Rattle.mc_uca.specs.Weighing.{uca_list}
use Rattle.mc_uca.proofs.weigher.Weigher.compare_on.Given as goal

abbrev pub invariant-loop-first : goal.invariant-loop-first
invariant-loop-first g l =
    let self = l.fn.self in
    let list : List ℕ → List ℕ = λ text.
    uca_list self.charset self.kind self.keys l.fn.level (chars g.E.Encoding.set text) in
    list_order (pad_of self.kind) l.fn.space (list l.left) (list l.right)
    ≡ list_order (pad_of self.kind) l.fn.space (list l.fn.a) (list l.fn.b)

abbrev pub decreases-loop-first : goal.decreases-loop-first
decreases-loop-first g l = length l.left
