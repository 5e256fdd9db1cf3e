use Rattle.std.proofs.Common.{◌≡◌, true}
use Rattle.mc_order.specs.Floor.{each_below, weighs_if_char}
use Rattle.mc_uca.specs.Weighing.{uca_list}
use Rattle.mc_uca.proofs.weigher.Weigher.each_weighs.Given as goal

abbrev pub invariant-loop-code : goal.invariant-loop-code
invariant-loop-code l = each_below l.code (weighs_if_char l.self.charset
    (uca_list l.self.charset l.self.kind l.self.keys 1)) ≡ true
