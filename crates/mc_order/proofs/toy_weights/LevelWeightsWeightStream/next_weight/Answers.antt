use Rattle.std.proofs.Common.{◌≡◌, length, sym, ◌∙◌, arith}
use Rattle.std.proofs.lemmas.Bool.Decides.{nat_tests}
use Rattle.mc_order.proofs.ToyTexts.{toy_list-gone}
use Rattle.mc_order.proofs.toy_weights.LevelWeightsWeightStream.next_weight.Goals as goal

pub returns : goal.returns
returns c =
    let none : length c.loop-piece.self.text.now ≡ 0 = grind (arith, nat_tests) in
    let gone = toy_list-gone c.loop-piece.self.level c.loop-piece.self.text.now none in (
      rw c.loop-piece.invariant.was (sym c.loop-piece.invariant.left ∙ gone),
      rw c.loop-piece.invariant.second gone,
    )
