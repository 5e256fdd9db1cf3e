use Rattle.std.proofs.Common.{◌≡◌, ◌++◌, ◌∷◌, [], ◌-◌, ◌+◌, take, arith, ap, ◌∙◌}
use Rattle.std.proofs.lemmas.Grind.{common_steps}
use Rattle.mc_order.proofs.Steps.{put_one_of}
use Rattle.mc_order.proofs.stream.put_first_weights.Goals as goal

pub loop-preserved : goal.loop-preserved
loop-preserved g c =
    let pushed : c.push.new.self ≡ c.loop.out ++ c.in-Some.weight ∷ [] =
    grind (arith, common_steps) in
    let one = put_one_of c.loop.out _ _ _ c.in-Some.weight c.args.count c.loop.counter
    c.in-Some.ensures (omega arith) c.loop.invariant.0 in (
      ap (λ out. out ++ take (c.args.count - (c.loop.counter + 1))
          (g.S.WeightStream.left c.next_weight.new.self)) pushed ∙ one,
      grind (arith, common_steps),
    )
