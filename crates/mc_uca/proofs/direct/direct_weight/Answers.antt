use Rattle.mc_uca.proofs.DirectFacts.{below_two, is_direct}
use Rattle.mc_uca.proofs.direct.direct_weight.Goals as goal

pub returns-in-Some : goal.returns-in-Some
returns-in-Some c = λ set.
    is_direct set c.args.kind c.args.keys.now c.args.reach.now c.args.level c.args.code
    c.in-Some.weight _ (record {
      is = c.piece_law.ensures.is;
      step = c.cut_law.ensures.step;
      all = c.longest_law.ensures.all;
      alone = c.level_law.ensures.alone;
    })
    c.requires.reach (λ low. below_two _ _ c.at-is_head.ensures low) c.in-Some.ensures
