use Rattle.mc_key.proofs.Fronts.{front_order}
use Rattle.mc_key.proofs.front.compare_with_fronts.Goals as goal

pub returns-in_default : goal.returns-in_default
returns-in_default c =
    front_order c.front_law.ensures c.args.pad c.args.space c.args.list.now c.args.other.now
    c.args.front c.args.other_front c.cmp.result c.requires.front c.requires.other_front
    c.cmp.ensures c.in_default.not-Equal
