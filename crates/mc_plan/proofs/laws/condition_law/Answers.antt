use Rattle.mc_plan.proofs.Compared.{Laws}
use Rattle.mc_plan.proofs.Rejecting.{rejects_others}
use Rattle.mc_plan.proofs.OwnSets.{own_set}
use Rattle.mc_plan.proofs.laws.condition_law.Goals as goal

pub returns : goal.returns
returns c =
    let laws : Laws = record {
      own_set = own_set c.conversion_law.ensures.is c.chars_law.ensures.encodes;
      total = c.order_laws.ensures.total;
      answered = c.like_laws.ensures.answered;
    } in
    λ p column coll e it. rejects_others laws p column coll e it
