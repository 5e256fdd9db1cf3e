use Rattle.mc_uca.proofs.weigher.Weigher.new.Goals as goal

pub invariant_of-result-clause-directs : goal.invariant_of-result-clause-directs
invariant_of-result-clause-directs c = c.in_ok-reach.ensures.directs c.args.charset
