use Rattle.mc_index.proofs.Adding.{none_held}
use Rattle.mc_index.proofs.builder.IndexBuilder.new.Goals as goal

pub invariant_of-result : goal.invariant_of-result
invariant_of-result c = none_held c.args.pad c.args.space c.new.result.items c.new.ensures.items
