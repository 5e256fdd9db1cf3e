use Rattle.mc_typing.proofs.FirstRefusals.{first_is, is_refused, tree_refused}
use Rattle.mc_typing.proofs.order_law.order_of_refusals.Goals as goal

pub returns-clause-operands : goal.returns-clause-operands
returns-clause-operands c =
    λ k s callee ts r. (first_is k s callee ts r, is_refused k s callee ts r)

pub returns-clause-expressions : goal.returns-clause-expressions
returns-clause-expressions c = tree_refused
