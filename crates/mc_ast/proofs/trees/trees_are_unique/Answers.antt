use Rattle.mc_ast.proofs.OneTree.{one_tree}
use Rattle.mc_ast.proofs.trees.trees_are_unique.Goals as goal

pub returns : goal.returns
returns c = one_tree c.statements_read_once.ensures
