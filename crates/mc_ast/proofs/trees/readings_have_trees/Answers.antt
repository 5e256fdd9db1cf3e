use Rattle.mc_ast.proofs.EachMeans.{has_tree}
use Rattle.mc_ast.proofs.trees.readings_have_trees.Goals as goal

pub returns : goal.returns
returns c = has_tree
