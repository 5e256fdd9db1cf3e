-- By the meaning of each alternative.
use Rattle.mc_ast.proofs.Utf8Trees.{tree_texts}
use Rattle.mc_ast.proofs.texts.texts_law.Goals as goal

pub returns : goal.returns
returns c = tree_texts
