use Rattle.mc_grammar.proofs.Completing.{completes}
use Rattle.mc_grammar.proofs.completed.symbols_are_completed.Goals as goal

pub returns : goal.returns
returns g c = λ l completions complete symbols. completes l completions complete symbols
