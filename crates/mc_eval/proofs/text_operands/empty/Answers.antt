use Rattle.std.proofs.Common.{sym, subst}
use Rattle.mc_charset.specs.Chars.{IsWellFormed}
use Rattle.mc_eval.proofs.Spelled.{empty}
use Rattle.mc_eval.proofs.text_operands.empty.Goals as goal

pub returns-clause-well_formed : goal.returns-clause-well_formed
returns-clause-well_formed c =
    subst (λ t. IsWellFormed c.args.set t) (sym c.new.ensures) (empty c.args.set)
