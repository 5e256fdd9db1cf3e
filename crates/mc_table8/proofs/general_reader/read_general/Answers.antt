-- The weights are those that the lines say.
use Rattle.std.proofs.Common.{arith, rules, Ok}
use Rattle.mc_base.specs.Lines.{lines_of}
use Rattle.mc_table8.specs.declared.format.Format.TheVariants.{Codes}
use Rattle.mc_table8.proofs.EntryLemmas.{listed_small}
use Rattle.mc_table8.proofs.OutcomeLemmas.{general_says}
use Rattle.mc_table8.proofs.general_reader.read_general.Goals as goal

pub weights_of-requires-clause-small : goal.weights_of-requires-clause-small
weights_of-requires-clause-small c = λ code h.
    rw (c.in_ok-cells.ensures.1.each_cell code (omega arith)) (listed_small Codes (lines_of c.args.text.now) code)

pub returns-in_err-cells-clause-outcome : goal.returns-in_err-cells-clause-outcome
returns-in_err-cells-clause-outcome c = general_says c.args.text.now c.from_residual.result (search rules)

pub returns-clause-outcome : goal.returns-clause-outcome
returns-clause-outcome c = general_says c.args.text.now (Ok c.new.result) (search rules)
