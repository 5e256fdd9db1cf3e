-- The entries are those that the lines say.
use Rattle.std.proofs.Common.{arith, rules, Ok}
use Rattle.mc_base.specs.Lines.{lines_of}
use Rattle.mc_table8.specs.declared.format.Format.TheVariants.{Bytes}
use Rattle.mc_table8.proofs.EntryLemmas.{listed_small, space_single}
use Rattle.mc_table8.proofs.OutcomeLemmas.{table8_says}
use Rattle.mc_table8.proofs.table8_reader.read_table8.Goals as goal

pub entries_of-requires-clause-small : goal.entries_of-requires-clause-small
entries_of-requires-clause-small c = λ byte h.
    rw (c.in_ok-cells.ensures.1.each_cell byte (omega arith)) (listed_small Bytes (lines_of c.args.text.now) byte)

pub new-requires-clause-one_for_space : goal.new-requires-clause-one_for_space
new-requires-clause-one_for_space c =
    let cell = c.in_ok-cells.ensures.1.each_cell 0x20 (omega arith) in
    space_single Bytes c.in_ok-cells.cells.rest (lines_of c.args.text.now) _
    (rw cell at (c.in_ok-entries.ensures.1 0x20 (omega (arith, c.in_ok-entries.ensures.0))))

pub returns-in_err-cells-clause-outcome : goal.returns-in_err-cells-clause-outcome
returns-in_err-cells-clause-outcome c = table8_says c.args.text.now c.from_residual.result (search rules)

pub returns-in_err-entries-clause-outcome : goal.returns-in_err-entries-clause-outcome
returns-in_err-entries-clause-outcome c =
    table8_says c.args.text.now c.from_residual-in_err-entries.result (search rules)

pub returns-clause-outcome : goal.returns-clause-outcome
returns-clause-outcome c = table8_says c.args.text.now (Ok c.new.result) (search rules)
