use Rattle.mc_print.proofs.EscapeLaws.{no_separator, reads_back}
use Rattle.mc_print.proofs.laws.escape_law.Goals as goal

pub returns-clause-no_separator : goal.returns-clause-no_separator
returns-clause-no_separator c = no_separator

pub returns-clause-reads_back : goal.returns-clause-reads_back
returns-clause-reads_back c = reads_back
