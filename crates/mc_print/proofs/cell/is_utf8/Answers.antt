use Rattle.mc_print.proofs.SameBytes.{ascii_tells, utf8_kept}
use Rattle.mc_print.proofs.cell.is_utf8.Goals as goal

pub returns-in-Utf8mb3 : goal.returns-in-Utf8mb3
returns-in-Utf8mb3 c =
    utf8_kept c.chars_law.ensures.decodes c.conversion_law.ensures.is c.wider_law.ensures.utf8mb4
    c.args.set c.args.text.now c.in-Utf8mb3.is c.requires

pub returns-in-Latin1 : goal.returns-in-Latin1
returns-in-Latin1 c =
    ascii_tells c.chars_law.ensures.decodes c.conversion_law.ensures.is c.ascii_law.ensures
    c.is_ascii.result c.args.set c.args.text.now c.in-Latin1.is c.is_ascii.ensures.cases
