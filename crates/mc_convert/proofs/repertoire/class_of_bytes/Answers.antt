use Rattle.mc_charset.specs.declared.charset.Charset.TheVariants.{Binary}
use Rattle.mc_convert.proofs.BytesClass.{ascii_bytes, other_bytes}
use Rattle.mc_convert.proofs.repertoire.class_of_bytes.Goals as goal

pub returns-then-is_ascii : goal.returns-then-is_ascii
returns-then-is_ascii c = ascii_bytes c.chars_law.ensures.decodes c.args.text.now c.if-is_ascii.ensures.cases

pub returns-else-is_ascii : goal.returns-else-is_ascii
returns-else-is_ascii c =
    other_bytes c.chars_law.ensures.decodes c.args.text.now
    (c.chars_law.ensures.encodes Binary c.args.text.now c.bytes_law.ensures.binary) c.if-is_ascii.ensures.cases
