use Rattle.mc_table8.proofs.Bytes.{has_byte}
use Rattle.mc_table8.proofs.byte_of.byte_in.Goals as goal

pub returns-in-None : goal.returns-in-None
returns-in-None c =
    let byte = has_byte c.args.charset c.args.code c.requires.on_bytes c.requires.in_set in
    absurd (c.in-None.ensures byte.0 byte.1)
