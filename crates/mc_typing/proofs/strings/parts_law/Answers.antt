use Rattle.mc_typing.proofs.Scripts.{parts_utf8}
use Rattle.mc_typing.proofs.strings.parts_law.Goals as goal

pub returns : goal.returns
returns c = parts_utf8 c.args.e.now.form c.requires
