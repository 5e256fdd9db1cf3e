-- A text that is UTF-8 is its own longest prefix that is.
use Rattle.std.proofs.lemmas.Str.{utf8_valid_len-IsUtf8}
use Rattle.mycoll.proofs.script.valid_prefix.Goals as goal

pub returns-in-Ok-clause-length : goal.returns-in-Ok-clause-length
returns-in-Ok-clause-length c = utf8_valid_len-IsUtf8 c.args.text.now c.in-Ok.ensures.cases.1
