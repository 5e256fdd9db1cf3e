use Rattle.mc_convert.proofs.Classes.{joined_low, joined_byte}
use Rattle.mc_convert.proofs.repertoire.with_char.Goals as goal

pub returns-then-code-lt128 : goal.returns-then-code-lt128
returns-then-code-lt128 c = λ other. joined_low c.args.set c.args.class other c.args.code c.if-code-lt128.true

pub returns-in-Binary : goal.returns-in-Binary
returns-in-Binary c = λ other. joined_byte c.args.set c.args.class other c.args.code c.in-Binary.is c.if-code-lt128.false
