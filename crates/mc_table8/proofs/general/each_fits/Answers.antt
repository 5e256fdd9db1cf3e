use Rattle.std.proofs.Common.{arith}
use Rattle.mc_table8.proofs.general.each_fits.Goals as goal

pub returns : goal.returns
returns c = λ code. omega (arith, c.type_inv.weights code)
