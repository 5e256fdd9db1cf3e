use Rattle.std.proofs.Common.{arith, refl}
use Rattle.mc_charset.specs.declared.charset.Charset.TheVariants.{Ucs2, Utf32}
use Rattle.mc_charset.proofs.Start.{width_1, width_at}
use Rattle.mc_charset.proofs.count.fixed_width.Goals as goal

pub returns-in-Latin1 : goal.returns-in-Latin1
returns-in-Latin1 c = (omega arith, omega arith, width_1 c.args.set c.in-Latin1.is)

pub returns-in-Ucs2 : goal.returns-in-Ucs2
returns-in-Ucs2 c = (omega arith, omega arith, width_at c.args.set Ucs2 2 c.in-Ucs2.is refl)

pub returns-in-Utf32 : goal.returns-in-Utf32
returns-in-Utf32 c = (omega arith, omega arith, width_at c.args.set Utf32 4 c.in-Utf32.is refl)
