use Rattle.std.proofs.Common.{arith}
use Rattle.mc_values.proofs.HexDigits.{digits_ascii, digits_utf8}
use Rattle.mc_values.proofs.hexadecimal.hex_law.Goals as goal

pub returns : goal.returns
returns c = record {
  ascii = digits_ascii c.args.bytes.now (λ i. omega (arith, c.type_inv.bytes i));
  utf8 = digits_utf8 c.args.bytes.now (λ i. omega (arith, c.type_inv.bytes i));
}
