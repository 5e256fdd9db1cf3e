-- Each text of bytes is well formed where each byte is a character.
use Rattle.std.proofs.Common.{refl, inl, inr, arith}
use Rattle.mc_charset.specs.declared.charset.Charset.TheVariants.{Latin1, Binary}
use Rattle.mc_charset.proofs.WellFormed.{every_text}
use Rattle.mc_charset.proofs.laws.bytes_law.Goals as goal

pub returns-clause-binary : goal.returns-clause-binary
returns-clause-binary c = (every_text Binary c.args.text.now (inr refl) (λ i. omega (arith, c.type_inv.text i))).0 refl

pub returns-clause-latin1 : goal.returns-clause-latin1
returns-clause-latin1 c = (every_text Latin1 c.args.text.now (inl refl) (λ i. omega (arith, c.type_inv.text i))).0 refl
