use Rattle.std.proofs.Common.{subst}
use Rattle.mc_charset.specs.Chars.{IsWellFormed}
use Rattle.mc_charset.specs.declared.charset.Charset.TheVariants.{Binary}
use Rattle.mc_eval.proofs.texts.stays.Goals as goal

pub returns-clause-well_formed : goal.returns-clause-well_formed
returns-clause-well_formed c = λ is.
    let text = c.args.text.now in
    let kept = c.keeps_bytes.ensures.exactly.0 is text c.requires in
    let bytes : IsWellFormed Binary text =
    subst (IsWellFormed Binary) c.as_slice.ensures c.bytes_law.ensures.binary in
    subst (IsWellFormed c.args.to) kept
    (c.conversion_law.ensures.well_formed c.args.from c.args.to text bytes)
