use Rattle.std.proofs.Common.{subst}
use Rattle.mc_charset.specs.declared.charset.Charset.{Charset}
use Rattle.mc_convert.specs.Plain.{IsPlain}
use Rattle.mc_convert.proofs.Classes.{IsPlain_repertoire}
use Rattle.mc_convert.proofs.repertoire.class_of.Goals as goal

pub returns-then-is_plain : goal.returns-then-is_plain
returns-then-is_plain g c =
    IsPlain_repertoire g.E.Encoding.set c.args.text.now
    (subst (λ (set : Charset). IsPlain set c.args.text.now) c.charset.ensures c.if-is_plain.ensures)
