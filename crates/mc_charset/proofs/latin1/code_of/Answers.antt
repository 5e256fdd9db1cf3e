-- The array has the code points of the rows from 80 to 9F.
use Rattle.std.proofs.Common.{◌≡◌, ◌-◌, refl, ap, sym, ◌∙◌, Some, arith, get_or}
use Rattle.mc_charset.proofs.ByteRows.{latin1_middle}
use Rattle.mc_charset.specs.declared.latin1.TheConstants.{CODES_80_TO_9F}
use Rattle.mc_charset.proofs.latin1.code_of.Goals as goal

pub returns-in-128-to-159 : goal.returns-in-128-to-159
returns-in-128-to-159 c =
    λ rest.
    let r : c.from-in-128-to-159.result ≡ get_or CODES_80_TO_9F (c.args.byte - 128) 0 = c.from-in-128-to-159.ensures ∙ ap (λ n. get_or CODES_80_TO_9F n 0) c.from.ensures in
    latin1_middle CODES_80_TO_9F c.args.byte rest refl refl (omega arith) (omega arith) ∙ ap (λ x. Some (x, 1)) (sym r)
