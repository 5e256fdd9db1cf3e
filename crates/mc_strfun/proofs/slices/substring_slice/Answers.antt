use Rattle.std.proofs.Common.{sym, ap, length, ◌∙◌, to_z-of_z}
use Rattle.mc_charset.specs.Chars.{chars}
use Rattle.mc_strfun.specs.Slices.{before}
use Rattle.mc_strfun.proofs.Parts.{no_part}
use Rattle.mc_strfun.proofs.slices.substring_slice.Goals as goal

pub returns-in_default : goal.returns-in_default
returns-in_default c =
    let codes = chars c.args.set c.args.text.now in
    no_part c.args.set c.args.first c.args.count codes
    (sym (c.before-2.ensures ∙ ap (λ n. before n (length codes)) (to_z-of_z c.ranges.first)) ∙ c.in_default.is)
