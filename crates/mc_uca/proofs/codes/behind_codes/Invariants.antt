use Rattle.std.proofs.Common.{◌≡◌, drop}
use Rattle.mc_charset.specs.Chars.{chars}
use Rattle.mc_uca.proofs.codes.behind_codes.Given as goal

abbrev pub invariant-loop : goal.invariant-loop
invariant-loop g l = chars g.E.Encoding.set l.rest
    ≡ drop l.counter (chars g.E.Encoding.set l.fn.text)
