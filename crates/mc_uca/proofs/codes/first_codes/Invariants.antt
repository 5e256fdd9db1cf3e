use Rattle.std.proofs.Common.{◌≡◌, ◌++◌, true, length, take}
use Rattle.mc_charset.specs.Chars.{chars}
use Rattle.mc_uca.specs.Weighing.{is_of_set}
use Rattle.mc_uca.proofs.codes.first_codes.Given as goal

abbrev pub invariant-loop-count : goal.invariant-loop-count
invariant-loop-count g l = record {
  left : take l.count l.window ++ chars g.E.Encoding.set l.rest
      ≡ chars g.E.Encoding.set l.fn.text;
  of_set : is_of_set g.E.Encoding.set (take l.count l.window) ≡ true;
  long : length l.window ≡ 6;
}
