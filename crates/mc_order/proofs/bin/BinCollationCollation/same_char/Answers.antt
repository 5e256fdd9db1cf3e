use Rattle.std.proofs.Common.{arith}
use Rattle.std.proofs.lemmas.Bool.Decides.{nat_tests}
use Rattle.mc_order.proofs.BinNumbers.{same_char_is}
use Rattle.mc_order.proofs.bin.BinCollationCollation.same_char.Goals as goal

pub returns : goal.returns
returns c =
    same_char_is c.args.self.now.0 c.args.c c.args.d _ (c.chars_law.ensures.no_prefix _)
    c.requires.first c.requires.second
    ((λ t. grind (arith, nat_tests)), (λ e. grind (arith, nat_tests)))
