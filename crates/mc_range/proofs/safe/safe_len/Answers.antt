use Rattle.std.proofs.Common.{arith}
use Rattle.mc_range.proofs.SafeChars.{char_at}
use Rattle.mc_range.proofs.safe.safe_len.Goals as goal

pub is_safe-requires : goal.is_safe-requires
is_safe-requires g c =
    char_at (g.C.Collation.meaning c.args.collation.now).charset c.args.codes.now c.loop-len.len 0
    c.requires (omega arith)
