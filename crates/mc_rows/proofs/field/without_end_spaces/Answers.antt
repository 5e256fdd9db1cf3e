-- A space at the end falls away.
use Rattle.std.proofs.Common.{arith}
use Rattle.mc_rows.proofs.Written.{one_space_less, shorter_utf8}
use Rattle.mc_rows.proofs.field.without_end_spaces.Goals as goal

pub loop-len-preserved : goal.loop-len-preserved
loop-len-preserved c =
    let inv = c.loop-len.invariant in
    record {
      within = omega (arith, inv.within);
      utf8 = shorter_utf8 c.loop-len.len c.args.text.now c.loop-len-test.true inv.within c.if-text-len-ne32.false inv.utf8;
      kept = one_space_less c.loop-len.len c.args.text.now c.loop-len-test.true inv.within c.if-text-len-ne32.false inv.kept;
    }
