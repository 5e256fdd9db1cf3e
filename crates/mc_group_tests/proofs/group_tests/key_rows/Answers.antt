use Rattle.mc_group.specs.Kinds.{IsKeyRow}
use Rattle.mc_order.specs.Bin.{bin_meaning}
use Rattle.mc_group_tests.specs.declared.group_tests.TheConstants.{KINDS}
use Rattle.mc_group_tests.proofs.Keys.{one_more}
use Rattle.mc_group_tests.proofs.group_tests.key_rows.Goals as goal

pub loop-key-preserved : goal.loop-key-preserved
loop-key-preserved c =
    one_more (IsKeyRow (λ id. bin_meaning c.args.book.now.collation) KINDS) c.loop-key.rows
    c.push.new.self c.in_ok-key_row.field-0 c.loop-key.invariant c.in_ok-key_row.ensures
    c.in_ok-push.ensures.ok
