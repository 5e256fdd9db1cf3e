use Rattle.std.proofs.Common.{length, sym, ap, ◌∙◌}
use Rattle.mc_order.specs.Bin.{bin_meaning}
use Rattle.mc_group_tests.specs.declared.group_tests.TheConstants.{KINDS}
use Rattle.mc_group_tests.proofs.Keys.{at_kinds, in_book}
use Rattle.mc_group_tests.proofs.group_tests.order_and_groups.Goals as goal

pub order_rows-requires-clause-in_book : goal.order_rows-requires-clause-in_book
order_rows-requires-clause-in_book c = in_book c.in_ok-kinds.kinds c.in_ok-kinds.ensures

pub order_rows-requires-clause-key_rows : goal.order_rows-requires-clause-key_rows
order_rows-requires-clause-key_rows c =
    at_kinds (λ id. bin_meaning c.new.result) c.in_ok-kinds.kinds KINDS c.in_ok-keys.keys
    c.in_ok-kinds.ensures c.in_ok-keys.ensures

pub order_rows-requires-clause-directions : goal.order_rows-requires-clause-directions
order_rows-requires-clause-directions c =
    ap length c.in_ok-desc.ensures ∙ sym (ap length c.in_ok-kinds.ensures)

pub group_rows-requires-clause-in_book : goal.group_rows-requires-clause-in_book
group_rows-requires-clause-in_book c = in_book c.in_ok-kinds.kinds c.in_ok-kinds.ensures

pub group_rows-requires-clause-key_rows : goal.group_rows-requires-clause-key_rows
group_rows-requires-clause-key_rows c =
    at_kinds (λ id. bin_meaning c.new.result) c.in_ok-kinds.kinds KINDS c.in_ok-keys.keys
    c.in_ok-kinds.ensures c.in_ok-keys.ensures
