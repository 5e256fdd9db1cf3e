use Rattle.mc_group.specs.declared.kind.KeyKind.TheVariants as kind
use Rattle.mc_order.specs.Bin.{bin_meaning}
use Rattle.mc_group_tests.proofs.Keys.{two}
use Rattle.mc_group_tests.proofs.group_tests.key_row.Goals as goal

pub returns : goal.returns
returns c =
    two (λ id. bin_meaning c.args.book.now.collation) kind.Int (kind.Text (record { 0 = 0 }))
    c.number.result c.in_ok-value.value c.in_ok-row.row
    (c.number.ensures (λ id. bin_meaning c.args.book.now.collation)) c.in_ok-value.ensures
    c.in_ok-row.ensures
