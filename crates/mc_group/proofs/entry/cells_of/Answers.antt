use Rattle.std.proofs.Common.{sym, ◌∙◌}
use Rattle.mc_values.specs.declared.value.Value.TheVariants as value
use Rattle.mc_group.specs.declared.kind.KeyKind.TheVariants as kind
use Rattle.mc_group.specs.Cells.{cell_of}
use Rattle.mc_group.specs.Kinds.{IsOfKind}
use Rattle.mc_group.proofs.Lists.{AllZip-at, each_with_none, each_with_push}
use Rattle.mc_group.proofs.entry.cells_of.Goals as goal

pub loop-i-init : goal.loop-i-init
loop-i-init g c =
    c.new-cells.ensures
    ∙ sym (each_with_none (cell_of (g.B.Book.meaning c.args.book.now)) value.Null c.args.row.now)

pub cell_at-requires-clause-of_kind : goal.cell_at-requires-clause-of_kind
cell_at-requires-clause-of_kind g c =
    AllZip-at (IsOfKind (g.B.Book.meaning c.args.book.now)) c.args.kinds.now c.args.row.now
    c.loop-i.i kind.Int value.Null c.requires.key_row c.loop-i-test.true

pub loop-i-preserved : goal.loop-i-preserved
loop-i-preserved g c =
    each_with_push (cell_of (g.B.Book.meaning c.args.book.now)) value.Null c.args.kinds.now
    c.args.row.now c.loop-i.i kind.Int c.loop-i.cells c.push.new.self c.in_ok-cell_at.field-0
    c.loop-i-test.true c.loop-i.invariant c.in_ok-cell_at.ensures c.in_ok-push.ensures.ok
