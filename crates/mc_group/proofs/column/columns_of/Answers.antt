use Rattle.std.proofs.Common.{false, get_or, sym, ap, ◌∙◌}
use Rattle.mc_group.specs.declared.kind.KeyKind.TheVariants as kind
use Rattle.mc_group.specs.Cells.{column_of}
use Rattle.mc_group.proofs.Lists.{each_with_none, each_with_push}
use Rattle.mc_group.proofs.column.columns_of.Goals as goal

pub loop-i-init : goal.loop-i-init
loop-i-init g c =
    c.new-columns.ensures
    ∙ sym (each_with_none (column_of (g.B.Book.meaning c.args.book.now)) false c.args.desc.now)

pub loop-i-preserved : goal.loop-i-preserved
loop-i-preserved g c =
    each_with_push (column_of (g.B.Book.meaning c.args.book.now)) false c.args.kinds.now
    c.args.desc.now c.loop-i.i kind.Int c.loop-i.columns c.push.new.self c.column_of.result
    c.loop-i-test.true c.loop-i.invariant
    (c.column_of.ensures ∙ ap (column_of (g.B.Book.meaning c.args.book.now)
    (get_or c.args.kinds.now c.loop-i.i kind.Int)) c.desc_at.ensures) c.in_ok-push.ensures.ok
