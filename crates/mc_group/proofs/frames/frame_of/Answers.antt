use Rattle.std.proofs.Common.{sym, ap, ◌∙◌}
use Rattle.std.specs.List.{flat_map}
use Rattle.mc_values.specs.declared.value.Value.TheVariants as value
use Rattle.mc_group.specs.declared.kind.KeyKind.TheVariants as kind
use Rattle.mc_group.specs.Frames.{cell_frame, key_cell}
use Rattle.mc_group.specs.Kinds.{IsOfKind}
use Rattle.mc_group.proofs.Lists.{AllZip-at, each_with_none}
use Rattle.mc_group.proofs.SameRows.{frame_push}
use Rattle.mc_group.proofs.frames.frame_of.Goals as goal

pub loop-i-init : goal.loop-i-init
loop-i-init g c =
    c.new-frame.ensures.items
    ∙ sym (ap (flat_map cell_frame)
    (each_with_none (key_cell (g.B.Book.meaning c.args.book.now)) value.Null c.args.row.now))

pub push_at-requires-clause-of_kind : goal.push_at-requires-clause-of_kind
push_at-requires-clause-of_kind g c =
    AllZip-at (IsOfKind (g.B.Book.meaning c.args.book.now)) c.args.kinds.now c.args.row.now
    c.loop-i.i kind.Int value.Null c.requires.key_row c.loop-i-test.true

pub loop-i-preserved : goal.loop-i-preserved
loop-i-preserved g c =
    frame_push (g.B.Book.meaning c.args.book.now) c.args.kinds.now c.args.row.now c.loop-i.i
    kind.Int c.loop-i.frame.items _ c.loop-i-test.true c.loop-i.invariant
    c.in_ok-push_at.ensures
