use Rattle.std.proofs.Common.{[], ◌∙◌, arith}
use Rattle.std.specs.Str.{bytes_eq}
use Rattle.mc_group.specs.Frames.{row_frame}
use Rattle.mc_group.proofs.GroupNumbers.{numbers_all, numbers_more}
use Rattle.mc_group.proofs.SameRows.{numbers_of_rows}
use Rattle.mc_group.proofs.grouping.numbers_of.Goals as goal

pub loop-i-preserved : goal.loop-i-preserved
loop-i-preserved g c =
    numbers_more (row_frame (g.B.Book.meaning c.args.book.now) c.args.kinds.now) bytes_eq
    c.args.keys.now c.loop-i.i [] c.loop-i.seen _ c.loop-i.numbers c.push.new.self _
    c.in_ok-number.number c.loop-i-test.true c.loop-i.invariant c.in_ok-number.ensures.number
    c.in_ok-number.ensures.added c.in_ok-push.ensures.ok

pub returns : goal.returns
returns g c =
    numbers_all (row_frame (g.B.Book.meaning c.args.book.now) c.args.kinds.now) bytes_eq
    c.args.keys.now c.loop-i.i c.loop-i.seen c.loop-i.numbers _ (omega arith) c.loop-i.invariant
    ∙ numbers_of_rows c.key_laws.ensures.equal (g.B.Book.meaning c.args.book.now)
    c.args.kinds.now c.args.keys.now
