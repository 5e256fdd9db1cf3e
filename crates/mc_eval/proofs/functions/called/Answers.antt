use Rattle.std.proofs.Common.{sym, ap, ◌∙◌}
use Rattle.std.specs.List.{list_any}
use Rattle.mc_eval.specs.Functions.{applied, needed}
use Rattle.mc_eval.specs.Held.{held_values}
use Rattle.mc_eval.specs.Texts.{is_null}
use Rattle.mc_eval.proofs.HeldLists.{any_null}
use Rattle.mc_eval.proofs.NullCalls.{null_call, other_call}
use Rattle.mc_eval.proofs.functions.called.Goals as goal

pub returns-then-some_null : goal.returns-then-some_null
returns-then-some_null g c =
    let values = held_values c.args.operands.now in
    null_call (applied (g.B.Book.meaning c.args.book.now) c.args.name c.args.uses c.args.ty values) (list_any is_null (needed c.args.name values))
    (ap (list_any is_null) (sym c.needed.ensures) ∙ sym (any_null c.needed.result.now) ∙ sym c.some_null.ensures ∙ c.if-some_null.true)

pub returns : goal.returns
returns g c =
    let values = held_values c.args.operands.now in
    other_call (applied (g.B.Book.meaning c.args.book.now) c.args.name c.args.uses c.args.ty values) (list_any is_null (needed c.args.name values)) c.applied.result
    (ap (list_any is_null) (sym c.needed.ensures) ∙ sym (any_null c.needed.result.now) ∙ sym c.some_null.ensures ∙ c.if-some_null.false)
    c.applied.ensures
