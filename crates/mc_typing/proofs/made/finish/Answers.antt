use Rattle.std.proofs.Common.{◌+◌, subst}
use Rattle.mc_ast.specs.declared.expr.Form.TheViews.{out-Form}
use Rattle.mc_typing.specs.Aggregates.{aggregate_count, total}
use Rattle.mc_typing.specs.Exprs.{taker_of}
use Rattle.mc_typing.specs.Forms.{parts}
use Rattle.mc_typing.specs.Places.{place_below}
use Rattle.mc_typing.specs.Wanted.{IsLeft}
use Rattle.mc_typing.proofs.OperandTypes.{operands_typed}
use Rattle.mc_typing.proofs.Walked.{form_made, form_refused, left, many, walked_list}
use Rattle.mc_typing.proofs.made.finish.Goals as goal

pub several-requires-clause-typed : goal.several-requires-clause-typed
several-requires-clause-typed c =
    let z = out-Form c.args.form.now in
    operands_typed c.expression_law.ensures c.args.c.now c.args.s c.args.groups.now
    (place_below c.args.place z) c.args.first (taker_of z) (parts z) c.args.xs c.requires.scope
    (walked_list c.args.c.now c.args.s c.args.groups.now (place_below c.args.place z) (taker_of z)
    c.args.first (parts z) c.args.xs c.args.next
    (subst (λ d. IsLeft d (c.args.xs, c.args.next)
    (left c.args.c.now c.args.s c.args.groups.now c.args.place c.args.first z)) c.in-Ok.is
    c.requires.operands))

pub several-requires-clause-many : goal.several-requires-clause-many
several-requires-clause-many c =
    let z = out-Form c.args.form.now in
    many c.args.c.now c.args.s c.args.groups.now (place_below c.args.place z) (taker_of z)
    c.args.first (parts z) c.args.xs
    (walked_list c.args.c.now c.args.s c.args.groups.now (place_below c.args.place z) (taker_of z)
    c.args.first (parts z) c.args.xs c.args.next
    (subst (λ d. IsLeft d (c.args.xs, c.args.next)
    (left c.args.c.now c.args.s c.args.groups.now c.args.place c.args.first z)) c.in-Ok.is
    c.requires.operands))

pub returns-in-Ok : goal.returns-in-Ok
returns-in-Ok c =
    let z = out-Form c.args.form.now in
    form_made c.args.c.now c.args.s c.args.groups.now c.args.place c.args.first z c.args.xs
    c.args.next c.several.result
    (subst (λ d. IsLeft d (c.args.xs, c.args.next)
    (left c.args.c.now c.args.s c.args.groups.now c.args.place c.args.first z)) c.in-Ok.is
    c.requires.operands)
    (c.several.ensures c.args.place (c.args.first + total aggregate_count (parts z)))

pub returns-in-Err : goal.returns-in-Err
returns-in-Err c =
    let z = out-Form c.args.form.now in
    form_refused c.args.c.now c.args.s c.args.groups.now c.args.place c.args.first z
    c.in-Err.fault c.args.xs c.args.next
    (subst (λ d. IsLeft d (c.args.xs, c.args.next)
    (left c.args.c.now c.args.s c.args.groups.now c.args.place c.args.first z)) c.in-Err.is
    c.requires.operands)
