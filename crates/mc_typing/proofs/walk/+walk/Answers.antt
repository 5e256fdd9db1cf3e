use Rattle.std.proofs.Common.{◌≡◌, rules, sym, ◌∙◌}
use Rattle.std.specs.Prelude.{Ok}
use Rattle.mc_ast.specs.declared.expr.Form.TheViews.{out-Form}
use Rattle.mc_typing.specs.Forms.{parts}
use Rattle.mc_typing.specs.Places.{place_below}
use Rattle.mc_typing.specs.Walk.{first_numbered, numbered_form, settled}
use Rattle.mc_typing.specs.Wanted.{IsLeft, IsMade}
use Rattle.mc_typing.proofs.Walked.{leaf_made, single_made, tree_made, tree_refused}
use Rattle.mc_typing.proofs.walk.+walk.Goals as goal

pub type_expr-returns-in_err-x : goal.type_expr-returns-in_err-x
type_expr-returns-in_err-x t c =
    let faulty : IsMade c.from_residual.result c.type_form.new.next
    (numbered_form c.args.c.now c.args.s c.args.groups.now c.place_at-place.result
    c.args.next.now (out-Form c.args.e.now.form)) = search rules in
    tree_refused c.args.c.now c.args.s c.args.groups.now c.args.place c.place_at-place.result
    c.args.next.now c.type_form.new.next c.type_form.new.next c.args.e.now c.from_residual.result
    c.place_at-place.ensures c.from_residual.ensures.0 faulty

pub type_expr-returns : goal.type_expr-returns
type_expr-returns t c =
    let made : numbered_form c.args.c.now c.args.s c.args.groups.now c.place_at-place.result
    c.args.next.now (out-Form c.args.e.now.form) ≡ Ok (c.in_ok-x.x, c.type_form.new.next) =
    search rules in
    let left : IsLeft (Ok tt) c.settle.new.next
    (Ok (settled (out-Form c.args.e.now.form) c.args.next.now c.type_form.new.next)) =
    search rules in
    tree_made c.args.c.now c.args.s c.args.groups.now c.args.place c.place_at-place.result
    c.args.next.now c.type_form.new.next c.settle.new.next c.args.e.now c.in_ok-x.x
    c.place_at-place.ensures made left

pub type_form-returns-in-Leaf : goal.type_form-returns-in-Leaf
type_form-returns-in-Leaf t c = leaf_made c.args.c.now c.args.s c.args.groups.now c.args.place
    c.args.next.now (out-Form c.args.form.now) c.leaf.result (sym c.shape_of.ensures ∙ c.in-Leaf.is)
    c.leaf.ensures

pub type_form-returns-in_ok-x-in-Single : goal.type_form-returns-in_ok-x-in-Single
type_form-returns-in_ok-x-in-Single t c =
    let z = out-Form c.args.form.now in
    let part : first_numbered c.args.c.now c.args.s c.args.groups.now (place_below c.args.place z)
    c.args.next.now (parts z) ≡ Ok (c.in_ok-x-in-Single.x, c.type_part.new.next) = search rules in
    single_made c.args.c.now c.args.s c.args.groups.now c.args.place c.args.next.now z
    (sym c.shape_of.ensures ∙ c.in-Single.is) c.in_ok-x-in-Single.x c.type_part.new.next
    c.single.result part
    c.single.ensures
