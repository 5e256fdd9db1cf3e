use Rattle.std.proofs.Common.{[], ◌∷◌, ap, sym, subst, ◌∙◌}
use Rattle.mc_ast.specs.declared.expr.Form.TheVariants as form
use Rattle.mc_ast.specs.declared.expr.Form.TheViews.{out-Form}
use Rattle.mc_typing.specs.Exprs.{typed_node}
use Rattle.mc_typing.specs.Wanted.{IsWanted}
use Rattle.mc_typing.proofs.made.single.Goals as goal

pub returns-in-Collate : goal.returns-in-Collate
returns-in-Collate c = subst (λ z. IsWanted c.collate.result
    (typed_node c.args.c.now c.args.s c.args.place c.args.number z (c.args.x ∷ [])))
    (sym (ap out-Form c.in-Collate.is
    ∙ form.outs-Collate c.in-Collate.expr c.in-Collate.name)) c.collate.ensures
