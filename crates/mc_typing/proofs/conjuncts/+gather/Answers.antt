use Rattle.std.proofs.Common.{List, false, map, subst, sym}
use Rattle.mc_ast.specs.declared.expr.Expr.{Expr}
use Rattle.mc_typing.specs.Exprs.{in_row}
use Rattle.mc_typing.specs.Gathered.{gathered_all}
use Rattle.mc_typing.specs.Wanted.{IsGathered}
use Rattle.mc_typing.proofs.Alone.{not_and_form}
use Rattle.mc_typing.proofs.Gatherings.{gathered_alone, gathered_and}
use Rattle.mc_typing.proofs.conjuncts.+gather.Goals as goal

pub put_conjuncts-returns-in-And : goal.put_conjuncts-returns-in-And
put_conjuncts-returns-in-And t c =
    let members : IsGathered c.put_members.result c.put_members.new.xs
    (gathered_all c.args.xs.now false
    (map (in_row c.args.c.now c.args.s) c.in-And.es)) =
    subst (λ (es : List Expr). IsGathered c.put_members.result c.put_members.new.xs
    (gathered_all c.args.xs.now false (map (in_row c.args.c.now c.args.s) es))) c.as_slice.ensures
    c.put_members.ensures in
    subst (IsGathered c.judge.result c.put_members.new.xs) (sym
    (gathered_and c.args.c.now c.args.s c.args.e.now
    c.in-And.es c.args.xs.now c.in-And.is)) (c.judge.ensures c.put_members.new.xs _ members)

pub put_conjuncts-returns-in_default : goal.put_conjuncts-returns-in_default
put_conjuncts-returns-in_default t c =
    subst (IsGathered c.put_alone.result c.put_alone.new.xs) (sym
    (gathered_alone c.args.c.now c.args.s
    c.args.e.now c.args.xs.now (not_and_form c.args.e.now.form c.in_default.not-And)))
    (c.put_alone.ensures (in_row c.args.c.now c.args.s c.args.e.now) c.type_in_row.ensures)
