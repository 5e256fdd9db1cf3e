use Rattle.std.proofs.Common.{List, [], Some, codes, subst}
use Rattle.mc_typing.specs.declared.typed.TypedExpr.{TypedExpr}
use Rattle.mc_typing.specs.Exprs.{in_row}
use Rattle.mc_typing.specs.Gathered.{gathered, judged}
use Rattle.mc_typing.specs.Statements.{where_of}
use Rattle.mc_typing.specs.Wanted.{IsGathered, IsWanted}
use Rattle.mc_typing.proofs.Gatherings.{where_answers, whole_answer}
use Rattle.mc_typing.proofs.conjuncts.conjuncts_of.Goals as goal

pub returns-in-Ok : goal.returns-in-Ok
returns-in-Ok c =
    let found : IsGathered c.put_where.result c.put_where.new.xs
    (judged (codes "where") (gathered [] (in_row c.args.c.now c.args.s c.args.e.now))) =
    subst (λ (l : List TypedExpr). IsGathered c.put_where.result c.put_where.new.xs
    (judged (codes "where") (gathered l
    (in_row c.args.c.now c.args.s c.args.e.now)))) c.new-xs.ensures
    c.put_where.ensures in
    subst (λ r. IsWanted (whole_answer r c.put_where.new.xs)
    (where_of c.args.c.now c.args.s (Some c.args.e.now))) c.in-Ok.is
    (where_answers c.args.c.now c.args.s c.args.e.now c.put_where.result c.put_where.new.xs found)

pub returns-in-Err : goal.returns-in-Err
returns-in-Err c =
    let found : IsGathered c.put_where.result c.put_where.new.xs
    (judged (codes "where") (gathered [] (in_row c.args.c.now c.args.s c.args.e.now))) =
    subst (λ (l : List TypedExpr). IsGathered c.put_where.result c.put_where.new.xs
    (judged (codes "where") (gathered l
    (in_row c.args.c.now c.args.s c.args.e.now)))) c.new-xs.ensures
    c.put_where.ensures in
    subst (λ r. IsWanted (whole_answer r c.put_where.new.xs)
    (where_of c.args.c.now c.args.s (Some c.args.e.now))) c.in-Err.is
    (where_answers c.args.c.now c.args.s c.args.e.now c.put_where.result c.put_where.new.xs found)
