use Rattle.std.proofs.Common.{ap, ◌∙◌, w64, rules, arith}
use Rattle.std.proofs.lemmas.Int.{to_z-of_z}
use Rattle.mc_ast.specs.Grouping.{whole}
use Rattle.mc_ast.specs.declared.expr.Form.TheVariants.{Int}
use Rattle.mc_parse.proofs.PrimWays.{number_read, true_read, false_read, null_read}
use Rattle.mc_parse.proofs.primary.literal.Goals as goal

pub returns-in-Some : goal.returns-in-Some
returns-in-Some c below =
    number_read below _ _ _ _ _ c.in-Some.ensures c.span.ensures
    (c.whole.ensures ∙ ap (λ n. whole c.span.result (Int n))
    (to_z-of_z w64 c.in-Some.number (first_of (search rules, grind arith))))

pub returns-in-Some-keyword : goal.returns-in-Some-keyword
returns-in-Some-keyword c below =
    true_read below _ _ _ _ c.in-Some-keyword.ensures c.span-in-Some-keyword.ensures
    c.whole-in-Some-keyword.ensures

pub returns-in-Some-keyword-2 : goal.returns-in-Some-keyword-2
returns-in-Some-keyword-2 c below =
    false_read below _ _ _ _ c.in-Some-keyword-2.ensures c.span-in-Some-keyword-2.ensures
    c.whole-in-Some-keyword-2.ensures

pub returns-in-Some-keyword-3 : goal.returns-in-Some-keyword-3
returns-in-Some-keyword-3 c below =
    null_read below _ _ _ _ c.in-Some-keyword-3.ensures c.span-in-Some-keyword-3.ensures
    c.whole-in-Some-keyword-3.ensures
