-- The argument of the aggregate, and its value.
use Rattle.std.proofs.Common.{◌≡◌, Bor, List, ap, length, pos, subst, sym, ◌∙◌}
use Rattle.std.specs.Prelude.{All}
use Rattle.mc_typing.specs.declared.typed.Node.{Node, Node-F, out-Node}
use Rattle.mc_typing.specs.declared.typed.Node.TheVariants as node
use Rattle.mc_typing.specs.declared.typed.TypedExpr.{TypedExpr}
use Rattle.mc_values.specs.declared.value.Value.{Value}
use Rattle.mc_values.specs.declared.value.Value.TheVariants as value
use Rattle.mc_exec.specs.Ready.{GivesKind, NodeGivesKind}
use Rattle.mc_exec.proofs.Combined.{number_kept, told_kept}
use Rattle.mc_exec.proofs.aggregates.over_rows.Goals as goal

pub over_argument-requires-clause-kinds : goal.over_argument-requires-clause-kinds
over_argument-requires-clause-kinds g c =
    let m = g.B.Book.meaning c.args.book.now in
    let h = c.in-Aggregate in
    let is : out-Node c.args.aggregate.now.node ≡ Node-F.Aggregate h.name h.distinct h.arg h.place =
    ap out-Node h.is ∙ node.outs-Aggregate h.name h.distinct h.arg h.place in
    let at = is ∙ ap (λ a. Node-F.Aggregate h.name h.distinct a h.place) c.in-Some.is in
    subst (λ (x : TypedExpr). All (λ (r : Bor (List Value)). GivesKind m r.now x) c.args.rows.now)
    (sym c.get.ensures)
    (subst (λ (n : Node-F Node TypedExpr). All (λ (r : Bor (List Value)). NodeGivesKind m r.now n)
    c.args.rows.now) at c.requires.kinds)

pub returns-in-None-clause-kept : goal.returns-in-None-clause-kept
returns-in-None-clause-kept g c =
    let it = value.Int (pos (length c.args.rows.now)) in
    told_kept it c.made.result (number_kept (pos (length c.args.rows.now)))
    (c.made.ensures it c.number.ensures)
