-- The rows that the statement's plan reads are scanned, or one row without values.
use Rattle.std.proofs.Common.{◌≡◌, ℕ, List, [], Some, ap, map, subst, sym, ◌∙◌}
use Rattle.std.proofs.lemmas.List.Elements.{All-weaker}
use Rattle.std.specs.Prelude.{All, Option, filter}
use Rattle.mc_catalog.specs.declared.catalog.Catalog.{Catalog}
use Rattle.mc_eval.specs.Acceptance.{acceptance}
use Rattle.mc_eval.specs.Node.{place}
use Rattle.mc_eval.specs.Outcomes.{IsKept}
use Rattle.mc_eval.specs.Prepared.{prepared_exprs}
use Rattle.mc_gather.specs.Indexed.{rows_in}
use Rattle.mc_plan.specs.Entries.{is_entry}
use Rattle.mc_plan.specs.Rejects.{LosesNone}
use Rattle.mc_typing.specs.declared.typed.TypedExpr.{TypedExpr}
use Rattle.mc_values.specs.declared.value.Value.{Value}
use Rattle.mc_exec.specs.Kept.{kept}
use Rattle.mc_exec.specs.Source.{source}
use Rattle.mc_exec.specs.Steps.{IsFit, IsReadable, kept_with, with_kept}
use Rattle.mc_exec.specs.Told.{TellsOf}
use Rattle.mc_exec.proofs.PlanRows.{kept_planned}
use Rattle.mc_exec.proofs.Rows.{one_kept}
use Rattle.mc_exec.proofs.Scans.{all_kept}
use Rattle.mc_exec.proofs.scan.keep_source.Goals as goal

pub keep_planned-requires-clause-rows : goal.keep_planned-requires-clause-rows
keep_planned-requires-clause-rows g c =
    let t = c.args.t.now in
    let p = c.in-Some.place in
    All-weaker (IsReadable t.catalog (Some p)) (All IsKept) (λ row h. h.kept) (rows_in t.rows p)
    (subst (λ (o : Option ℕ). All (IsReadable t.catalog o) (source t.rows o)) c.in-Some.is
    c.requires.readable)

pub keep_planned-requires-clause-fit : goal.keep_planned-requires-clause-fit
keep_planned-requires-clause-fit g c = subst (λ (es : List TypedExpr).
    All (IsFit (g.B.Book.count c.args.book.now)) es) (sym c.requires.exprs) c.requires.fit

pub keep_row-requires-clause-fit : goal.keep_row-requires-clause-fit
keep_row-requires-clause-fit g c = subst (λ (es : List TypedExpr).
    All (IsFit (g.B.Book.count c.args.book.now)) es) (sym c.requires.exprs) c.requires.fit

pub returns-in-Ok-clause-told : goal.returns-in-Ok-clause-told
returns-in-Ok-clause-told g c =
    let t = c.args.t.now in
    let q = c.args.q.now in
    let m = g.B.Book.meaning c.args.book.now in
    let p = c.in-Some.place in
    let accepted = λ (row : List Value). acceptance (place row [] m) q.conjuncts in
    let ready = λ (row : List Value).
    acceptance (place row [] m) (prepared_exprs c.args.conjuncts.now) in
    let loses = subst (λ (catalog : Catalog). LosesNone catalog m q c.in-Ok.plan)
    c.catalog.ensures c.in-Ok.ensures.loses_none in
    let rows = filter (is_entry t.catalog m (Some p) c.in-Ok.plan) (rows_in t.rows p) in
    let is : with_kept ready (map (λ r. r.now) c.args.kept.now) rows
    ≡ kept accepted (source t.rows q.table) =
    ap (λ (es : List TypedExpr). with_kept (λ row. acceptance (place row [] m) es)
    (map (λ r. r.now) c.args.kept.now) rows) c.requires.exprs
    ∙ ap (λ l. with_kept accepted (map (λ r. r.now) l) rows) c.requires.none
    ∙ (all_kept accepted rows ∙ kept_planned t.catalog m q c.in-Ok.plan t.rows p c.in-Some.is loses
    c.requires.readable) in
    subst (λ (o : Option (List (List Value))).
    TellsOf o (map (λ r. r.now) c.keep_planned.new.kept) c.keep_planned.result) is
    c.keep_planned.ensures.told

pub returns-in-None-clause-told : goal.returns-in-None-clause-told
returns-in-None-clause-told g c =
    let m = g.B.Book.meaning c.args.book.now in
    let accepted = λ (row : List Value). acceptance (place row [] m) c.args.q.now.conjuncts in
    let ready = acceptance (place c.args.empty.now [] m) (prepared_exprs c.args.conjuncts.now) in
    let is : kept_with ready (map (λ r. r.now) c.args.kept.now) c.args.empty.now
    ≡ kept accepted (source c.args.t.now.rows c.args.q.now.table) =
    ap (λ (es : List TypedExpr). kept_with (acceptance (place c.args.empty.now [] m) es)
    (map (λ r. r.now) c.args.kept.now) c.args.empty.now) c.requires.exprs
    ∙ ap (λ l. kept_with (accepted c.args.empty.now) (map (λ r. r.now) l) c.args.empty.now)
    c.requires.none
    ∙ (ap (λ l. kept_with (accepted l) [] l) c.requires.empty
    ∙ (one_kept accepted []
    ∙ ap (λ o. kept accepted (source c.args.t.now.rows o)) (sym c.in-None.is))) in
    subst (λ (o : Option (List (List Value))).
    TellsOf o (map (λ r. r.now) c.keep_row.new.kept) c.keep_row.result) is c.keep_row.ensures.told
