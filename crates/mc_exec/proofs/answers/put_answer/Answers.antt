-- What a scan keeps, and what is shown of it.
use Rattle.std.proofs.Common.{Bor, List, [], ap, map, subst, sym, ◌∙◌}
use Rattle.std.specs.Prelude.{All, Option, option_and_then}
use Rattle.mc_catalog.specs.declared.catalog.Catalog.{Catalog}
use Rattle.mc_eval.specs.Acceptance.{acceptance}
use Rattle.mc_eval.specs.Node.{place}
use Rattle.mc_values.specs.declared.value.Value.{Value}
use Rattle.mc_exec.specs.FullScan.{finish, full_scan, kept_rows}
use Rattle.mc_exec.specs.Shown.{subjects_of}
use Rattle.mc_exec.specs.Source.{source}
use Rattle.mc_exec.specs.Steps.{IsReadable}
use Rattle.mc_exec.specs.Told.{TellsOf}
use Rattle.mc_exec.proofs.Filled.{fails}
use Rattle.mc_exec.proofs.KeyRows.{kept_each, lent}
use Rattle.mc_exec.proofs.answers.put_answer.Goals as goal

pub put_shown_rows-requires-clause-rows : goal.put_shown_rows-requires-clause-rows
put_shown_rows-requires-clause-rows g c =
    let m = g.B.Book.meaning c.args.book.now in
    let t = c.args.t.now in
    let q = c.args.q.now in
    let P : List Value → Type 0 = IsReadable t.catalog q.table in
    let accepted = λ (row : List Value). acceptance (place row [] m) q.conjuncts in
    let rows = map (λ (r : Bor (List Value)). r.now) c.kept_rows.new.kept in
    let read : All P rows = kept_each P accepted (source t.rows q.table) rows c.in-Ok.ensures.told
    c.in-Ok.ensures.readable in
    subst (λ (l : List (Bor (List Value))).
    All (λ (r : Bor (List Value)). IsReadable c.catalog.result.now q.table r.now) l)
    (sym c.as_slice.ensures)
    (subst (λ (catalog : Catalog).
    All (λ (r : Bor (List Value)). IsReadable catalog q.table r.now) c.kept_rows.new.kept)
    (sym c.catalog.ensures) (lent P c.kept_rows.new.kept read))

pub returns-in-Ok-clause-told : goal.returns-in-Ok-clause-told
unfolding full_scan
returns-in-Ok-clause-told g c =
    let m = g.B.Book.meaning c.args.book.now in
    let t = c.args.t.now in
    let q = c.args.q.now in
    let seen = λ (r : Bor (List Value)). r.now in
    subst (λ (o : Option (List (List Value))).
    TellsOf o c.put_shown_rows.new.shown c.put_shown_rows.result)
    (ap (λ (catalog : Catalog). option_and_then (finish m q)
    (subjects_of catalog m q q.grouped (map seen c.as_slice.result.now))) c.catalog.ensures
    ∙ (ap (λ (l : List (Bor (List Value))). option_and_then (finish m q)
    (subjects_of t.catalog m q q.grouped (map seen l))) c.as_slice.ensures
    ∙ sym (ap (option_and_then (λ (kept : List (List Value)). option_and_then (finish m q)
    (subjects_of t.catalog m q q.grouped kept))) c.in-Ok.ensures.told)))
    c.put_shown_rows.ensures.told

pub returns-clause-told : goal.returns-clause-told
unfolding full_scan
returns-clause-told g c =
    let m = g.B.Book.meaning c.args.book.now in
    let t = c.args.t.now in
    let q = c.args.q.now in
    fails (kept_rows m q (source t.rows q.table)) (full_scan t.catalog m q (source t.rows q.table))
    c.in-Err.fault (λ e. ap (option_and_then (λ (kept : List (List Value)).
    option_and_then (finish m q) (subjects_of t.catalog m q q.grouped kept))) e)
    c.in-Err.ensures.told
