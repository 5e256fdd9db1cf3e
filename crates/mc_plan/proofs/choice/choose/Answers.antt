use Rattle.std.proofs.Common.{[], length, sym, subst}
use Rattle.std.specs.Prelude.{All}
use Rattle.mc_catalog.specs.Fits.{FitsCatalog}
use Rattle.mc_typing.specs.SoundStatements.{row_types}
use Rattle.mc_plan.specs.Constants.{HasTexts}
use Rattle.mc_plan.specs.Steps.{IsInBook}
use Rattle.mc_plan.proofs.Chosen.{chosen_in, chosen_none, found_lent, has_bounds, has_places}
use Rattle.mc_plan.proofs.Chosen.{indexes_in_book, loses_none, rejects_lent, scan_loses_none}
use Rattle.mc_plan.proofs.Served.{Sound, have_texts, indexes_in, lawful_at, some_collations}
use Rattle.mc_plan.proofs.choice.choose.Goals as goal

pub returns-in_default-clause-is : goal.returns-in_default-clause-is
returns-in_default-clause-is g c =
    chosen_none c.args.c.now (g.B.Book.meaning c.args.book.now) c.args.q.now
    c.in_default.is

pub returns-in_default-clause-loses_none : goal.returns-in_default-clause-loses_none
returns-in_default-clause-loses_none g c =
    scan_loses_none c.args.c.now (g.B.Book.meaning c.args.book.now) c.args.q.now

pub first_index-requires-clause-in_book : goal.first_index-requires-clause-in_book
first_index-requires-clause-in_book g c =
    let cat = c.args.c.now in
    let table = c.table_at-table.result.now in
    let fits = c.requires.fits.counted in
    let all = indexes_in (length cat.collations) table (some_collations cat c.requires.lawful)
    (lawful_at cat c.requires.lawful c.in-Some.place table c.table_at-table.ensures)
    c.as_slice-3.result.now in
    subst (λ columns. All (IsInBook (g.B.Book.count c.args.book.now) columns)
    c.as_slice-3.result.now) (sym c.as_slice.ensures)
    (subst (λ count. All (IsInBook count table.columns) c.as_slice-3.result.now) (sym fits) all)

pub first_index-requires-clause-texts : goal.first_index-requires-clause-texts
first_index-requires-clause-texts g c =
    let cat = c.args.c.now in
    let columns = row_types cat c.args.q.now.table in
    let sound : Sound cat columns [] = record {
      node = c.sound_law.ensures.node cat columns [];
      parts = c.sound_law.ensures.parts cat columns [];
    } in
    subst (All HasTexts) (sym c.as_slice-2.ensures)
    (have_texts cat columns [] sound c.args.q.now.conjuncts c.requires.sound.conjuncts)

pub returns-clause-is : goal.returns-clause-is
returns-clause-is g c =
    let m = g.B.Book.meaning c.args.book.now in
    let table = c.table_at-table.result.now in
    chosen_in c.args.c.now m c.args.q.now c.in-Some.place table c.in_ok-found.found c.plan_of.result
    c.in-Some.is c.table_at-table.ensures
    (found_lent m c.args.q.now table _ _ _ c.in_ok-found.found c.as_slice.ensures
    c.as_slice-2.ensures c.as_slice-3.ensures c.in_ok-found.ensures.is) c.plan_of.ensures

pub returns-clause-places : goal.returns-clause-places
returns-clause-places g c =
    let table = c.table_at-table.result.now in
    has_places (g.B.Book.count c.args.book.now) c.args.c.now (g.B.Book.meaning c.args.book.now)
    c.args.q.now c.plan_of.result (indexes_in_book (g.B.Book.count c.args.book.now) c.args.c.now
    c.args.q.now c.in-Some.place table c.requires.lawful c.requires.fits.counted c.in-Some.is
    c.table_at-table.ensures) (returns-clause-is g c)

pub returns-clause-bounds : goal.returns-clause-bounds
returns-clause-bounds g c =
    has_bounds c.in_ok-found.found c.plan_of.result c.plan_of.ensures c.in_ok-found.ensures.bounds

pub returns-clause-loses_none : goal.returns-clause-loses_none
returns-clause-loses_none g c =
    let m = g.B.Book.meaning c.args.book.now in
    let cat = c.args.c.now in
    let table = c.table_at-table.result.now in
    let fits = subst (λ count. FitsCatalog cat count (λ id. (m id).charset))
    c.requires.fits.counted c.requires.fits in
    loses_none cat m c.args.q.now c.in-Some.place table c.requires.lawful fits
    (lawful_at cat c.requires.lawful c.in-Some.place table c.table_at-table.ensures)
    c.in-Some.is c.table_at-table.ensures c.in_ok-found.found c.plan_of.result c.plan_of.ensures
    (rejects_lent m c.args.q.now table _ _ _ c.in_ok-found.found c.as_slice.ensures
    c.as_slice-2.ensures c.as_slice-3.ensures c.in_ok-found.ensures.rejects)
