-- The rows of one more table stand behind those so far.
use Rattle.std.proofs.Common.{◌≡◌, ◌++◌, ◌<◌, [], ◌∷◌, List, Ok, ap, drop, get_or, length, map, refl, sym, subst, ◌∙◌, ◌+◌, arith}
use Rattle.std.specs.List.{AllZip}
use Rattle.mc_base.specs.FileOutcome.{HasOutcome}
use Rattle.mc_book.specs.BookOutcome.{behind_outcome}
use Rattle.mc_catalog.specs.declared.catalog.TableDecl.{TableDecl}
use Rattle.mc_gather.specs.Tables.{AreRowsOf}
use Rattle.mycoll.specs.Tables.{table_rows, tables_outcome}
use Rattle.mycoll.specs.World.{Rows}
use Rattle.mycoll.proofs.TableSteps.{more_rows, none_told, one_more_table, told_both}
use Rattle.mycoll.proofs.table_files.open_each.Goals as goal

pub loop-table-init : goal.loop-table-init
loop-table-init g c = record {
  kept = refl;
  later = omega arith;
  told = none_told (g.F.Files.contents c.args.files.now) c.args.catalog.now c.args.rows.now c.requires.empty;
  rows = subst (λ rows. AllZip (AreRowsOf c.args.catalog.now) [] rows) (sym c.requires.empty) tt;
}

pub loop-table-preserved : goal.loop-table-preserved
loop-table-preserved g c =
    let catalog = c.args.catalog.now in
    let i = c.loop-table.table-index in
    let d = c.table-item.result in
    let before = c.loop-table.rows in
    let rows = c.in-Ok.loaded in
    let same = c.as_slice-table-items.ensures in
    let within : i < length catalog.tables = omega (arith, ap (λ (ts : List TableDecl). length ts) same) in
    let there : d ≡ get_or catalog.tables i d = cc (same, c.table-item.is) in
    record {
      kept = c.in-Ok.ensures.kept ∙ c.loop-table.invariant.kept;
      later = omega (arith, c.in-Ok.ensures.later, c.loop-table.invariant.later);
      told = rw c.in_ok-push-in-Ok.ensures.ok
          (told_both (λ told. behind_outcome before (map (table_rows told catalog) (drop i catalog.tables)) ≡ tables_outcome told catalog)
          (λ told. HasOutcome (λ (r : Rows). r) (Ok rows) (table_rows told catalog d))
          (λ told. behind_outcome (before ++ rows ∷ []) (map (table_rows told catalog) (drop (i + 1) catalog.tables)) ≡ tables_outcome told catalog)
          _ _ c.loop-table.invariant.kept c.loop-table.invariant.told c.in-Ok.ensures.told
          (λ told so_far here. one_more_table (table_rows told catalog) (tables_outcome told catalog) before rows catalog.tables i d
          within there so_far here));
      rows = rw c.in_ok-push-in-Ok.ensures.ok
          (more_rows (AreRowsOf catalog) catalog.tables before i d rows within there
          c.loop-table.invariant.rows c.in-Ok.ensures.rows);
    }
