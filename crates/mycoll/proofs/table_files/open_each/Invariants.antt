-- The rows of the tables so far stand before those that are left.
use Rattle.std.proofs.Common.{◌≡◌, ◌≤◌, IfSome, drop, map, take}
use Rattle.std.specs.List.{AllZip}
use Rattle.mc_book.specs.BookOutcome.{behind_outcome}
use Rattle.mc_gather.specs.Tables.{AreRowsOf}
use Rattle.mycoll.specs.Tables.{table_rows, tables_outcome}
use Rattle.mycoll.proofs.table_files.open_each.Given as goal

abbrev pub invariant-loop-table : goal.invariant-loop-table
invariant-loop-table g l =
    let contents = g.F.Files.contents in
    let tables = l.catalog.tables in
    record {
      kept : contents l.files ≡ contents l.initial.files;
      later : g.F.Files.faults l.initial.files ≤ g.F.Files.faults l.files;
      told : IfSome (contents l.initial.files)
          (λ told. behind_outcome l.rows (map (table_rows told l.catalog) (drop l.table-index tables)) ≡ tables_outcome told l.catalog);
      rows : AllZip (AreRowsOf l.catalog) (take l.table-index tables) l.rows;
    }
