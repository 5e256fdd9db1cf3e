-- The declarations so far are loaded: their collations stand behind those that were there.
use Rattle.std.proofs.Common.{◌≡◌, ◌≤◌, ◌++◌, IfSome, Ok, map, take}
use Rattle.mc_book.specs.BookOutcome.{behind_outcome, declared_outcome}
use Rattle.mc_book.specs.Meanings.{meanings, any_set}
use Rattle.mc_book.proofs.build.load_all.Given as goal

abbrev pub invariant-loop-each : goal.invariant-loop-each
invariant-loop-each g l =
    let contents = g.F.Files.contents in
    let done = take l.each-index l.declared in
    record {
      kept : contents l.files ≡ contents l.fn.files;
      later : g.F.Files.faults l.fn.files ≤ g.F.Files.faults l.files;
      told : IfSome (contents l.fn.files)
          (λ told. behind_outcome (meanings l.fn.collations) (map (declared_outcome told) done) ≡ Ok (meanings l.collations));
      sets : map any_set l.collations ≡ map any_set l.fn.collations ++ map (λ each. each.charset) done;
      unopened : l.each-index ≡ 0 → l.files ≡ l.fn.files;
    }
