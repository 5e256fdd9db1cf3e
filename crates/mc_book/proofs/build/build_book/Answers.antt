-- The book fits the catalog, since the built-in collations begin it.
use Rattle.mc_book.proofs.BookLemmas.{all_sets, fits}
use Rattle.mc_book.proofs.build.build_book.Goals as goal

pub returns-in-Ok-clause-fits : goal.returns-in-Ok-clause-fits
returns-in-Ok-clause-fits g c =
    let all = c.in-Ok.collations in
    let collations = c.args.c.now.collations in
    let sets = all_sets c.in_ok-built_in.built_in all collations c.in_ok-built_in.ensures c.requires.so_far.built_in
    (rw c.declared_collations.ensures at c.in-Ok.ensures.sets) in
    rw c.new.ensures (fits all c.args.c.now sets)
