-- What is read record by record is the outcome of the text.
use Rattle.std.proofs.Common.{List, Ok, sym, ap, subst, ◌∙◌}
use Rattle.mc_catalog.specs.declared.catalog.ColumnDecl.{ColumnDecl}
use Rattle.mc_values.specs.declared.value.Value.{Value}
use Rattle.mc_rows.specs.Outcome.{IsRefused}
use Rattle.mc_rows.specs.Records.{records_of}
use Rattle.mc_rows.specs.Told.{AreLoaded}
use Rattle.mc_rows.proofs.Said.{accepted_says, refused_says}
use Rattle.mc_rows.proofs.load.load_rows.Goals as goal

pub returns-in-Ok-clause-outcome : goal.returns-in-Ok-clause-outcome
returns-in-Ok-clause-outcome g c =
    let loaded = subst (λ (columns : List ColumnDecl). AreLoaded c.args.catalog.now.collations columns (records_of c.args.text.now) c.in-Ok.rows) c.as_slice.ensures c.in-Ok.ensures.loaded in
    accepted_says c.args.catalog.now.collations c.args.table.now.columns c.args.text.now (c.in-Ok.ensures.utf8, loaded.no_fault)
    ∙ ap (λ (rows : List (List Value)). Ok rows) (sym (c.new.ensures ∙ loaded.are))

pub returns-in-Err-clause-outcome : goal.returns-in-Err-clause-outcome
returns-in-Err-clause-outcome g c =
    let refused = subst (λ (columns : List ColumnDecl). IsRefused c.args.catalog.now.collations columns c.args.text.now c.in-Err.fault.kind c.in-Err.fault.at) c.as_slice.ensures c.in-Err.ensures.refused in
    λ m. refused_says c.args.catalog.now.collations c.args.table.now.columns c.args.text.now c.in-Err.fault refused m
