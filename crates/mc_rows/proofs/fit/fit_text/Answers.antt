-- What was converted is what the characters spell.
use Rattle.std.proofs.Common.{Err, sym, subst, ◌∙◌}
use Rattle.mc_convert.specs.Exact.{IsExactly}
use Rattle.mc_convert.specs.declared.exact.ConvertFault.{ConvertFault}
use Rattle.mc_rows.proofs.Fitting.{fitted_long, fitted_ok, kept_short, kept_spells, lost_unfit}
use Rattle.mc_rows.proofs.fit.fit_text.Goals as goal

pub returns-then-is_longer-clause-outcome : goal.returns-then-is_longer-clause-outcome
returns-then-is_longer-clause-outcome c =
    let exactly = c.in-Ok.ensures.exactly in
    let spells = kept_spells c.chars_law.ensures.encodes c.conversion_law.ensures.same_chars c.args.from c.args.to c.args.text.now c.in-Ok.kept c.bytes_law.ensures.binary c.in-Ok.ensures.well_formed exactly.0 exactly.1 in
    λ m. fitted_long c.args.from c.args.to c.args.most c.args.text.now c.in-Ok.kept spells (sym c.is_longer.ensures ∙ c.if-is_longer.true)

pub returns-else-is_longer-clause-outcome : goal.returns-else-is_longer-clause-outcome
returns-else-is_longer-clause-outcome c =
    let exactly = c.in-Ok.ensures.exactly in
    let spells = kept_spells c.chars_law.ensures.encodes c.conversion_law.ensures.same_chars c.args.from c.args.to c.args.text.now c.in-Ok.kept c.bytes_law.ensures.binary c.in-Ok.ensures.well_formed exactly.0 exactly.1 in
    fitted_ok c.args.from c.args.to c.args.most c.args.text.now c.in-Ok.kept spells (sym c.is_longer.ensures ∙ c.if-is_longer.false)

pub returns-else-is_longer-clause-short : goal.returns-else-is_longer-clause-short
returns-else-is_longer-clause-short c =
    let exactly = c.in-Ok.ensures.exactly in
    let spells = kept_spells c.chars_law.ensures.encodes c.conversion_law.ensures.same_chars c.args.from c.args.to c.args.text.now c.in-Ok.kept c.bytes_law.ensures.binary c.in-Ok.ensures.well_formed exactly.0 exactly.1 in
    kept_short c.args.from c.args.to c.args.most c.args.text.now c.in-Ok.kept (c.chars_law.ensures.decodes c.args.to _ c.in-Ok.kept spells) (sym c.is_longer.ensures ∙ c.if-is_longer.false)

pub returns-in-Err-Lossy-clause-outcome : goal.returns-in-Err-Lossy-clause-outcome
returns-in-Err-Lossy-clause-outcome c =
    let lost = subst (λ (fault : ConvertFault). IsExactly c.args.from c.args.to c.args.text.now (Err fault)) c.in-Err-Lossy.field-0-is c.in-Err-Lossy.ensures.exactly in
    λ m. lost_unfit c.args.from c.args.to c.args.most c.args.text.now c.in-Err-Lossy.field-0-0 c.requires.characters lost
