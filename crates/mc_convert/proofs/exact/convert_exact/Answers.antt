-- The converted text is the one of the function.
use Rattle.std.proofs.Common.{ℕ, Option, ap, subst}
use Rattle.std.specs.Option.{is_some}
use Rattle.std.specs.Prelude.{MatchOption}
use Rattle.mc_convert.specs.Conversion.{IsFirstLost, IsLossless}
use Rattle.mc_convert.proofs.Texts.{behind_nothing, IsConverted_well_formed}
use Rattle.mc_convert.proofs.exact.convert_exact.Goals as goal

pub returns-in-Ok-None-clause-exactly : goal.returns-in-Ok-None-clause-exactly
returns-in-Ok-None-clause-exactly c =
    let from = c.args.from in
    let to = c.args.to in
    let text = c.args.text.now in (
      behind_nothing from to text c.new-converted.result c.append.new.out c.new-converted.ensures
          (c.in-Ok-None.ensures.is (ap is_some c.in-Ok-None.field-0-is)),
      subst (λ (lost : Option ℕ). MatchOption lost (IsLossless from to text) (λ place. IsFirstLost from to text place))
          c.in-Ok-None.field-0-is c.in-Ok-None.ensures.lost,
    )

pub returns-in-Ok-None-clause-well_formed : goal.returns-in-Ok-None-clause-well_formed
returns-in-Ok-None-clause-well_formed c =
    IsConverted_well_formed c.args.from c.args.to c.args.text.now c.append.new.out c.bytes_law.ensures.binary
    (behind_nothing c.args.from c.args.to c.args.text.now c.new-converted.result c.append.new.out c.new-converted.ensures
    (c.in-Ok-None.ensures.is (ap is_some c.in-Ok-None.field-0-is)))
