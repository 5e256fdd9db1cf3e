use Rattle.std.proofs.Common.{◌≡◌, sym, ◌∙◌}
use Rattle.mc_coerce.specs.Operand.{AreOperands}
use Rattle.mc_coerce.specs.Aggregate.{aggregate}
use Rattle.mc_coerce.specs.declared.operand.Agg.TheVariants.{Uses}
use Rattle.mc_catalog.specs.LookUp.{collation_set}
use Rattle.mc_typing.proofs.Sound.{result_sound}
use Rattle.mc_typing.proofs.operators.used.Goals as goal

pub returns-in-Uses-clause-sound : goal.returns-in-Uses-clause-sound
returns-in-Uses-clause-sound c =
    let list = c.args.operands.now in
    let a = c.in-Uses.operand in
    let made : aggregate list c.args.purpose ≡ Uses a = sym c.aggregate.ensures ∙ c.in-Uses.is in
    let are : AreOperands list =
    c.operands_law.ensures.by_sets list (λ n. collation_set c.args.c.now.collations n)
    (λ k d e. (c.requires.sound k d e).lawful) (λ k d e. (c.requires.sound k d e).set) in
    result_sound c.args.c.now list a c.requires.lawful c.requires.sound
    (c.result_law.ensures.operand list c.args.purpose a are made)
    (c.result_law.ensures.collation list c.args.purpose a made)
