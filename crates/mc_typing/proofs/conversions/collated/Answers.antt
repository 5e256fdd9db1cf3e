use Rattle.std.proofs.Common.{ℕ, Option, subst}
use Rattle.std.specs.Prelude.{Err}
use Rattle.std.specs.Option.{option_map_or}
use Rattle.mc_typing.specs.Messages.{no_collation}
use Rattle.mc_typing.specs.Operators.{collated_by}
use Rattle.mc_typing.specs.Wanted.{IsWanted}
use Rattle.mc_typing.proofs.conversions.collated.Goals as goal

pub returns-in-Some : goal.returns-in-Some
returns-in-Some c = subst (λ (o : Option ℕ). IsWanted c.collated_by.result
    (option_map_or (λ number. collated_by c.args.c.now c.args.name.now (record { 0 = number }) c.args.x) o
    (Err (no_collation c.args.name.now)))) c.in-Some.ensures.is c.collated_by.ensures
