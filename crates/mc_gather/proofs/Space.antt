-- A collation's space has a weight that bounds can be made of.
use Rattle.std.proofs.Common.{◌≡◌, ◌≤◌, refl, subst, arith}
use Rattle.mc_order.specs.Consequences.{SpaceIsWeight}
use Rattle.mc_order.specs.Laws.{IsLawful, KeepsSpace, greatest_weight}
use Rattle.mc_order.specs.Meaning.{Meaning}
use Rattle.mc_order.specs.declared.pad.Pad.{Pad}
use Rattle.mc_order.specs.declared.pad.Pad.TheVariants.{PadSpace, NoPad}

pub space_bound : (m : Meaning) → IsLawful m → SpaceIsWeight m → m.space ≤ greatest_weight
space_bound m lawful padded = by m.pad refl
  where
    by : (pad : Pad) → m.pad ≡ pad → m.space ≤ greatest_weight
    by PadSpace e = (padded e).1
    by NoPad e =
        let none : m.space ≡ 0 =
        subst (λ (pad : Pad). KeepsSpace pad m) e lawful.settings.space_weight in
        omega (arith, none)
