-- The operands of a call, by their number.
use Rattle.std.specs.Prelude.{List, [], ◌∷◌}
use Rattle.mc_values.specs.declared.value.Value.{Value}
use Rattle.mc_eval.specs.Held.{held_values}
use Rattle.mc_eval.specs.Outcomes.{IsKept}
use Rattle.mc_eval.specs.declared.taken.Taken.{Taken}
use Rattle.mc_eval.specs.declared.taken.Taken.TheVariants.{Zero, One, Two, Three, More}

abbrev pub taken_values : Taken → List Value
taken_values Zero = []
taken_values (One x) = x.now ∷ []
taken_values (Two x y) = x.now ∷ y.now ∷ []
taken_values (Three x y z) = x.now ∷ y.now ∷ z.now ∷ []
taken_values (More x y z w others) = x.now ∷ y.now ∷ z.now ∷ w.now ∷ held_values others.now

-- The values may be kept, where there are at most three.
abbrev pub AreTakenKept : Taken → Type 0
AreTakenKept (One x) = IsKept x.now
AreTakenKept (Two x y) = IsKept x.now × IsKept y.now
AreTakenKept (Three x y z) = IsKept x.now × IsKept y.now × IsKept z.now
AreTakenKept others = Unit
