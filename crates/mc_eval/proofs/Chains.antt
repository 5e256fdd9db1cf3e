-- The chain of truth values.
use Rattle.std.proofs.Common.{◌≡◌, refl}
use Rattle.mc_eval.specs.Truths.{least}
use Rattle.mc_eval.specs.declared.truth.Truth.{Truth}
use Rattle.mc_eval.specs.declared.truth.Truth.TheVariants.{No, Faulty, Unknown, Yes}

pub least_yes : (a : Truth) → least a Yes ≡ a
least_yes No = refl
least_yes Faulty = refl
least_yes Unknown = refl
least_yes Yes = refl

pub least_assoc : (a b c : Truth) → least (least a b) c ≡ least a (least b c)
least_assoc No b c = refl
least_assoc Faulty No c = refl
least_assoc Faulty Faulty No = refl
least_assoc Faulty Faulty Faulty = refl
least_assoc Faulty Faulty Unknown = refl
least_assoc Faulty Faulty Yes = refl
least_assoc Faulty Unknown No = refl
least_assoc Faulty Unknown Faulty = refl
least_assoc Faulty Unknown Unknown = refl
least_assoc Faulty Unknown Yes = refl
least_assoc Faulty Yes c = refl
least_assoc Unknown No c = refl
least_assoc Unknown Faulty No = refl
least_assoc Unknown Faulty Faulty = refl
least_assoc Unknown Faulty Unknown = refl
least_assoc Unknown Faulty Yes = refl
least_assoc Unknown Unknown No = refl
least_assoc Unknown Unknown Faulty = refl
least_assoc Unknown Unknown Unknown = refl
least_assoc Unknown Unknown Yes = refl
least_assoc Unknown Yes c = refl
least_assoc Yes b c = refl
