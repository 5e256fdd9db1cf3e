-- What the type of an expression says of its value.
use Rattle.std.specs.Prelude.{◌≡◌}
use Rattle.mc_typing.specs.declared.typed.Ty.{Ty}
use Rattle.mc_typing.specs.declared.typed.Ty.TheVariants as ty
use Rattle.mc_values.specs.declared.value.Value.{Value}
use Rattle.mc_values.specs.declared.value.Value.TheVariants as value
use Rattle.mc_eval.specs.Outcomes.{Outcome}
use Rattle.mc_eval.specs.Outcomes.Outcome.{fault, gives}

-- NULL, or a number, or a text of the type's set.
abbrev pub HasType : Ty → Value → Type 0
HasType type value.Null = Unit {0}
HasType ty.Int (value.Int number) = Unit {0}
HasType (ty.Str a) (value.Str set text) = set ≡ a.charset
HasType type it = ⊥

-- The value, if one comes of the expression, is of the type.
abbrev pub GivesType : Ty → Outcome → Type 0
GivesType type fault = Unit {0}
GivesType type (gives it) = HasType type it
