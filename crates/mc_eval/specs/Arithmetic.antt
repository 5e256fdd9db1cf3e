-- Arithmetic on whole numbers of 64 bits: MySQL 8.0 manual, 12.6.1 and 11.1.7.
use Rattle.std.specs.Prelude.{◌^◌, nat_lt, Bool, ℤ, pos, negsuc, ◌+ℤ◌, ◌-ℤ◌, ◌*ℤ◌, neg_ℤ}
use Rattle.std.specs.Prelude.{int_div, int_rem, if◌then◌else◌}
use Rattle.std.specs.Ordering.{int_eq}
use Rattle.mc_ast.specs.declared.operators.ArithOp.{ArithOp}
use Rattle.mc_ast.specs.declared.operators.ArithOp.TheVariants.{Add, Sub, Mul, Div, Mod}
use Rattle.mc_values.specs.declared.value.Value.{Value}
use Rattle.mc_values.specs.declared.value.Value.TheVariants as value
use Rattle.mc_eval.specs.Outcomes.{Outcome}
use Rattle.mc_eval.specs.Outcomes.Outcome.{fault, gives}

-- The number is one of 64 bits, whose least is -(2^63 - 1) - 1.
abbrev pub has_64_bits : ℤ → Bool
has_64_bits (pos n) = nat_lt n (2 ^ 63)
has_64_bits (negsuc n) = nat_lt n (2 ^ 63)

-- A result: a fault where it is outside 64 bits.
abbrev pub ranged : ℤ → Outcome
ranged number = if has_64_bits number then gives (value.Int number) else fault

-- `%` and MOD: the sign of the left side, and NULL by 0.
abbrev pub remainder : ℤ → ℤ → Value
remainder x y = if int_eq y (pos 0) then value.Null else value.Int (int_rem x y)

-- The operators: DIV truncates towards zero, and is NULL by 0.
abbrev pub arithmetic : ArithOp → ℤ → ℤ → Outcome
arithmetic Add x y = ranged (x +ℤ y)
arithmetic Sub x y = ranged (x -ℤ y)
arithmetic Mul x y = ranged (x *ℤ y)
arithmetic Div x y = if int_eq y (pos 0) then gives value.Null else ranged (int_div x y)
arithmetic Mod x y = gives (remainder x y)

-- An operation on two numbers, which is NULL where a side is.
abbrev pub on_numbers : (ℤ → ℤ → Outcome) → Value → Value → Outcome
on_numbers operation (value.Int x) (value.Int y) = operation x y
on_numbers operation one other = gives value.Null

-- The number with the other sign.
abbrev pub negative : Value → Outcome
negative (value.Int x) = ranged (neg_ℤ x)
negative it = gives value.Null
