-- SUM of whole numbers: MySQL 8.0 manual, 12.20.1 and 11.1.7. NULL counts for nothing.
use Rattle.std.specs.Prelude.{◌^◌, nat_lt, Bool, true, false, ℤ, pos, negsuc, ◌+ℤ◌, List}
use Rattle.std.specs.Prelude.{Result, Ok, Err, fold, if◌then◌else◌}
use Rattle.std.specs.List.{list_all}
use Rattle.mc_values.specs.declared.value.Value.{Value}
use Rattle.mc_values.specs.declared.value.Value.TheVariants as value
use Rattle.mc_group.specs.declared.sums.SumFault.{SumFault}
use Rattle.mc_group.specs.declared.sums.SumFault.TheVariants.{OutOfRange}
use Rattle.mc_group.specs.Order.{number_in}

-- The number is one of 64 bits, whose least is -(2^63 - 1) - 1.
abbrev pub has_64_bits : ℤ → Bool
has_64_bits (pos n) = nat_lt n (2 ^ 63)
has_64_bits (negsuc n) = nat_lt n (2 ^ 63)

abbrev pub is_null : Value → Bool
is_null value.Null = true
is_null it = false

-- The numbers together.
abbrev pub total : List Value → ℤ
total values = fold (λ sum it. sum +ℤ number_in it) (pos 0) values

-- The sum: NULL where there is no number; only the whole sum has to be one of 64 bits.
unfoldable pub sum_of : List Value → Result Value SumFault
sum_of values = if list_all is_null values then Ok value.Null
    else if has_64_bits (total values) then Ok (value.Int (total values)) else Err OutOfRange
