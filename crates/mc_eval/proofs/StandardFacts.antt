-- The definitions at the examples of the MySQL 8.0 manual, 11.1.7, 12.4 and 12.6.1, and others,
-- computed.
use Rattle.std.proofs.Common.{◌≡◌, ℕ, true, [], ◌∷◌, None, refl}
use Rattle.std.specs.Prelude.{pos, negsuc}
use Rattle.mc_ast.specs.declared.operators.ArithOp.TheVariants.{Add, Div, Mod}
use Rattle.mc_ast.specs.declared.operators.CmpOp.TheVariants.{Eq, NullEq}
use Rattle.mc_order.specs.Meaning.{Meaning}
use Rattle.mc_typing.specs.declared.typed.Ty.TheVariants as ty
use Rattle.mc_values.specs.declared.value.Value.TheVariants.{Null, Int}
use Rattle.mc_eval.specs.Arithmetic.{arithmetic, negative, on_numbers}
use Rattle.mc_eval.specs.Comparisons.{compared, is_among}
use Rattle.mc_eval.specs.Node.{Valued, between}
use Rattle.mc_eval.specs.Outcomes.{of_two}
use Rattle.mc_eval.specs.Outcomes.Outcome.{fault, gives}
use Rattle.mc_eval.specs.Truths.{all_of, any_of, one_of, told, turned}
use Rattle.mc_eval.specs.declared.truth.Truth.TheVariants.{No, Faulty, Unknown, Yes}

-- 7 DIV 2, -7 % 3, 1 DIV 0, 253 % 7.
quotient : arithmetic Div (pos 7) (pos 2) ≡ gives (Int (pos 3))
quotient = refl

sign_of_left : arithmetic Mod (negsuc 6) (pos 3) ≡ gives (Int (negsuc 0))
sign_of_left = refl

by_zero : arithmetic Div (pos 1) (pos 0) ≡ gives Null
by_zero = refl

remainder : arithmetic Mod (pos 253) (pos 7) ≡ gives (Int (pos 1))
remainder = refl

-- 9223372036854775807 + 1, and -9223372036854775808 by -1 and negated.
too_great : arithmetic Add (pos 9223372036854775807) (pos 1) ≡ fault
too_great = refl

least_by_minus_one : arithmetic Div (negsuc 9223372036854775807) (negsuc 0) ≡ fault
least_by_minus_one = refl

rest_by_minus_one : arithmetic Mod (negsuc 9223372036854775807) (negsuc 0) ≡ gives (Int (pos 0))
rest_by_minus_one = refl

least_negated : negative (Int (negsuc 9223372036854775807)) ≡ fault
least_negated = refl

-- NULL + (9223372036854775807 + 1) is a fault, and NULL + 1 is NULL.
fault_beside_null : of_two (on_numbers (arithmetic Add)) (gives Null) fault ≡ fault
fault_beside_null = refl

null_sum : of_two (on_numbers (arithmetic Add)) (gives Null) (gives (Int (pos 1))) ≡ gives Null
null_sum = refl

-- NULL AND 0, 1 AND NULL, 0 AND a fault, NULL AND a fault, NULL OR 1, 0 OR NULL, 1 OR a fault, and
-- 1 XOR NULL.
null_and_no : all_of (Unknown ∷ No ∷ []) ≡ No
null_and_no = refl

yes_and_null : all_of (Yes ∷ Unknown ∷ []) ≡ Unknown
yes_and_null = refl

no_and_fault : all_of (No ∷ Faulty ∷ []) ≡ No
no_and_fault = refl

null_and_fault : all_of (Unknown ∷ Faulty ∷ []) ≡ Faulty
null_and_fault = refl

null_or_yes : any_of (Unknown ∷ Yes ∷ []) ≡ Yes
null_or_yes = refl

no_or_null : any_of (No ∷ Unknown ∷ []) ≡ Unknown
no_or_null = refl

yes_or_fault : any_of (Yes ∷ Faulty ∷ []) ≡ Yes
yes_or_fault = refl

yes_xor_null : one_of Yes Unknown ≡ Unknown
yes_xor_null = refl

-- 1 = NULL, NULL <=> NULL, 1 <=> NULL.
equals_null : (meaning : ℕ → Meaning) → compared meaning None Eq (Int (pos 1)) Null ≡ Unknown
equals_null meaning = refl

null_equals_null : (meaning : ℕ → Meaning) → compared meaning None NullEq Null Null ≡ Yes
null_equals_null meaning = refl

one_equals_null : (meaning : ℕ → Meaning) → compared meaning None NullEq (Int (pos 1)) Null ≡ No
one_equals_null meaning = refl

-- 2 IN (1, NULL), 1 IN (1, NULL), 2 IN (1, 3).
not_found_beside_null : (meaning : ℕ → Meaning)
    → is_among meaning None (Int (pos 2)) (Int (pos 1) ∷ Null ∷ []) ≡ Unknown
not_found_beside_null meaning = refl

found_beside_null : (meaning : ℕ → Meaning)
    → is_among meaning None (Int (pos 1)) (Int (pos 1) ∷ Null ∷ []) ≡ Yes
found_beside_null meaning = refl

not_found : (meaning : ℕ → Meaning)
    → is_among meaning None (Int (pos 2)) (Int (pos 1) ∷ Int (pos 3) ∷ []) ≡ No
not_found meaning = refl

-- 5 NOT BETWEEN a fault AND 4 is 1, 5 BETWEEN NULL AND 4 is 0, 5 BETWEEN NULL AND 6 is NULL.
number : ℕ → Valued
number n = record { ty = ty.Int; outcome = gives (Int (pos n)) }

not_between : (meaning : ℕ → Meaning)
    → told (turned true (between meaning None
    (number 5 ∷ record { ty = ty.Int; outcome = fault } ∷ number 4 ∷ []))) ≡ gives (Int (pos 1))
unfolding number
not_between meaning = refl

no_end_above : (meaning : ℕ → Meaning)
    → between meaning None (number 5 ∷ record { ty = ty.Null; outcome = gives Null } ∷ number 4 ∷ []) ≡ No
unfolding number
no_end_above meaning = refl

null_end : (meaning : ℕ → Meaning)
    → between meaning None (number 5 ∷ record { ty = ty.Null; outcome = gives Null } ∷ number 6 ∷ []) ≡ Unknown
unfolding number
null_end meaning = refl
