-- Where no value stands before NULL, all are NULL.
use Rattle.std.proofs.Common.{◌≡◌, ℕ, ◌<◌, Bool, true, false, List, length, get_or, refl, sym}
use Rattle.std.proofs.Common.{ap, ◌∙◌, subst, cond, Option, None, Some}
use Rattle.std.specs.List.{All, IsFirstBest}
use Rattle.std.specs.declared.cmp.Ordering.{Ordering}
use Rattle.std.proofs.lemmas.List.{get_or_default}
use Rattle.mc_values.specs.declared.value.Value.{Value}
use Rattle.mc_values.specs.declared.value.Value.TheVariants as value
use Rattle.mc_group.specs.Extremes.{IsFirstPlace, absence, stands_before}
use Rattle.mc_group.specs.Sums.{is_null}

behind_null : (order : Value → Value → Ordering) (it : Value) →
    stands_before order it value.Null ≡ false → it ≡ value.Null
behind_null order value.Null h = refl
behind_null order (value.Int x) h = cc
behind_null order (value.Str set text) h = cc

all_null : (order : Value → Value → Ordering) (values : List Value) (best : ℕ) →
    IsFirstBest (stands_before order) values (length values) best →
    get_or values best value.Null ≡ value.Null → All (λ it. it ≡ value.Null) values
all_null order values best first null k d within =
    let there : best < length values = first.0 in
    let at = get_or_default values best d value.Null there in
    behind_null order (get_or values k d)
    (ap (stands_before order (get_or values k d)) (sym (at ∙ null)) ∙ first.1 k d within)

null_if : (it : Value) → is_null it ≡ true → it ≡ value.Null
null_if value.Null e = refl
null_if (value.Int x) e = absurd cc
null_if (value.Str set text) e = absurd cc

present_if : (it : Value) → is_null it ≡ false → absence it ≡ 0
present_if value.Null e = absurd cc
present_if (value.Int x) e = refl
present_if (value.Str set text) e = refl

-- The place of the best value is the answer, if that value is not NULL.
pub chosen : (order : Value → Value → Ordering) (values : List Value) (best : ℕ)
    (answer : Option ℕ) → IsFirstBest (stands_before order) values (length values) best →
    answer ≡ cond (is_null (get_or values best value.Null)) None (Some best) →
    IsFirstPlace order values answer
chosen order values best answer first is =
    by (is_null (get_or values best value.Null)) refl
  where
    by : (b : Bool) → is_null (get_or values best value.Null) ≡ b →
        IsFirstPlace order values answer
    by true e =
        let none : None ≡ answer = sym (is ∙ ap (λ b. cond b None (Some best)) e) in
        subst (IsFirstPlace order values) none
        (all_null order values best first (null_if (get_or values best value.Null) e))
    by false e =
        let some : Some best ≡ answer = sym (is ∙ ap (λ b. cond b None (Some best)) e) in
        subst (IsFirstPlace order values) some
        (present_if (get_or values best value.Null) e, first)
