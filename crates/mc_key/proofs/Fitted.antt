-- Lists cut or filled up to a length.
use Rattle.std.proofs.Common.{◌≡◌, ℕ, zero, suc, ◌<◌, ◌≤◌, ◌-◌, min, List, [], ◌∷◌, ◌++◌, Some, None, take, take_all, length, length-append, length-take, append-nil, refl, sym, ap, ◌∙◌, ⊎_elim, arith}
use Rattle.std.specs.List.{repeat}
use Rattle.std.proofs.lemmas.Bool.{cases_lt}
use Rattle.std.proofs.lemmas.Bool.Decides.{nat_tests}
use Rattle.mc_values.specs.Values.{greatest_string, within_limit}
use Rattle.mc_key.specs.WeightString.{fitted}

length-repeat_one : (n filler : ℕ) → length (repeat n (filler ∷ [])) ≡ n
length-repeat_one zero filler = refl
length-repeat_one (suc n) filler = ap suc (length-repeat_one n filler)

length-first : (n : ℕ) (list : List ℕ) → length (take n list) ≡ min n (length list)
length-first n list = length-take n list

fitted_length : (n filler : ℕ) (list : List ℕ) → length (fitted n filler list) ≡ n
fitted_length n filler list =
    omega (
      arith,
      length-append (take n list) (repeat (n - length list) (filler ∷ [])),
      length-first n list,
      length-repeat_one (n - length list) filler,
    )

within_limit-long : (text : List ℕ) → greatest_string < length text → None ≡ within_limit text
within_limit-long text h = grind (arith, nat_tests)

within_limit-short : (text : List ℕ) → length text ≤ greatest_string →
    Some text ≡ within_limit text
within_limit-short text h = grind (arith, nat_tests)

-- A text longer than the greatest length is NULL.
pub too_long : (n filler : ℕ) (list : List ℕ) → greatest_string < n →
    None ≡ within_limit (fitted n filler list)
too_long n filler list h =
    within_limit-long (fitted n filler list) (omega (arith, h, fitted_length n filler list))

first_or_all : (n k : ℕ) (list : List ℕ) → k ≡ min n (length list) → take k list ≡ take n list
first_or_all n k list e = ⊎_elim
    (λ h. let all : k ≡ length list = omega arith in
    ap (λ j. take j list) all ∙ take_all (length list) list (omega arith)
    ∙ sym (take_all n list (omega arith)))
    (λ h. let cut : k ≡ n = omega arith in ap (λ j. take j list) cut)
    (cases_lt (length list) n)

pub filled_up : (n k filler : ℕ) (list out : List ℕ) → n ≤ greatest_string →
    k ≡ min n (length list) → out ≡ take k list ++ repeat (n - k) (filler ∷ []) →
    Some out ≡ within_limit (fitted n filler list)
filled_up n k filler list out h e o =
    let same : n - k ≡ n - length list = omega arith in
    let is : out ≡ fitted n filler list = o
    ∙ ap (λ front. front ++ repeat (n - k) (filler ∷ [])) (first_or_all n k list e)
    ∙ ap (λ m. take n list ++ repeat m (filler ∷ [])) same in
    ap Some is
    ∙ within_limit-short (fitted n filler list) (omega (arith, h, fitted_length n filler list))

-- A list that is long enough is cut.
pub fitted_cut : (n filler : ℕ) (list : List ℕ) → n - length list ≡ 0 →
    fitted n filler list ≡ take n list
fitted_cut n filler list e =
    ap (λ m. take n list ++ repeat m (filler ∷ [])) e ∙ append-nil (take n list)

-- A shorter one is kept whole.
pub fitted_filled : (n missing filler : ℕ) (list : List ℕ) → missing ≡ n - length list →
    0 < missing → fitted n filler list ≡ list ++ repeat missing (filler ∷ [])
fitted_filled n missing filler list e h =
    ap (λ front. front ++ repeat (n - length list) (filler ∷ [])) (take_all n list (omega arith))
    ∙ ap (λ m. list ++ repeat m (filler ∷ [])) (sym e)

pub ruleset fits = (
  too_long,
  fitted_cut,
  fitted_filled,
)
