-- Where bases start, with one more range; ranges by those whose steps are made, and the others.
use Rattle.std.proofs.Common.{◌≡◌, ℕ, ◌==◌, ◌<◌, ◌≤◌, ◌^◌, Bool, true, false, cond, List, [], ◌∷◌, ◌++◌, length, length-append, take, drop, Option, Some, None, option_map, if◌then◌else◌, refl, sym, ap, subst, ◌∙◌, arith}
use Rattle.std.specs.List.{find}
use Rattle.std.specs.Option.{option_or, option_map_or}
use Rattle.std.proofs.lemmas.Bool.Decides.{nat_tests}
use Rattle.std.proofs.lemmas.List.{take-append-drop, take-append-le, take_all}
use Rattle.std.proofs.lemmas.List.Folds.{find-append}
use Rattle.mc_allkeys.specs.Starts.{start_at, AreStartsOf}
use Rattle.mc_allkeys.specs.Steps.{range_at, AreStepsOf}
use Rattle.mc_allkeys.specs.Table.{covers, start_of}
use Rattle.mc_allkeys.specs.declared.range.Range.{Range}
use Rattle.mc_allkeys.specs.declared.steps.Step.{Step}
use Rattle.mc_allkeys.proofs.StepLemmas.{steps-none}

-- the first code point of a range
abbrev pub first_code : Range → ℕ
first_code range = range.first

-- Where a base starts, of what is noted.
or_other : (found : Option Range) (other : ℕ) →
    option_map_or (λ n. n) (option_map first_code found) other
    ≡ option_map_or first_code found other
or_other None other = refl
or_other (Some range) other = refl

pub start_is : (ranges : List Range) (starts : List (Option ℕ)) (base other : ℕ)
    (noted : Option ℕ) → AreStartsOf ranges starts → noted ≡ start_at starts base →
    option_map_or (λ n. n) noted other ≡ start_of ranges base other
start_is ranges starts base other noted h e =
    ap (λ o. option_map_or (λ n. n) o other) (e ∙ h base)
    ∙ or_other (find (λ range. range.base == base) ranges) other

-- The starts with one more range.
noted_by : (found : Option Range) (range : Range) (same : Bool) →
    cond same (option_or (option_map first_code found) (Some range.first))
    (option_map first_code found)
    ≡ option_map first_code (option_or found (cond same (Some range) None))
noted_by None range true = refl
noted_by None range false = refl
noted_by (Some one) range true = refl
noted_by (Some one) range false = refl

same_test : (a b : ℕ) → (a == b) ≡ (b == a)
same_test a b = grind (arith, nat_tests)

pub noted_more : (ranges : List Range) (range : Range) (starts room new : List (Option ℕ)) →
    AreStartsOf ranges starts → ((b : ℕ) → start_at room b ≡ start_at starts b) →
    ((b : ℕ) → start_at new b
    ≡ (if b == range.base then option_or (start_at room b) (Some range.first)
    else start_at room b)) → AreStartsOf (ranges ++ range ∷ []) new
noted_more ranges range starts room new h same note = λ base.
    let test : Range → Bool = λ one. one.base == base in
    note base
    ∙ ap (λ o. cond (base == range.base) (option_or o (Some range.first)) o) (same base ∙ h base)
    ∙ ap (λ b. cond b (option_or (option_map first_code (find test ranges)) (Some range.first))
    (option_map first_code (find test ranges))) (same_test base range.base)
    ∙ noted_by (find test ranges) range (range.base == base)
    ∙ ap (option_map first_code) (sym (find-append test ranges (range ∷ [])))

pub noted_same : (ranges : List Range) (starts new : List (Option ℕ)) → AreStartsOf ranges starts →
    ((b : ℕ) → start_at new b ≡ start_at starts b) → AreStartsOf ranges new
noted_same ranges starts new h same = λ base. same base ∙ h base

pub noted_none : (ranges : List Range) (starts : List (Option ℕ)) → ranges ≡ [] → starts ≡ [] →
    AreStartsOf ranges starts
noted_none ranges starts e f = λ base.
    ap (λ s. start_at s base) f
    ∙ sym (ap (λ r. option_map first_code (find (λ one. one.base == base) r)) e)

pub within_more : (ranges : List Range) (range : Range) (new : List Range) (covered : ℕ) →
    covered ≤ length ranges → new ≡ ranges ++ range ∷ [] → covered ≤ length new
within_more ranges range new covered le e =
    let size = ap length e ∙ length-append ranges (range ∷ []) in omega (arith, le, size)

-- The steps of the first ranges stay with one more range.
pub stepped_more : (ranges : List Range) (range : Range) (covered : ℕ) (steps : List Step) →
    covered ≤ length ranges → AreStepsOf (take covered ranges) steps →
    AreStepsOf (take covered (ranges ++ range ∷ [])) steps
stepped_more ranges range covered steps le h =
    subst (λ rs. AreStepsOf rs steps) (sym (take-append-le covered ranges (range ∷ []) le)) h

-- The range of a code point by the steps of the first ranges, else by the others.
some_first : (found : Option Range) (other : Option Range) (range : Range) → Some range ≡ found →
    Some range ≡ option_or found other
some_first None other range e = absurd cc
some_first (Some one) other range e = e

none_first : (found other : Option Range) → None ≡ found → other ≡ option_or found other
none_first None other e = refl
none_first (Some one) other e = absurd cc

split : (ranges : List Range) (covered code : ℕ) →
    option_or (find (covers code) (take covered ranges)) (find (covers code) (drop covered ranges))
    ≡ find (covers code) ranges
split ranges covered code =
    sym (find-append (covers code) (take covered ranges) (drop covered ranges))
    ∙ ap (find (covers code)) (take-append-drop covered ranges)

pub found_first : (ranges : List Range) (covered code : ℕ) (steps : List Step) (range : Range) →
    AreStepsOf (take covered ranges) steps → code < 2 ^ 32 → Some range ≡ range_at steps code None →
    Some range ≡ find (covers code) ranges
found_first ranges covered code steps range h small e =
    some_first (find (covers code) (take covered ranges))
    (find (covers code) (drop covered ranges)) range
    (e ∙ h.first code small) ∙ split ranges covered code

pub found_behind : (ranges : List Range) (covered code : ℕ) (steps : List Step)
    (other : Option Range) → AreStepsOf (take covered ranges) steps → code < 2 ^ 32 →
    None ≡ range_at steps code None → other ≡ find (covers code) (drop covered ranges) →
    other ≡ find (covers code) ranges
found_behind ranges covered code steps other h small e is =
    is ∙ none_first (find (covers code) (take covered ranges))
    (find (covers code) (drop covered ranges))
    (e ∙ h.first code small) ∙ split ranges covered code

-- The same, as the code meets them.
pub start_some : (ranges : List Range) (starts : List (Option ℕ)) (base other start : ℕ) →
    AreStartsOf ranges starts → Some start ≡ start_at starts base →
    start ≡ start_of ranges base other
start_some ranges starts base other start h e =
    start_is ranges starts base other (Some start) h e

pub start_none : (ranges : List Range) (starts : List (Option ℕ)) (base other : ℕ) →
    AreStartsOf ranges starts → None ≡ start_at starts base → other ≡ start_of ranges base other
start_none ranges starts base other h e = start_is ranges starts base other None h e

pub stepped_none : (ranges : List Range) (covered : ℕ) (steps : List Step) → covered ≡ 0 →
    steps ≡ [] → AreStepsOf (take covered ranges) steps
stepped_none ranges covered steps e f =
    subst (λ n. AreStepsOf (take n ranges) steps) (sym e) (subst (AreStepsOf []) (sym f) steps-none)

pub stepped_nil : (steps : List Step) → steps ≡ [] → AreStepsOf [] steps
stepped_nil steps f = subst (AreStepsOf []) (sym f) steps-none

pub stepped_all : (ranges : List Range) (covered : ℕ) (steps : List Step) →
    covered ≡ length ranges → AreStepsOf ranges steps → AreStepsOf (take covered ranges) steps
stepped_all ranges covered steps e h =
    subst (λ n. AreStepsOf (take n ranges) steps) (sym e)
    (subst (λ rs. AreStepsOf rs steps) (sym (take_all (length ranges) ranges (omega arith))) h)

pub ruleset starts_by = (start_some, start_none)

pub ruleset kept_by = (noted_none, noted_same, stepped_none, stepped_nil, stepped_all)
