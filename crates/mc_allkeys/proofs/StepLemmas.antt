-- Steps of ranges: those of one range, those laid over others, and the one at a code point.
use Rattle.std.proofs.Common.{◌≡◌, ℕ, zero, suc, ◌+◌, ◌-◌, ◌<◌, ◌≤◌, ◌^◌, ◌&&◌, Bool, true, false, not, cond, List, [], ◌∷◌, length, take, drop, get_or, Option, Some, None, nat_le, refl, sym, ap, subst, ◌∙◌, arith, leb-true, leb-false}
use Rattle.std.specs.List.{find}
use Rattle.std.specs.List.Sorted.{IsNonDecreasingBy}
use Rattle.std.specs.Option.{option_or}
use Rattle.std.proofs.lemmas.Bool.Decides.{nat_tests}
use Rattle.std.proofs.lemmas.List.{take-append-drop}
use Rattle.std.proofs.lemmas.List.Folds.{find-append}
use Rattle.mc_allkeys.specs.Steps.{range_at, is_before, AreFrom, AreStepsOf, IsOverlay}
use Rattle.mc_allkeys.specs.Table.{covers}
use Rattle.mc_allkeys.specs.declared.range.Range.{Range}
use Rattle.mc_allkeys.specs.declared.steps.Step.{Step}

-- The starts of steps don't fall.
not_below : (start : ℕ) (steps : List Step) → AreFrom start steps → (k : ℕ) (d : Step) →
    k < length steps → start ≤ (get_or steps k d).start
not_below start [] h k d lt = absurd (omega arith)
not_below start (step ∷ steps) h zero d lt = h.0
not_below start (step ∷ steps) h (suc k) d lt =
    let first = h.0 in
    let rest = not_below step.start steps h.1 k d (omega arith) in omega (arith, first, rest)

pub no_fall : (start : ℕ) (steps : List Step) → AreFrom start steps →
    IsNonDecreasingBy (λ (step : Step). step.start) steps
no_fall start [] h i j d le lt = absurd (omega arith)
no_fall start (step ∷ steps) h zero zero d le lt = omega arith
no_fall start (step ∷ steps) h zero (suc j) d le lt =
    not_below step.start steps h.1 j d (omega arith)
no_fall start (step ∷ steps) h (suc i) zero d le lt = absurd (omega arith)
no_fall start (step ∷ steps) h (suc i) (suc j) d le lt =
    no_fall step.start steps h.1 i j d (omega arith) (omega arith)

from_by : (start : ℕ) (steps : List Step) → IsNonDecreasingBy (λ (step : Step). step.start) steps →
    ((d : Step) → 0 < length steps → start ≤ (get_or steps 0 d).start) → AreFrom start steps
from_by start [] h first = tt
from_by start (step ∷ steps) h first = (
  first step (omega arith),
  from_by step.start steps (λ i j d le lt. h (suc i) (suc j) d (omega arith) (omega arith))
      (λ d some. h 0 1 d (omega arith) (omega arith)),
)

from_order : (steps : List Step) → IsNonDecreasingBy (λ (step : Step). step.start) steps →
    AreFrom 0 steps
from_order steps h = from_by 0 steps h (λ d some. omega arith)

-- The steps of no range, and of one.
pub steps-none : AreStepsOf [] []
steps-none = record { in_order = λ i j d le lt. absurd (omega arith); first = λ code lt. refl }

empty_by : (x : Option Range) (b : Bool) → b ≡ false → None ≡ cond b x None
empty_by x true e = absurd cc
empty_by x false e = refl

pub steps-empty : (range : Range) → range.last < range.first → AreStepsOf (range ∷ []) []
steps-empty range lt = record {
  in_order = λ i j d le lt. absurd (omega arith);
  first = λ code small.
      let none : covers code range ≡ false = grind (arith, nat_tests) in
      empty_by (Some range) (covers code range) none;
}

open_by : (x : Option Range) (a b : Bool) → b ≡ true → cond a x None ≡ cond (a && b) x None
open_by x true true e = refl
open_by x false true e = refl
open_by x a false e = absurd cc

pub steps-open : (range : Range) → range.first ≤ range.last → 2 ^ 32 ≤ range.last + 1 →
    AreStepsOf (range ∷ []) (record { start = range.first; range = Some range } ∷ [])
steps-open range some end = record {
  in_order = no_fall 0 (record { start = range.first; range = Some range } ∷ []) (omega arith, tt);
  first = λ code small.
      let within : nat_le code range.last ≡ true = grind (arith, nat_tests) in
      open_by (Some range) (nat_le range.first code) (nat_le code range.last) within;
}

closed_by : (x : Option Range) (a b c : Bool) → b ≡ not c →
    cond a (cond b None x) None ≡ cond (a && c) x None
closed_by x true true true e = absurd cc
closed_by x true true false e = refl
closed_by x true false true e = refl
closed_by x true false false e = absurd cc
closed_by x false b c e = refl

pub steps-closed : (range : Range) → range.first ≤ range.last →
    AreStepsOf (range ∷ []) (record { start = range.first; range = Some range }
    ∷ record { start = range.last + 1; range = None } ∷ [])
steps-closed range some = record {
  in_order = no_fall 0 (record { start = range.first; range = Some range }
      ∷ record { start = range.last + 1; range = None } ∷ []) (omega arith, (omega arith, tt));
  first = λ code small.
      let past : nat_le (range.last + 1) code ≡ not (nat_le code range.last) =
      grind (arith, nat_tests) in
      closed_by (Some range) (nat_le range.first code) (nat_le (range.last + 1) code)
      (nat_le code range.last) past;
}

-- The steps of the first ranges over those of the others.
either : (a b c d : Option Range) → a ≡ c → b ≡ d → option_or a b ≡ option_or c d
either a b c d e f = ap (λ x. option_or x b) e ∙ ap (option_or c) f

pub steps-joined : (ranges : List Range) (k : ℕ) (front behind steps : List Step) →
    AreStepsOf (take k ranges) front → AreStepsOf (drop k ranges) behind →
    IsOverlay front behind None None steps → AreStepsOf ranges steps
steps-joined ranges k front behind steps f b over = record {
  in_order = no_fall 0 steps (over.in_order 0 (from_order front f.in_order)
      (from_order behind b.in_order));
  first = λ code small.
      over.ranges code
      ∙ either _ _ _ _ (f.first code small) (b.first code small)
      ∙ sym (find-append (covers code) (take k ranges) (drop k ranges))
      ∙ ap (find (covers code)) (take-append-drop k ranges);
}

-- The overlay of no steps.
pub overlay-none : (first second : Option Range) → IsOverlay [] [] first second []
overlay-none first second = record { in_order = λ start f b. tt; ranges = λ code. refl }

pub none_of_front : (behind : List Step) (first second : Option Range) →
    is_before [] behind ≡ true → IsOverlay [] behind first second []
none_of_front [] first second e = overlay-none first second
none_of_front (step ∷ steps) first second e = absurd cc

pub none_of_behind : (front : List Step) (first second : Option Range) →
    is_before front [] ≡ false → IsOverlay front [] first second []
none_of_behind [] first second e = absurd cc
none_of_behind (step ∷ steps) first second e = absurd cc

-- One more step, which comes before the others of both lists.
above : (step : Step) (steps behind : List Step) (start : ℕ) →
    is_before (step ∷ steps) behind ≡ true →
    AreFrom start behind → AreFrom step.start behind
above step steps [] start e h = tt
above step steps (other ∷ others) start e h = (leb-true step.start other.start e, h.1)

stays_by : (b : Bool) (x y : Option Range) → b ≡ false → cond b x y ≡ y
stays_by true x y e = absurd cc
stays_by false x y e = refl

stays_behind : (step : Step) (steps behind : List Step) (code : ℕ) (before : Option Range) →
    is_before (step ∷ steps) behind ≡ true → nat_le step.start code ≡ false →
    range_at behind code before ≡ before
stays_behind step steps [] code before e t = refl
stays_behind step steps (other ∷ others) code before e t =
    let first = leb-true step.start other.start e in
    let below = leb-false step.start code t in
    let past : nat_le other.start code ≡ false = grind (arith, nat_tests, first, below) in
    stays_by (nat_le other.start code) (range_at others code other.range) before past

front_by : (step : Step) (front behind rest : List Step) (first second : Option Range) (code : ℕ)
    (b : Bool) → nat_le step.start code ≡ b → is_before (step ∷ front) behind ≡ true →
    IsOverlay front behind step.range second rest →
    cond b (range_at rest code (option_or step.range second)) (option_or first second)
    ≡ option_or (cond b (range_at front code step.range) first) (range_at behind code second)
front_by step front behind rest first second code true t e over = over.ranges code
front_by step front behind rest first second code false t e over =
    ap (option_or first) (sym (stays_behind step front behind code second e t))

pub front_more : (step : Step) (front behind rest : List Step) (first second : Option Range) →
    is_before (step ∷ front) behind ≡ true → IsOverlay front behind step.range second rest →
    IsOverlay (step ∷ front) behind first second
    (record { start = step.start; range = option_or step.range second } ∷ rest)
front_more step front behind rest first second e over = record {
  in_order = λ start f b. (f.0, over.in_order step.start f.1 (above step front behind start e b));
  ranges = λ code.
      front_by step front behind rest first second code (nat_le step.start code) refl e over;
}

above_front : (step : Step) (steps front : List Step) (start : ℕ) →
    is_before front (step ∷ steps) ≡ false →
    AreFrom start front → AreFrom step.start front
above_front step steps [] start e h = tt
above_front step steps (one ∷ ones) start e h =
    let below = leb-false one.start step.start e in (omega (arith, below), h.1)

stays_front : (step : Step) (steps front : List Step) (code : ℕ) (before : Option Range) →
    is_before front (step ∷ steps) ≡ false → nat_le step.start code ≡ false →
    range_at front code before ≡ before
stays_front step steps [] code before e t = refl
stays_front step steps (one ∷ ones) code before e t =
    let first = leb-false one.start step.start e in
    let below = leb-false step.start code t in
    let past : nat_le one.start code ≡ false = grind (arith, nat_tests, first, below) in
    stays_by (nat_le one.start code) (range_at ones code one.range) before past

behind_by : (step : Step) (front behind rest : List Step) (first second : Option Range) (code : ℕ)
    (b : Bool) → nat_le step.start code ≡ b → is_before front (step ∷ behind) ≡ false →
    IsOverlay front behind first step.range rest →
    cond b (range_at rest code (option_or first step.range)) (option_or first second)
    ≡ option_or (range_at front code first) (cond b (range_at behind code step.range) second)
behind_by step front behind rest first second code true t e over = over.ranges code
behind_by step front behind rest first second code false t e over =
    ap (λ x. option_or x second) (sym (stays_front step behind front code first e t))

pub behind_more : (step : Step) (front behind rest : List Step) (first second : Option Range) →
    is_before front (step ∷ behind) ≡ false → IsOverlay front behind first step.range rest →
    IsOverlay front (step ∷ behind) first second
    (record { start = step.start; range = option_or first step.range } ∷ rest)
behind_more step front behind rest first second e over = record {
  in_order = λ start f b.
      (b.0, over.in_order step.start (above_front step behind front start e f) b.1);
  ranges = λ code.
      behind_by step front behind rest first second code (nat_le step.start code) refl e over;
}

-- The range at a code point is that of the last step up to it.
pub range_before : (steps : List Step) (code : ℕ) (before : Option Range) →
    ((k : ℕ) (d : Step) → k < length steps → code < (get_or steps k d).start) →
    range_at steps code before ≡ before
range_before [] code before h = refl
range_before (step ∷ steps) code before h =
    let first = h 0 step (omega arith) in
    let past : nat_le step.start code ≡ false = grind (arith, nat_tests, first) in
    stays_by (nat_le step.start code) (range_at steps code step.range) before past

goes_by : (b : Bool) (x y : Option Range) → b ≡ true → cond b x y ≡ x
goes_by true x y e = refl
goes_by false x y e = absurd cc

pub range_behind : (steps : List Step) (code : ℕ) (before : Option Range) (n : ℕ) (d : Step) →
    suc n ≤ length steps →
    ((k : ℕ) (d : Step) → k < suc n → (get_or steps k d).start ≤ code) →
    ((k : ℕ) (d : Step) → suc n ≤ k → k < length steps → code < (get_or steps k d).start) →
    range_at steps code before ≡ (get_or steps n d).range
range_behind [] code before n d le below past = absurd (omega arith)
range_behind (step ∷ steps) code before zero d le below past =
    let first = below 0 step (omega arith) in
    let yes : nat_le step.start code ≡ true = grind (arith, nat_tests, first) in
    goes_by (nat_le step.start code) (range_at steps code step.range) before yes
    ∙ range_before steps code step.range (λ k e lt. past (suc k) e (omega arith) (omega arith))
range_behind (step ∷ steps) code before (suc n) d le below past =
    let first = below 0 step (omega arith) in
    let yes : nat_le step.start code ≡ true = grind (arith, nat_tests, first) in
    goes_by (nat_le step.start code) (range_at steps code step.range) before yes
    ∙ range_behind steps code step.range n d (omega arith)
    (λ k e lt. below (suc k) e (omega arith))
    (λ k e lt within. past (suc k) e (omega arith) (omega arith))

-- The same, as the code meets them.
pub is_empty : (range : Range) (steps : List Step) → steps ≡ [] → range.last < range.first →
    AreStepsOf (range ∷ []) steps
is_empty range steps e lt =
    subst (AreStepsOf (range ∷ [])) (sym e) (steps-empty range lt)

pub is_open : (range : Range) (steps : List Step) →
    steps ≡ record { start = range.first; range = Some range } ∷ [] → range.first ≤ range.last →
    2 ^ 32 ≤ range.last + 1 → AreStepsOf (range ∷ []) steps
is_open range steps e some end =
    subst (AreStepsOf (range ∷ [])) (sym e) (steps-open range some end)

pub is_closed : (range : Range) (steps : List Step) →
    steps ≡ record { start = range.first; range = Some range }
    ∷ record { start = range.last + 1; range = None } ∷ [] → range.first ≤ range.last →
    AreStepsOf (range ∷ []) steps
is_closed range steps e some = subst (AreStepsOf (range ∷ [])) (sym e) (steps-closed range some)

pub is_front : (whole front behind rest : List Step) (step : Step) (first second : Option Range) →
    whole ≡ step ∷ front → is_before whole behind ≡ true →
    IsOverlay front behind step.range second rest →
    IsOverlay whole behind first second
    (record { start = step.start; range = option_or step.range second } ∷ rest)
is_front whole front behind rest step first second e before over =
    subst (λ steps. IsOverlay steps behind first second
    (record { start = step.start; range = option_or step.range second } ∷ rest)) (sym e)
    (front_more step front behind rest first second
    (ap (λ steps. is_before steps behind) (sym e) ∙ before) over)

pub is_behind : (front whole behind rest : List Step) (step : Step) (first second : Option Range) →
    whole ≡ step ∷ behind → is_before front whole ≡ false →
    IsOverlay front behind first step.range rest →
    IsOverlay front whole first second
    (record { start = step.start; range = option_or first step.range } ∷ rest)
is_behind front whole behind rest step first second e before over =
    subst (λ steps. IsOverlay front steps first second
    (record { start = step.start; range = option_or first step.range } ∷ rest)) (sym e)
    (behind_more step front behind rest first second
    (ap (is_before front) (sym e) ∙ before) over)

pub no_front : (front behind : List Step) (first second : Option Range) → front ≡ [] →
    is_before front behind ≡ true → IsOverlay front behind first second []
no_front front behind first second e before =
    subst (λ steps. IsOverlay steps behind first second []) (sym e)
    (none_of_front behind first second (ap (λ steps. is_before steps behind) (sym e) ∙ before))

pub no_behind : (front behind : List Step) (first second : Option Range) → behind ≡ [] →
    is_before front behind ≡ false → IsOverlay front behind first second []
no_behind front behind first second e before =
    subst (λ steps. IsOverlay front steps first second []) (sym e)
    (none_of_behind front first second (ap (is_before front) (sym e) ∙ before))

pub at_none : (steps : List Step) (code n : ℕ) → n ≡ 0 →
    ((k : ℕ) (d : Step) → n ≤ k → k < length steps → code < (get_or steps k d).start) →
    None ≡ range_at steps code None
at_none steps code n e past =
    sym (range_before steps code None (λ k d lt. past k d (omega arith) lt))

at_place : (steps : List Step) (code : ℕ) (n m : ℕ) (d : Step) → n ≡ suc m → n ≤ length steps →
    ((k : ℕ) (d : Step) → k < n → (get_or steps k d).start ≤ code) →
    ((k : ℕ) (d : Step) → n ≤ k → k < length steps → code < (get_or steps k d).start) →
    (get_or steps m d).range ≡ range_at steps code None
at_place steps code n m d e within below past =
    sym (range_behind steps code None m d (omega arith) (λ k f lt. below k f (omega arith))
    (λ k f le lt. past k f (omega arith) lt))

pub at_some : (steps : List Step) (code n : ℕ) (d : Step) → 1 ≤ n → n ≤ length steps →
    ((k : ℕ) (d : Step) → k < n → (get_or steps k d).start ≤ code) →
    ((k : ℕ) (d : Step) → n ≤ k → k < length steps → code < (get_or steps k d).start) →
    (get_or steps (n - 1) d).range ≡ range_at steps code None
at_some steps code zero d some within below past = absurd (omega arith)
at_some steps code (suc m) d some within below past =
    let back : suc m - 1 ≡ m = omega arith in
    ap (λ j. (get_or steps j d).range) back ∙ at_place steps code (suc m) m d refl within below past

pub ruleset steps_by = (is_empty, is_open, is_closed)

pub ruleset layers_by = (is_front, is_behind, no_front, no_behind)
