-- When there is a mix.
use Rattle.std.proofs.Common.{◌≡◌, ◌≢◌, ℕ, ◌<◌, ◌⊎◌, Bool, true, false, cond, ◌&&◌, ltb, eqb}
use Rattle.std.proofs.Common.{List, [], ◌∷◌, Option, Some, None, length, refl, sym, ap, ◌∙◌}
use Rattle.std.proofs.Common.{arith, inl, inr, zero}
use Rattle.std.specs.List.{Any, Contains, list_any}
use Rattle.std.specs.Option.{option_map, option_or, option_and_then}
use Rattle.std.specs.Prelude.{◌↔◌}
use Rattle.std.proofs.lemmas.Bool.{cases_Bool, both_ways, and_from, and_parts}
use Rattle.std.proofs.lemmas.Bool.{eqb-true, eq-eqb, ltb-true, lt-ltb}
use Rattle.mc_coerce.specs.declared.operand.Operand.{Operand}
use Rattle.mc_coerce.specs.declared.operand.Purpose.{Purpose}
use Rattle.mc_coerce.specs.declared.operand.Purpose.TheVariants.{Compare, Text}
use Rattle.mc_coerce.specs.declared.operand.Agg.TheVariants.{Uses, Mix}
use Rattle.mc_coerce.specs.declared.demand.Demand.{Demand}
use Rattle.mc_coerce.specs.declared.demand.Demand.TheVariants.{Beat, Share}
use Rattle.mc_coerce.specs.Levels.{no_collation}
use Rattle.mc_coerce.specs.Operand.{AreOperands}
use Rattle.mc_coerce.specs.Pair.{beats}
use Rattle.mc_coerce.specs.Demand.{decides, result_of, result_by}
use Rattle.mc_coerce.specs.Aggregate.{counted, beats_each, won_by, HasWinner, HasSharer}
use Rattle.mc_coerce.specs.Aggregate.{is_refused, result_for, uses_or_mix, aggregate}
use Rattle.mc_coerce.proofs.Members.{any_member, Found, find-any}
use Rattle.mc_coerce.proofs.Election.{decider}
use Rattle.mc_coerce.proofs.Origins.{AreOperands-counted, aggregate-none, aggregate-some}
use Rattle.mc_coerce.proofs.AnyOrder.{beats_itself, no_decider, has_member}

-- One of the operands decides.
abbrev HasDecider : Demand → List Operand → Type 0
HasDecider demand operands = Any (λ a. decides demand operands a ≡ true) operands

-- One of the operands beats each, at the level of no collation.
abbrev pub HasNoCollation : List Operand → Type 0
HasNoCollation operands =
    Any (λ a. (beats_each operands a ≡ true) × (a.level ≡ no_collation)) operands

some_not_none : (a : Operand) → Some a ≡ None → ⊥
some_not_none a h = cc

-- If one decides, there is a result.
not_undecided : (demand : Demand) (operands : List Operand) → HasDecider demand operands
    → result_by demand operands ≡ None → ⊥
not_undecided demand operands w none =
    let r : (y : Operand) × Found (decides demand operands) operands y =
    find-any (decides demand operands) operands
    (any_member (decides demand operands) operands w.1 (w.0, w.2, w.3) w.4) in
    some_not_none (result_of demand operands r.0)
    (sym (ap (option_map (result_of demand operands)) r.1.found) ∙ none)

undecided : (demand : Demand) (operands : List Operand) → (HasDecider demand operands → ⊥)
    → result_by demand operands ≡ None
undecided demand operands none =
    no_decider demand operands (λ b c h. none (c.0, b, c.1, c.2, h))

-- Where none beats each, there are two operands or more: one beats itself.
more_than_one : (operands : List Operand) → length operands ≢ 0 → (HasWinner operands → ⊥)
    → 1 < length operands
more_than_one [] n none = absurd (n refl)
more_than_one (x ∷ []) n none =
    absurd (none (zero, x, omega arith, refl, and_from (beats x x) true (beats_itself x) refl))
more_than_one (x ∷ y ∷ ys) n none = omega arith

-- To compare

refused_only : (t : Bool) (r : Operand) → cond t None (Some r) ≡ None → t ≡ true
refused_only true r h = refl
refused_only false r h = absurd (some_not_none r h)

-- Two or more of which none beats each, or one that does has no collation.
abbrev MixesCompare : List Operand → Type 0
MixesCompare operands =
    (1 < length operands) × ((HasWinner operands → ⊥) ⊎ HasNoCollation operands)

refuse : List Operand → Option Operand → Option Operand
refuse operands o =
    option_and_then (λ (r : Operand). cond (is_refused operands r) None (Some r)) o

compare_none : (operands : List Operand) → length operands ≢ 0 → result_for Compare operands ≡ None
    → MixesCompare operands
unfolding refuse
compare_none operands n h =
    elim (cases_Bool (list_any (decides Beat operands) operands)) [
      | inl t ↦
          let r : (y : Operand) × Found (decides Beat operands) operands y =
          find-any (decides Beat operands) operands t in
          let d : result_by Beat operands ≡ Some (won_by operands r.0) =
          ap (option_map (result_of Beat operands)) r.1.found in
          let f : is_refused operands (won_by operands r.0) ≡ true =
          refused_only (is_refused operands (won_by operands r.0)) (won_by operands r.0)
          (sym (ap (refuse operands) d) ∙ h) in
          let p = and_parts (ltb 1 (length operands)) (eqb r.0.level no_collation) f in (
            ltb-true _ _ p.0,
            inr (
              r.1.within.0,
              r.0,
              r.1.within.1,
              r.1.within.2,
              (r.1.passes, eqb-true _ _ p.1),
            ),
          )
      | inr f ↦
          let none : HasWinner operands → ⊥ =
          λ w. both_ways _ f (any_member (decides Beat operands) operands w.1 (w.0, w.2, w.3) w.4)
          in (more_than_one operands n none, inl none)
    ]

none_compares : (operands : List Operand) → AreOperands operands → MixesCompare operands
    → result_for Compare operands ≡ None
unfolding refuse
none_compares operands ops h =
    elim h.1 [
      | inl none ↦ ap (refuse operands) (undecided Beat operands none)
      | inr w ↦
          ap (refuse operands) (decider Beat operands w.1 ops (w.0, w.2, w.3) w.4.0)
          ∙ ap (λ (t : Bool). cond t None (Some (won_by operands w.1)))
          (and_from (ltb 1 (length operands)) (eqb w.1.level no_collation)
          (lt-ltb 1 (length operands) h.0) (eq-eqb _ _ w.4.1))
    ]

-- For a text

-- Two or more of which none beats each, and none shares with each.
abbrev MixesText : List Operand → Type 0
MixesText operands =
    (1 < length operands) × (HasWinner operands → ⊥) × (HasSharer operands → ⊥)

or_none : (o p : Option Operand) → option_or o p ≡ None → (o ≡ None) × (p ≡ None)
or_none None p h = (refl, h)
or_none (Some x) p h = absurd (some_not_none x h)

text_none : (operands : List Operand) → length operands ≢ 0 → result_for Text operands ≡ None
    → MixesText operands
text_none operands n h =
    let e = or_none (result_by Beat operands) (result_by Share operands) h in
    let none : HasWinner operands → ⊥ = λ w. not_undecided Beat operands w e.0 in (
      more_than_one operands n none,
      none,
      (λ w. not_undecided Share operands w e.1),
    )

none_shares : (operands : List Operand) → MixesText operands → result_for Text operands ≡ None
none_shares operands h =
    ap (λ (o : Option Operand). option_or o (result_by Share operands))
    (undecided Beat operands h.1) ∙ undecided Share operands h.2

-- Of a list

uses_not_mix : (a : Operand) → Uses a ≡ Mix → ⊥
uses_not_mix a h = cc

mix_none : (o : Option Operand) → uses_or_mix o ≡ Mix → o ≡ None
mix_none None h = refl
mix_none (Some x) h = absurd (uses_not_mix x h)

-- A mix of operands, some of which take part.
some_left : (list : List Operand) (purpose : Purpose) → aggregate list purpose ≡ Mix
    → (length (counted list) ≢ 0) × (result_for purpose (counted list) ≡ None)
some_left list purpose h =
    let n : length (counted list) ≢ 0 =
    λ e. uses_not_mix _ (sym (aggregate-none list purpose e) ∙ h) in
    (n, mix_none _ (sym (aggregate-some list purpose n) ∙ h))

mixed : (list : List Operand) (purpose : Purpose) → 1 < length (counted list)
    → result_for purpose (counted list) ≡ None → aggregate list purpose ≡ Mix
mixed list purpose l h =
    aggregate-some list purpose (λ e. omega arith) ∙ ap uses_or_mix h

pub compare_mix : (list : List Operand) → AreOperands list
    → (aggregate list Compare ≡ Mix) ↔ MixesCompare (counted list)
compare_mix list ops = (
  (λ h. let s = some_left list Compare h in compare_none (counted list) s.0 s.1),
  (λ h. mixed list Compare h.0 (none_compares (counted list) (AreOperands-counted list ops) h)),
)

pub text_mix : (list : List Operand) → (aggregate list Text ≡ Mix) ↔ MixesText (counted list)
text_mix list = (
  (λ h. let s = some_left list Text h in text_none (counted list) s.0 s.1),
  (λ h. mixed list Text h.0 (none_shares (counted list) h)),
)

pub two_or_more : (list : List Operand) (purpose : Purpose) → AreOperands list
    → aggregate list purpose ≡ Mix → 1 < length (counted list)
two_or_more list Compare ops h = ((compare_mix list ops).0 h).0
two_or_more list Text ops h = ((text_mix list).0 h).0

-- A winner gives the answer of a comparison, unless two or more have no collation.
allowed : (m n : ℕ) (r : Operand) → (1 < m → n ≡ no_collation → ⊥)
    → cond (ltb 1 m && eqb n no_collation) None (Some r) ≡ Some r
allowed m n r h =
    elim (cases_Bool (ltb 1 m && eqb n no_collation)) [
      | inl t ↦ let p = and_parts (ltb 1 m) (eqb n no_collation) t in
          absurd (h (ltb-true _ _ p.0) (eqb-true _ _ p.1))
      | inr f ↦ ap (λ (t : Bool). cond t None (Some r)) f
    ]

pub compared : (list : List Operand) (a : Operand) → AreOperands list → Contains (counted list) a
    → beats_each (counted list) a ≡ true
    → (1 < length (counted list) → a.level ≡ no_collation → ⊥)
    → aggregate list Compare ≡ Uses (won_by (counted list) a)
unfolding refuse
compared list a ops c h l =
    aggregate-some list Compare (has_member (counted list) a c)
    ∙ ap (λ (o : Option Operand). uses_or_mix (refuse (counted list) o))
    (decider Beat (counted list) a (AreOperands-counted list ops) c h)
    ∙ ap uses_or_mix (allowed (length (counted list)) a.level (won_by (counted list) a) l)

pub shared : (list : List Operand) (a : Operand) → AreOperands list
    → (HasWinner (counted list) → ⊥) → Contains (counted list) a
    → decides Share (counted list) a ≡ true
    → aggregate list Text ≡ Uses (result_of Share (counted list) a)
shared list a ops none c h =
    aggregate-some list Text (has_member (counted list) a c)
    ∙ ap (λ (o : Option Operand). uses_or_mix (option_or o (result_by Share (counted list))))
    (undecided Beat (counted list) none)
    ∙ ap uses_or_mix (decider Share (counted list) a (AreOperands-counted list ops) c h)
