-- The lines of subjects are their items beside their keys.
use Rattle.std.proofs.Common.{◌≡◌, ℕ, ◌+◌, true, false, List, [], ◌∷◌, None, Some, map, refl}
use Rattle.std.proofs.Common.{sym, ap, ◌∙◌}
use Rattle.std.specs.Prelude.{Option, Result, Ok, Err, nat_eq, option_and_then, option_map}
use Rattle.std.specs.Prelude.{if◌then◌else◌}
use Rattle.mc_values.specs.declared.value.Value.{Value}
use Rattle.mc_exec.specs.Given.{all_of}
use Rattle.mc_exec.specs.Shown.{Line}
use Rattle.mc_exec.specs.Steps.{picked}
use Rattle.mc_exec.specs.Told.{TellsOf}
use Rattle.mc_exec.specs.declared.fault.ExecFault.{ExecFault}
use Rattle.mc_exec.specs.declared.fault.ExecFault.TheVariants.{OutOfRange, NoMemory}

-- What the first gives and what the others give.
pub first_and_others : {B : Type 0} (o : Option B) (p : Option (List B)) (ys : List B)
    → option_and_then (λ first. option_map (λ others. first ∷ others) p) o ≡ Some ys
    → (first : B) × ((others : List B) × (o ≡ Some first) × (p ≡ Some others) × (ys
    ≡ first ∷ others))
first_and_others None p ys e = absurd (cc)
first_and_others (Some first) None ys e = absurd (cc)
first_and_others (Some first) (Some others) ys e = (first, (others, refl, refl, sym (cc)))

pub mapped_twice : {A B C : Type 0} (f : A → B) (h : B → C) (o : Option A)
    → option_map h (option_map f o) ≡ option_map (λ x. h (f x)) o
mapped_twice f h None = refl
mapped_twice f h (Some x) = refl

abbrev beside : List Value → List Value → Line
beside items keys = record { items = items; keys = keys }

module _ {A : Type 0} (f g : A → Option (List Value)) where
  abbrev line : A → Option Line
  line x = option_and_then (λ items. option_map (beside items) (g x)) (f x)

  line_of : (x : A) (keys : List Value) → g x ≡ Some keys
      → line x ≡ option_map (λ items. beside items keys) (f x)
  line_of x keys e = elim (f x) as (λ o. option_and_then
      (λ items. option_map (beside items) (g x)) o
      ≡ option_map (λ items. beside items keys) o)
      [ None ↦ refl | Some items ↦ ap (option_map (beside items)) e ]

  pub lines_are : {C : Type 0} (h : List (List Value) → List (List Value) → C) (xs : List A)
      (keys : List (List Value)) → all_of g xs ≡ Some keys
      → option_map (λ ls. h (map (λ l. l.keys) ls) (map (λ l. l.items) ls)) (all_of line xs)
      ≡ option_map (h keys) (all_of f xs)
  unfolding all_of
  lines_are h [] keys e = let same : [] ≡ keys = cc in ap (λ ks. Some (h ks [])) same
  lines_are {C = C} h (x ∷ xs) keys e =
      let p = first_and_others (g x) (all_of g xs) keys e in
      let others = lines_are (λ ks is. h (p.0 ∷ ks) is) xs p.1.0 p.1.2 in
      ap (λ o. option_map (λ ls. h (map (λ l. l.keys) ls) (map (λ l. l.items) ls))
      (option_and_then (λ first. option_map (λ more. first ∷ more) (all_of line xs)) o))
      (line_of x p.0 p.1.1)
      ∙ elim (f x) as (λ o. option_map (λ ls. h (map (λ l. l.keys) ls) (map (λ l. l.items) ls))
      (option_and_then (λ first. option_map (λ more. first ∷ more) (all_of line xs))
      (option_map (λ items. beside items p.0) o))
      ≡ option_map (h keys)
      (option_and_then (λ first. option_map (λ more. first ∷ more) (all_of f xs)) o)) [
        | None ↦ refl
        | Some items ↦
            mapped_twice (λ more. beside items p.0 ∷ more)
            (λ ls. h (map (λ l. l.keys) ls) (map (λ l. l.items) ls)) (all_of line xs)
            ∙ (lines_are (λ ks is. h (p.0 ∷ ks) (items ∷ is)) xs p.1.0 p.1.2
            ∙ (sym (mapped_twice (λ more. items ∷ more) (h (p.0 ∷ p.1.0)) (all_of f xs))
            ∙ ap (λ ks. option_map (h ks) (option_map (λ more. items ∷ more) (all_of f xs)))
            (sym p.1.3)))
      ]

  none_behind : {B C : Type 0} (o : Option B) (p : Option C) (h : B → C → List Line) → p ≡ None
      → option_and_then (λ first. option_map (h first) p) o ≡ None
  none_behind None p h e = refl
  none_behind (Some first) p h e = ap (option_map (h first)) e

  line_none : (x : A) → g x ≡ None → line x ≡ None
  line_none x e = elim (f x) as (λ o. option_and_then
      (λ items. option_map (beside items) (g x)) o ≡ None)
      [ None ↦ refl | Some items ↦ ap (option_map (beside items)) e ]

  without : (x : A) (o : Option (List Value)) (p : Option (List (List Value))) (more : Option
      (List Line))
      → g x ≡ o → (p ≡ None → more ≡ None)
      → option_and_then (λ first. option_map (λ others. first ∷ others) p) o ≡ None
      → option_and_then (λ first. option_map (λ others. first ∷ others) more) (line x) ≡ None
  without x None p more e k h =
      ap (option_and_then (λ first. option_map (λ others. first ∷ others) more)) (line_none x e)
  without x (Some first) None more e k h = none_behind (line x) more (λ l ls. l ∷ ls) (k refl)
  without x (Some first) (Some others) more e k h = absurd (cc)

  pub no_lines : (xs : List A) → all_of g xs ≡ None → all_of line xs ≡ None
  unfolding all_of
  no_lines [] e = absurd (cc)
  no_lines (x ∷ xs) e =
      without x (g x) (all_of g xs) (all_of line xs) refl (λ k. no_lines xs k) e

-- What comes of the members that are given.
pub all_mapped : {A B C : Type 0} (h : B → C) (given : A → Option B) (xs : List A)
    → all_of (λ x. option_map h (given x)) xs ≡ option_map (map h) (all_of given xs)
unfolding all_of
all_mapped h given [] = refl
all_mapped h given (x ∷ xs) = elim (given x) as (λ o. option_and_then
    (λ first. option_map (λ others. first ∷ others) (all_of (λ y. option_map h (given y)) xs))
    (option_map h o)
    ≡ option_map (map h)
    (option_and_then (λ first. option_map (λ others. first ∷ others) (all_of given xs)) o)) [
      | None ↦ refl
      | Some y ↦ ap (option_map (λ others. h y ∷ others)) (all_mapped h given xs)
          ∙ (mapped_twice (map h) (λ others. h y ∷ others) (all_of given xs)
          ∙ sym (mapped_twice (λ others. y ∷ others) (map h) (all_of given xs)))
    ]

-- The items of a line are the values of the items.
pub line_items : (o p : Option (List Value)) (row : List Value)
    → option_map (λ l. l.items) (option_and_then (λ items. option_map (beside items) p) o)
    ≡ Some row
    → o ≡ Some row
line_items None p row e = absurd (cc)
line_items (Some items) None row e = absurd (cc)
line_items (Some items) (Some keys) row e = let same : items ≡ row = cc in ap (λ l. Some l) same

mapped_some : {A B : Type 0} (f : A → B) (o : Option A) (y : B) → option_map f o ≡ Some y
    → (x : A) × (o ≡ Some x) × (y ≡ f x)
mapped_some f None y e = absurd (cc)
mapped_some f (Some x) y e = let same : f x ≡ y = cc in (x, refl, sym same)

-- The lines of which these are the items.
pub lines_of_items : {A : Type 0} (given : A → Option Line) (xs : List A) (rows : List (List Value))
    → all_of (λ x. option_map (λ l. l.items) (given x)) xs ≡ Some rows
    → (ls : List Line) × (all_of given xs ≡ Some ls) × (rows ≡ map (λ l. l.items) ls)
lines_of_items given xs rows e = mapped_some (map (λ l. l.items)) (all_of given xs) rows
    (sym (all_mapped (λ l. l.items) given xs) ∙ e)

-- What comes of those that are picked.
pub picked_given : {A B : Type 0} (given : A → Option B) (count : ℕ) (ns : List ℕ) (xs : List A)
    (ys : List B) → all_of given xs ≡ Some ys
    → all_of given (picked count ns xs) ≡ Some (picked count ns ys)
unfolding picked all_of
picked_given given count [] xs ys e = refl
picked_given given count (n ∷ ns) [] ys e =
    let same : [] ≡ ys = cc in ap (λ l. Some (picked count (n ∷ ns) l)) same
picked_given given count (n ∷ ns) (x ∷ xs) ys e =
    let p = first_and_others (given x) (all_of given xs) ys e in
    elim (nat_eq n count) as (λ b.
    all_of given (if b then x ∷ picked (count + 1) ns xs else picked count ns xs)
    ≡ Some (if b then p.0 ∷ picked (count + 1) ns p.1.0 else picked count ns p.1.0)) [
      | true ↦
          ap (option_and_then (λ first. option_map (λ others. first ∷ others)
          (all_of given (picked (count + 1) ns xs)))) p.1.1
          ∙ ap (option_map (λ others. p.0 ∷ others)) (picked_given given
          (count + 1) ns xs p.1.0 p.1.2)
      | false ↦ picked_given given count ns xs p.1.0 p.1.2
    ]
    ∙ ap (λ l. Some (picked count (n ∷ ns) l)) (sym p.1.3)

-- What is told of a line.
pub line_fails : (o p : Option (List Value)) → o ≡ None
    → option_and_then (λ items. option_map (beside items) p) o ≡ None
line_fails o p e = ap (option_and_then (λ items. option_map (beside items) p)) e

pub line_told : {U : Type 0} (o p : Option (List Value)) (items keys : List Value)
    (result : Result U ExecFault) → o ≡ Some items → (other : Option (List Value))
    → ((r : Option (List Value)) → other ≡ r → p ≡ r) → TellsOf other keys result
    → TellsOf (option_and_then (λ items. option_map (beside items) p) o) (beside items keys) result
line_told o p items keys (Ok done) e other h t =
    ap (option_and_then (λ items. option_map (beside items) p)) e
    ∙ ap (option_map (beside items)) (h (Some keys) t)
line_told o p items keys (Err OutOfRange) e other h t =
    ap (option_and_then (λ items. option_map (beside items) p)) e
    ∙ ap (option_map (beside items)) (h None t)
line_told o p items keys (Err NoMemory) e other h t = tt

mapped_none : {A B : Type 0} (f : A → B) (o : Option A) → option_map f o ≡ None → o ≡ None
mapped_none f None e = refl
mapped_none f (Some x) e = absurd (cc)

pub no_items : {A : Type 0} (given : A → Option Line) (xs : List A)
    → all_of (λ x. option_map (λ l. l.items) (given x)) xs ≡ None → all_of given xs ≡ None
no_items given xs e = mapped_none (map (λ l. l.items)) (all_of given xs)
    (sym (all_mapped (λ l. l.items) given xs) ∙ e)
