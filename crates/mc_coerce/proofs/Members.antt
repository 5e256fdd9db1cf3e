-- Tests of a list and its members.
use Rattle.std.proofs.Common.{◌≡◌, Bool, true, false, cond, ◌||◌, List, []}
use Rattle.std.proofs.Common.{◌∷◌, Some, None, refl, sym, ap, ◌∙◌, arith}
use Rattle.std.proofs.Common.{inl, inr, zero, suc}
use Rattle.std.specs.List.{Contains, find, list_all, list_any}
use Rattle.std.proofs.lemmas.Bool.{cases_Bool, false≢true, or_parts}
use Rattle.std.proofs.lemmas.List.Elements.{All-contains}
use Rattle.std.proofs.lemmas.List.Folds.{list_any_at}
use Rattle.std.proofs.lemmas.List.Sums.{AllPass-from_list_all}

pub member_passes : {X : Type 0} (p : X → Bool) (xs : List X) (x : X) → list_all p xs ≡ true
    → Contains xs x → p x ≡ true
member_passes {X} p xs x h c =
    All-contains (λ (y : X). p y ≡ true) xs x (AllPass-from_list_all p xs h) c

pub any_member : {X : Type 0} (p : X → Bool) (xs : List X) (x : X) → Contains xs x → p x ≡ true
    → list_any p xs ≡ true
any_member p xs x c h = list_any_at p xs c.0 x c.1 (ap p c.2 ∙ h)

pub Contains-later : {X : Type 0} (y : X) (xs : List X) (x : X) → Contains xs x
    → Contains (y ∷ xs) x
Contains-later y xs x c = let l = c.1 in (suc c.0, omega arith, c.2)

pub Contains-first : {X : Type 0} (xs : List X) (x : X) → Contains (x ∷ xs) x
Contains-first xs x = (zero, omega arith, refl)

-- The first element that passes: it passes, and is in the list.
pub record Found {X : Type 0} (p : X → Bool) (xs : List X) (x : X) : Type 0 where
  pub found : find p xs ≡ Some x
  pub passes : p x ≡ true
  pub within : Contains xs x

pub find-any : {X : Type 0} (p : X → Bool) (xs : List X) → list_any p xs ≡ true
    → (x : X) × Found p xs x
find-any p [] h = absurd (false≢true h)
find-any {X} p (x ∷ xs) h =
    elim (cases_Bool (p x)) [
      | inl t ↦ (
        x,
        record {
          found = ap (λ b. cond b (Some x) (find p xs)) t;
          passes = t;
          within = Contains-first xs x;
        },
      )
      | inr f ↦
          let r : (y : X) × Found p xs y =
          find-any p xs (ap (λ b. b || list_any p xs) (sym f) ∙ h) in (
            r.0,
            record {
              found = ap (λ b. cond b (Some x) (find p xs)) f ∙ r.1.found;
              passes = r.1.passes;
              within = Contains-later x xs r.0 r.1.within;
            },
          )
    ]

pub find-none : {X : Type 0} (p : X → Bool) (xs : List X) → list_any p xs ≡ false
    → find p xs ≡ None
find-none p [] h = refl
find-none p (x ∷ xs) h =
    let e = or_parts (p x) (list_any p xs) h in
    ap (λ b. cond b (Some x) (find p xs)) e.0 ∙ find-none p xs e.1
