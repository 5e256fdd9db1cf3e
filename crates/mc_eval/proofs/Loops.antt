-- Loops over operands: truth values joined so far, and the counter of steps.
use Rattle.std.proofs.Common.{◌≡◌, ℕ, ◌+◌, ◌<◌, ◌≤◌, Bool, true, false, List, [], ◌∷◌}
use Rattle.std.proofs.Common.{drop, get_or, length, map, refl, sym, ap, ◌∙◌, arith}
use Rattle.std.proofs.lemmas.Bool.{or_parts}
use Rattle.std.proofs.lemmas.List.{drop_all, drop_more}
use Rattle.std.specs.List.{list_any}
use Rattle.mc_ast.specs.declared.operators.CmpOp.TheVariants.{Eq}
use Rattle.mc_charset.specs.declared.collation_id.CollId.{CollId}
use Rattle.mc_order.specs.Meaning.{Meaning}
use Rattle.mc_typing.specs.declared.typed.TypedExpr.{TypedExpr}
use Rattle.mc_values.specs.declared.value.Value.{Value}
use Rattle.std.specs.Prelude.{Option}
use Rattle.mc_eval.specs.Acceptance.{firm}
use Rattle.mc_eval.specs.Comparisons.{compared, is_among}
use Rattle.mc_eval.specs.Fit.{has_like}
use Rattle.mc_eval.specs.Held.{held_value, held_values}
use Rattle.mc_eval.specs.Node.{Place}
use Rattle.mc_eval.specs.Truths.{all_of, least, opposite, truth, turned}
use Rattle.mc_eval.specs.Value.{value}
use Rattle.mc_eval.specs.Walk.{GoesOn, chained, truths_in}
use Rattle.mc_eval.specs.declared.held.Held.{Held}
use Rattle.mc_eval.specs.declared.truth.Truth.{Truth}
use Rattle.mc_eval.specs.declared.truth.Truth.TheVariants.{No, Faulty, Unknown, Yes}
use Rattle.mc_eval.proofs.Chains.{least_assoc, least_yes}

pub mapped : {A B C : Type 0} (f : A → B) (g : B → C) (xs : List A)
    → map g (map f xs) ≡ map (λ x. g (f x)) xs
mapped f g [] = refl
mapped f g (x ∷ xs) = ap (λ l. g (f x) ∷ l) (mapped f g xs)

next : {A : Type 0} (xs : List A) (i : ℕ) (x : A) → i < length xs → x ≡ get_or xs i x
    → drop i xs ≡ x ∷ drop (i + 1) xs
next xs i x h e = drop_more xs i x h ∙ ap (λ y. y ∷ drop (i + 1) xs) (sym e)

-- The joined truth values of those that are left.
abbrev pub joined : {A : Type 0} → (A → Truth) → List A → Truth
joined f xs = all_of (map f xs)

pub join_step : {A : Type 0} (f : A → Truth) (xs : List A) (i : ℕ) (x : A) (s t whole : Truth)
    → i < length xs → x ≡ get_or xs i x → t ≡ f x → least s (joined f (drop i xs)) ≡ whole
    → least (least s t) (joined f (drop (i + 1) xs)) ≡ whole
join_step f xs i x s t whole h e k inv =
    least_assoc s t (joined f (drop (i + 1) xs))
    ∙ (ap (λ u. least s (least u (joined f (drop (i + 1) xs)))) k
    ∙ (sym (ap (λ l. least s (joined f l)) (next xs i x h e)) ∙ inv))

pub join_end : {A : Type 0} (f : A → Truth) (xs : List A) (i : ℕ) (s whole : Truth)
    → length xs ≤ i → least s (joined f (drop i xs)) ≡ whole → whole ≡ s
join_end f xs i s whole h inv =
    sym inv ∙ (ap (λ l. least s (joined f l)) (drop_all i xs h) ∙ least_yes s)

pub join_no : (s rest whole : Truth) → least s rest ≡ whole → s ≡ No → whole ≡ No
join_no s rest whole inv e = sym inv ∙ ap (λ t. least t rest) e

-- A member of AND, or its opposite as one of OR.
abbrev pub member : Place → Bool → TypedExpr → Truth
member p or x = turned or (truth (value p x))

pub chained_is : (p : Place) (or : Bool) (xs : List TypedExpr)
    → chained or (truths_in p xs) ≡ turned or (joined (member p or) xs)
chained_is p true xs =
    ap (λ l. opposite (all_of l)) (mapped (λ x. truth (value p x)) opposite xs)
chained_is p false xs = refl

-- How a value differs from a member of IN.
abbrev pub differs : (ℕ → Meaning) → Option CollId → Value → Held → Truth
differs meaning coll it held = opposite (compared meaning coll Eq it (held_value held))

pub among_is : (meaning : ℕ → Meaning) (coll : Option CollId) (it : Value) (helds : List Held)
    → is_among meaning coll it (held_values helds)
    ≡ opposite (joined (differs meaning coll it) helds)
among_is meaning coll it helds =
    ap (λ l. opposite (all_of l)) (mapped (compared meaning coll Eq it) opposite (held_values helds)
    ∙ mapped held_value (λ other. opposite (compared meaning coll Eq it other)) helds)

-- What conjuncts come to accepts a row or not.
firm_least : (a b : Truth) → firm b ≡ b → firm (least (firm a) b) ≡ least (firm a) b
firm_least No b h = refl
firm_least Faulty No h = refl
firm_least Faulty Faulty h = refl
firm_least Faulty Unknown h = refl
firm_least Faulty Yes h = refl
firm_least Unknown b h = refl
firm_least Yes b h = h

pub firm_joined : {A : Type 0} (f : A → Truth) (xs : List A)
    → firm (joined (λ x. firm (f x)) xs) ≡ joined (λ x. firm (f x)) xs
firm_joined f [] = refl
firm_joined f (x ∷ xs) = firm_least (f x) (joined (λ y. firm (f y)) xs) (firm_joined f xs)

-- So far the counter stood still where none of the expressions has LIKE, and was never lowered.
pub record LikeLeft (xs : List TypedExpr) (index old new : ℕ) : Type 0 where
  pub still : list_any has_like xs ≡ false
      → (new ≡ old) × (list_any has_like (drop index xs) ≡ false)
  pub later : old ≤ new

pub like_step : (xs : List TypedExpr) (i : ℕ) (x : TypedExpr) (first old new : ℕ)
    → i < length xs → x ≡ get_or xs i x → LikeLeft xs i first old → GoesOn (has_like x) old new
    → LikeLeft xs (i + 1) first new
like_step xs i x first old new h e w more = record {
  still = λ none.
      let left = w.still none in
      let both = or_parts (has_like x) (list_any has_like (drop (i + 1) xs))
      (sym (ap (list_any has_like) (next xs i x h e)) ∙ left.1) in
      (more.still both.0 ∙ left.0, both.1);
  later = omega (arith, w.later, more.later);
}
