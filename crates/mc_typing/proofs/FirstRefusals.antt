-- Operands are refused by the first that is refused, and so is their node.
use Rattle.std.proofs.Common.{◌≡◌, ℕ, ◌+◌, List, [], ◌∷◌, ◌++◌, Option, refl, ap}
use Rattle.std.proofs.Common.{◌∙◌}
use Rattle.std.specs.List.{AllByRecursion}
use Rattle.std.specs.Prelude.{IsOk, Result, Ok, Err}
use Rattle.mc_base.specs.Results.{result_and_then}
use Rattle.mc_base.specs.declared.refusal.Refusal.{Refusal}
use Rattle.mc_ast.specs.declared.expr.Expr.{Expr}
use Rattle.mc_ast.specs.declared.expr.Form.{out-Form}
use Rattle.mc_catalog.specs.declared.catalog.Catalog.{Catalog}
use Rattle.mc_typing.specs.declared.callee.Callee.{Callee}
use Rattle.mc_typing.specs.declared.place.Place.{Place}
use Rattle.mc_typing.specs.declared.scope.Scope.{Scope}
use Rattle.mc_typing.specs.declared.typed.TypedExpr.{TypedExpr}
use Rattle.mc_typing.specs.Aggregates.{aggregate_count, total}
use Rattle.mc_typing.specs.Exprs.{Typing, before, operands, operands_from, taker_of, turned}
use Rattle.mc_typing.specs.Exprs.{typed_node, typing, typings}
use Rattle.mc_typing.specs.FirstRefused.{IsFirstRefused}
use Rattle.mc_typing.specs.Forms.{parts}
use Rattle.mc_typing.specs.Functions.{turns_to_text}
use Rattle.mc_typing.specs.Places.{place_at, place_below}
use Rattle.mc_typing.proofs.Trees.{typing_is}

one_refusal : (q r : Refusal) (xs : Result (List TypedExpr) Refusal) → xs ≡ Err q → xs ≡ Err r
    → q ≡ r
one_refusal q r xs e f = cc

refused_rest : (x : TypedExpr) (others : Result (List TypedExpr) Refusal) (r : Refusal)
    → before x others ≡ Err r
    → others ≡ Err r
refused_rest x (Ok xs) r e = cc
refused_rest x (Err q) r e = e

with_before : (x : TypedExpr) (ts : List Typing) (r : Refusal) → IsFirstRefused ts r
    → IsFirstRefused (Ok x ∷ ts) r
with_before x ts r h = record {
  before = Ok x ∷ h.before;
  behind = h.behind;
  is = ap (λ l. Ok x ∷ l) h.is;
  typed = (refl, h.typed);
}

first_from : (c : Catalog) (s : Scope) (callee : Option Callee) (n : ℕ) (ts : List Typing)
    (r : Refusal)
    → operands_from c s callee n ts ≡ Err r → IsFirstRefused ts r
first_from c s callee n [] r e = cc
first_from c s callee n (Err q ∷ ts) r e = record {
  before = [];
  behind = ts;
  is = ap (λ p. Err p ∷ ts) (one_refusal q r (Err q) refl e);
  typed = tt;
}
first_from c s callee n (Ok x ∷ ts) r e = with_before x ts r (first_from c s callee (n + 1) ts r
    (refused_rest (turned c s (turns_to_text callee n) x) (operands_from c s callee
    (n + 1) ts) r e))

err_is_not_ok : (q : Refusal) → IsOk {T = TypedExpr} {E = Refusal} (Err q) → ⊥
err_is_not_ok q e = cc

refused_from : (c : Catalog) (s : Scope) (callee : Option Callee) (n : ℕ)
    (front back : List Typing) (r : Refusal)
    → AllByRecursion IsOk front → operands_from c s callee n (front ++ Err r ∷ back) ≡ Err r
refused_from c s callee n [] back r h = refl
refused_from c s callee n (Ok x ∷ front) back r h = ap (before (turned c s
    (turns_to_text callee n) x))
    (refused_from c s callee (n + 1) front back r h.1)
refused_from c s callee n (Err q ∷ front) back r h = absurd (err_is_not_ok q h.0)

pub first_is : (c : Catalog) (s : Scope) (callee : Option Callee) (ts : List Typing) (r : Refusal)
    → operands c s callee ts ≡ Err r → IsFirstRefused ts r
first_is c s callee ts r e = first_from c s callee 0 ts r e

pub is_refused : (c : Catalog) (s : Scope) (callee : Option Callee) (ts : List Typing) (r : Refusal)
    → IsFirstRefused ts r → operands c s callee ts ≡ Err r
is_refused c s callee ts r h = ap (operands c s callee) h.is
    ∙ refused_from c s callee 0 h.before h.behind r h.typed

-- A tree with a refused operand
pub tree_refused : (c : Catalog) (s : Scope) (groups : List Expr) (place : Place) (number : ℕ)
    (e : Expr) (r : Refusal)
    → IsFirstRefused (typings c s groups (place_below (place_at groups place e) (out-Form e.form))
    number (parts (out-Form e.form))) r
    → typing c s groups place number e ≡ Err r
tree_refused c s groups place number e r h =
    let z = out-Form e.form in
    let own = place_at groups place e in
    typing_is c s groups e place number
    ∙ ap (result_and_then (typed_node c s own (number + total aggregate_count (parts z)) z))
    (is_refused c s (taker_of z) (typings c s groups (place_below own z) number (parts z)) r h)
