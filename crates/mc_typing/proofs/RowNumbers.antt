-- What stands in a row has no aggregates, so no number matters there.
use Rattle.std.proofs.Common.{◌≡◌, ℕ, ◌+◌, Bool, true, false, cond, List, [], ◌∷◌, Option, None}
use Rattle.std.proofs.Common.{Some}
use Rattle.std.proofs.Common.{codes, length, map, refl, sym, ap, ◌∙◌, subst}
use Rattle.std.specs.List.{AllByRecursion}
use Rattle.std.specs.Prelude.{Err}
use Rattle.mc_base.specs.Results.{result_and_then}
use Rattle.mc_ast.specs.declared.expr.Expr.{Expr}
use Rattle.mc_ast.specs.declared.expr.Form.{Form-F, out-Form}
use Rattle.mc_catalog.specs.declared.catalog.Catalog.{Catalog}
use Rattle.mc_typing.specs.declared.callee.Callee.{Callee}
use Rattle.mc_typing.specs.declared.callee.Callee.TheVariants.{Of, Charset, Collation, Coercibility}
use Rattle.mc_typing.specs.declared.callee.Callee.TheVariants.{Version, Weights, Aggregate}
use Rattle.mc_typing.specs.declared.place.Place.{Place}
use Rattle.mc_typing.specs.declared.place.Place.TheVariants.{Row}
use Rattle.mc_typing.specs.declared.scope.Scope.{Scope}
use Rattle.mc_typing.specs.declared.typed.AggName.{AggName}
use Rattle.mc_typing.specs.declared.typed.AggName.TheVariants.{Count}
use Rattle.mc_typing.specs.declared.typed.TypedExpr.{TypedExpr}
use Rattle.mc_typing.specs.Aggregates.{aggregate_call, aggregate_count, aggregate_of}
use Rattle.mc_typing.specs.Aggregates.{is_aggregate_form, total}
use Rattle.mc_typing.specs.Calls.{call}
use Rattle.mc_typing.specs.Exprs.{in_row, of_one, operands, taker_of, typed_node, typing, typings}
use Rattle.mc_typing.specs.Forms.{parts}
use Rattle.mc_typing.specs.Functions.{callee_of, takes}
use Rattle.mc_typing.specs.Messages.{wrong_count}
use Rattle.mc_typing.specs.Places.{place_below}
use Rattle.mc_typing.proofs.Trees.{expr_induction, then_same, typing_is}

pub row_below : {X A : Type 0} (z : Form-F X A) → place_below Row z ≡ Row
row_below z = of_test (is_aggregate_form z)
  where
    of_test : (b : Bool) → cond b Row Row ≡ Row
    of_test true = refl
    of_test false = refl

-- Nodes
same_call : (n m : ℕ) (op : List ℕ) (name : AggName) (xs : List TypedExpr)
    → aggregate_call Row n op name xs ≡ aggregate_call Row m op name xs
same_call n m op name [] = refl
same_call n m op name (x ∷ xs) = refl

same_distinct : (n m : ℕ) (xs : List TypedExpr)
    → of_one (aggregate_of Row n (codes "count") Count true) xs
    ≡ of_one (aggregate_of Row m (codes "count") Count true) xs
same_distinct n m [] = refl
same_distinct n m (x ∷ xs) = refl

same_callee : (c : Catalog) (s : Scope) (n m : ℕ) (name : List ℕ) (callee : Option Callee)
    (xs : List TypedExpr) → call c s Row n name callee xs ≡ call c s Row m name callee xs
same_callee c s n m name None xs = refl
same_callee c s n m name (Some (Aggregate which)) xs =
    ap (λ t. cond (takes (Aggregate which) (length xs)) t (Err (wrong_count name)))
    (same_call n m name which xs)
same_callee c s n m name (Some (Of function)) xs = refl
same_callee c s n m name (Some Charset) xs = refl
same_callee c s n m name (Some Collation) xs = refl
same_callee c s n m name (Some Coercibility) xs = refl
same_callee c s n m name (Some Version) xs = refl
same_callee c s n m name (Some Weights) xs = refl

same_node : {X A : Type 0} (c : Catalog) (s : Scope) (n m : ℕ) (z : Form-F X A)
    (xs : List TypedExpr) → typed_node c s Row n z xs ≡ typed_node c s Row m z xs
same_node c s n m (Form-F.CountDistinct t) xs = same_distinct n m xs
same_node c s n m (Form-F.Call name ts) xs = same_callee c s n m name (callee_of name) xs
same_node c s n m (Form-F.CastChar t None) xs = refl
same_node c s n m (Form-F.CastChar t (Some set)) xs = refl
same_node c s n m _ xs = refl

-- Trees
module _ (c : Catalog) (s : Scope) (groups : List Expr) where
  abbrev IsSame : Expr → Type 0
  IsSame e = (n m : ℕ) → typing c s groups Row n e ≡ typing c s groups Row m e

  same_typings : (n m : ℕ) (es : List Expr) → AllByRecursion IsSame es
      → typings c s groups Row n es ≡ typings c s groups Row m es
  same_typings n m [] h = refl
  same_typings n m (e ∷ es) h =
      ap (λ t. t ∷ typings c s groups Row (n + aggregate_count e) es) (h.0 n m)
      ∙ ap (λ ts. typing c s groups Row m e ∷ ts)
      (same_typings (n + aggregate_count e) (m + aggregate_count e) es h.1)

  same_below : (n m : ℕ) (place : Place) (es : List Expr) → place ≡ Row
      → AllByRecursion IsSame es
      → typings c s groups place n es ≡ typings c s groups place m es
  same_below n m place es is h =
      subst (λ (p : Place). typings c s groups p n es ≡ typings c s groups p m es) (sym is)
      (same_typings n m es h)

  step : (e : Expr) → AllByRecursion IsSame (parts (out-Form e.form)) → IsSame e
  step e h n m =
      let z = out-Form e.form in
      let more = total aggregate_count (parts z) in
      typing_is c s groups e Row n
      ∙ (then_same (typed_node c s Row (n + more) z) (typed_node c s Row (m + more) z)
      (same_node c s (n + more) (m + more) z)
      (operands c s (taker_of z) (typings c s groups (place_below Row z) n (parts z)))
      ∙ (ap (λ ts. result_and_then (typed_node c s Row (m + more) z) (operands c s (taker_of z) ts))
      (same_below n m (place_below Row z) (parts z) (row_below z) h)
      ∙ sym (typing_is c s groups e Row m)))

  pub row_number : (e : Expr) (n m : ℕ)
      → typing c s groups Row n e ≡ typing c s groups Row m e
  row_number = expr_induction IsSame step

pub row_typings : (c : Catalog) (s : Scope) (n : ℕ) (es : List Expr)
    → typings c s [] Row n es ≡ map (in_row c s) es
row_typings c s n [] = refl
row_typings c s n (e ∷ es) =
    ap (λ t. t ∷ typings c s [] Row (n + aggregate_count e) es) (row_number c s [] e n 0)
    ∙ ap (λ ts. in_row c s e ∷ ts) (row_typings c s (n + aggregate_count e) es)
