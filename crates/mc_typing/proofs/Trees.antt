-- What comes of a tree is its form's, over what comes of its operands; and what holds of each tree
-- whose operands it holds of holds of all.
use Rattle.std.proofs.Common.{◌≡◌, ℕ, ◌+◌, List, [], ◌∷◌, Option, Some, None, map, refl, sym}
use Rattle.std.proofs.Common.{ap, ◌∙◌, cond, subst}
use Rattle.std.specs.List.{AllByRecursion}
use Rattle.std.specs.Prelude.{Result, Ok, Err, option_map}
use Rattle.mc_base.specs.Results.{result_and_then}
use Rattle.mc_ast.specs.declared.expr.Expr.{Expr, Expr-F, fold_out-Expr, ind-Expr, map-Expr}
use Rattle.mc_ast.specs.declared.expr.Expr.{out-Expr}
use Rattle.mc_ast.specs.declared.expr.Expr.{para-roll-Expr, roll-Expr, roll-out-Expr}
use Rattle.mc_ast.specs.declared.expr.Form.{Form, Form-F, fold-Form, fold_out-Form, map-Form}
use Rattle.mc_ast.specs.declared.expr.Form.{out-Form, out-roll-Form, para-Form, para-roll-Form}
use Rattle.mc_ast.specs.declared.expr.Form.{roll-Form, roll-out-Form}
use Rattle.mc_catalog.specs.declared.catalog.Catalog.{Catalog}
use Rattle.mc_typing.specs.declared.place.Place.{Place}
use Rattle.mc_typing.specs.declared.place.Place.TheVariants.{Row}
use Rattle.mc_typing.specs.declared.scope.Scope.{Scope}
use Rattle.mc_typing.specs.declared.typed.TypedExpr.{TypedExpr}
use Rattle.mc_typing.specs.Aggregates.{aggregate_count, form_count, from_number, is_aggregate_form}
use Rattle.mc_typing.specs.Aggregates.{is_constant, total}
use Rattle.mc_typing.specs.Exprs.{Placed, operands, taker_of, typed_form, typed_node, typing}
use Rattle.mc_typing.specs.Exprs.{typings}
use Rattle.mc_typing.specs.Forms.{option_before, parts}
use Rattle.mc_typing.specs.Places.{place_at, place_below}
use Rattle.mc_typing.specs.Walk.{form_typing}

-- A form whose operands are replaced

before_mapped : {A B : Type 0} (f : A → B) (one : Option A) (x : A)
    → option_before (option_map f one) (f x ∷ []) ≡ map f (option_before one (x ∷ []))
before_mapped f None x = refl
before_mapped f (Some y) x = refl

pub mapped_parts : {X A Y B : Type 0} (f : X → Y) (g : A → B) (z : Form-F X A)
    → parts (map-Form X A Y B f g z) ≡ map g (parts z)
mapped_parts f g (Form-F.Trim side None x) = refl
mapped_parts f g (Form-F.Trim side (Some y) x) = refl
mapped_parts f g (Form-F.SubstringFrom x y None) = refl
mapped_parts f g (Form-F.SubstringFrom x y (Some z)) = refl
mapped_parts f g _ = refl

mapped_taker : {X A Y B : Type 0} (f : X → Y) (g : A → B) (z : Form-F X A)
    → taker_of (map-Form X A Y B f g z) ≡ taker_of z
mapped_taker f g (Form-F.Or ts) = refl
mapped_taker f g _ = refl

mapped_aggregate : {X A Y B : Type 0} (f : X → Y) (g : A → B) (z : Form-F X A)
    → is_aggregate_form (map-Form X A Y B f g z) ≡ is_aggregate_form z
mapped_aggregate f g (Form-F.Or ts) = refl
mapped_aggregate f g _ = refl

mapped_constant : {X A Y B : Type 0} (f : X → Y) (g : A → B) (z : Form-F X A)
    → is_constant (map-Form X A Y B f g z) ≡ is_constant z
mapped_constant f g (Form-F.Or ts) = refl
mapped_constant f g _ = refl

mapped_node : {X A Y B : Type 0} (c : Catalog) (s : Scope) (place : Place) (number : ℕ)
    (f : X → Y) (g : A → B) (z : Form-F X A) (xs : List TypedExpr)
    → typed_node c s place number (map-Form X A Y B f g z) xs ≡ typed_node c s place number z xs
mapped_node c s place number f g (Form-F.CastChar t None) xs = refl
mapped_node c s place number f g (Form-F.CastChar t (Some set)) xs = refl
mapped_node c s place number f g _ xs = refl

-- Totals, and members with numbers, after a function

pub total_mapped : {A B : Type 0} (count : B → ℕ) (f : A → B) (xs : List A)
    → total count (map f xs) ≡ total (λ x. count (f x)) xs
total_mapped count f [] = refl
total_mapped count f (x ∷ xs) = ap (λ n. count (f x) + n) (total_mapped count f xs)

numbered_mapped : {A B C : Type 0} (count : B → ℕ) (at : ℕ → B → C) (f : A → B) (n : ℕ)
    (xs : List A)
    → from_number count at n (map f xs) ≡ from_number (λ x. count (f x)) (λ m x. at m (f x)) n xs
numbered_mapped count at f n [] = refl
numbered_mapped count at f n (x ∷ xs) =
    ap (λ ys. at n (f x) ∷ ys) (numbered_mapped count at f (n + count (f x)) xs)

-- What comes next of an answer, by one function or another that does the same.
pub then_same : {A B E : Type 0} (f g : A → Result B E) → ((a : A) → f a ≡ g a)
    → (r : Result A E) → result_and_then f r ≡ result_and_then g r
then_same f g h (Ok a) = h a
then_same f g h (Err e) = refl

-- What comes of a tree

module _ (c : Catalog) (s : Scope) (groups : List Expr) where
  abbrev typed : Expr → Placed
  typed e place number = typing c s groups place number e

  abbrev placed : Expr-F (Form × Placed) (Expr × Placed) → Placed
  placed e at n = e.form.1 (place_at groups at (record { span = e.span; form = e.form.0 })) n

  abbrev form_of : Form → Placed
  form_of f = para-Form Placed Placed (typed_form c s) placed f

  abbrev both : Expr → Expr × Placed
  both e = (e, typed e)

  abbrev beside : Form-F Form Expr → Form-F (Form × Placed) (Expr × Placed)
  beside z = map-Form Form Expr (Form × Placed) (Expr × Placed) (λ f. (f, form_of f)) both z

  form_rolled : (z : Form-F Form Expr) → form_of (roll-Form z) ≡ typed_form c s (beside z)
  unfolding typing
  form_rolled z = para-roll-Form Placed Placed (typed_form c s) placed z

  expr_rolled : (e : Expr) (place : Place) (number : ℕ)
      → typing c s groups place number (roll-Expr (out-Expr e))
      ≡ form_of e.form (place_at groups place (record { span = e.span; form = e.form })) number
  unfolding typing
  expr_rolled e place number = ap (λ (f : Placed). f place number)
      (para-roll-Expr Placed Placed (typed_form c s) placed (out-Expr e))

  abbrev counted : Expr × Placed → ℕ
  counted e = aggregate_count e.0

  pairs : (z : Form-F Form Expr) → parts (beside z) ≡ map both (parts z)
  pairs z = mapped_parts (λ f. (f, form_of f)) both z

  total_is : (z : Form-F Form Expr)
      → total counted (parts (beside z)) ≡ total aggregate_count (parts z)
  total_is z = ap (total counted) (pairs z) ∙ total_mapped counted both (parts z)

  below_is : (place : Place) (z : Form-F Form Expr)
      → place_below place (beside z) ≡ place_below place z
  below_is place z =
      ap (λ b. cond b Row place) (mapped_aggregate (λ f. (f, form_of f)) both z)

  typings_are : (place : Place) (number : ℕ) (z : Form-F Form Expr)
      → from_number counted (λ m e. e.1 (place_below place (beside z)) m) number (parts (beside z))
      ≡ typings c s groups (place_below place z) number (parts z)
  typings_are place number z =
      ap (λ below. from_number counted (λ m e. e.1 below m) number (parts (beside z)))
      (below_is place z)
      ∙ (ap (from_number counted (λ m e. e.1 (place_below place z) m) number) (pairs z)
      ∙ numbered_mapped counted (λ m e. e.1 (place_below place z) m) both number (parts z))

  operands_are : (place : Place) (number : ℕ) (z : Form-F Form Expr)
      → operands c s (taker_of (beside z)) (from_number counted
      (λ m e. e.1 (place_below place (beside z)) m) number (parts (beside z)))
      ≡ operands c s (taker_of z) (typings c s groups (place_below place z) number (parts z))
  operands_are place number z =
      ap (λ k. operands c s k (from_number counted
      (λ m e. e.1 (place_below place (beside z)) m) number (parts (beside z))))
      (mapped_taker (λ f. (f, form_of f)) both z)
      ∙ ap (operands c s (taker_of z)) (typings_are place number z)

  beside_is : (place : Place) (number : ℕ) (z : Form-F Form Expr)
      → typed_form c s (beside z) place number ≡ form_typing c s groups place number z
  beside_is place number z =
      then_same (typed_node c s place (number + total counted (parts (beside z))) (beside z))
      (typed_node c s place (number + total aggregate_count (parts z)) z)
      (λ xs. mapped_node c s place (number + total counted (parts (beside z)))
      (λ f. (f, form_of f)) both z xs
      ∙ ap (λ n. typed_node c s place (number + n) z xs) (total_is z))
      (operands c s (taker_of (beside z)) (from_number counted
      (λ m e. e.1 (place_below place (beside z)) m) number (parts (beside z))))
      ∙ ap (result_and_then (typed_node c s place (number + total aggregate_count (parts z)) z))
      (operands_are place number z)

  form_is : (f : Form) (place : Place) (number : ℕ)
      → form_of f place number ≡ form_typing c s groups place number (out-Form f)
  form_is f place number =
      ap (λ (g : Form). form_of g place number) (sym (roll-out-Form f))
      ∙ (ap (λ (h : Placed). h place number) (form_rolled (out-Form f))
      ∙ beside_is place number (out-Form f))

  pub typing_is : (e : Expr) (place : Place) (number : ℕ) → typing c s groups place number e
      ≡ form_typing c s groups (place_at groups place e) number (out-Form e.form)
  typing_is e place number =
      ap (typing c s groups place number) (sym (roll-out-Expr e))
      ∙ (expr_rolled e place number
      ∙ (ap (λ (d : Expr). form_of e.form (place_at groups place d) number) (roll-out-Expr e)
      ∙ form_is e.form (place_at groups place e) number))

-- How many aggregates a tree has

abbrev counts : {X : Type 0} → Form-F X ℕ → ℕ
counts z = form_count z (total (λ n. n) (parts z))

abbrev form_counts : Form → ℕ
form_counts f = fold-Form ℕ ℕ counts (λ e. e.form) f

abbrev over : Form-F Form Expr → Form-F ℕ ℕ
over z = map-Form Form Expr ℕ ℕ form_counts aggregate_count z

expr_counts : (e : Expr) → aggregate_count e ≡ form_counts e.form
unfolding aggregate_count
expr_counts e = fold_out-Expr ℕ ℕ counts (λ x. x.form) e

form_counted : (f : Form) → form_counts f ≡ counts (over (out-Form f))
unfolding aggregate_count
form_counted f = fold_out-Form ℕ ℕ counts (λ x. x.form) f

pub count_is : (e : Expr) → aggregate_count e
    ≡ form_count (out-Form e.form) (total aggregate_count (parts (out-Form e.form)))
count_is e =
    let z = out-Form e.form in
    expr_counts e ∙ (form_counted e.form
    ∙ (ap (λ b. cond b 0 (cond (is_aggregate_form (over z)) (total (λ n. n) (parts (over z)) + 1)
    (total (λ n. n) (parts (over z))))) (mapped_constant form_counts aggregate_count z)
    ∙ (ap (λ b. cond (is_constant z) 0 (cond b (total (λ n. n) (parts (over z)) + 1)
    (total (λ n. n) (parts (over z))))) (mapped_aggregate form_counts aggregate_count z)
    ∙ ap (form_count z) (ap (total (λ n. n)) (mapped_parts form_counts aggregate_count z)
    ∙ total_mapped (λ n. n) aggregate_count (parts z)))))

-- Induction over trees

module _ (P : Expr → Type 0)
    (step : (e : Expr) → AllByRecursion P (parts (out-Form e.form)) → P e) where
  abbrev InForm : Form → Type 0
  InForm f = AllByRecursion P (parts (out-Form f))

  abbrev FormHeld : Type 0
  FormHeld = (f : Form) × InForm f

  abbrev ExprHeld : Type 0
  ExprHeld = (e : Expr) × P e

  each : (es : List ExprHeld) → AllByRecursion P (map (λ e. e.0) es)
  each [] = tt
  each (e ∷ es) = (e.1, each es)

  form_step : (z : Form-F Form Expr) (y : Form-F FormHeld ExprHeld)
      → map-Form FormHeld ExprHeld Form Expr (λ e. e.0) (λ e. e.0) y ≡ z → InForm (roll-Form z)
  form_step z y is =
      let whole : parts (out-Form (roll-Form z)) ≡ map (λ e. e.0) (parts y) =
      ap (λ (m : Form-F Form Expr). parts m) (out-roll-Form z ∙ sym is)
      ∙ mapped_parts {X = FormHeld} {A = ExprHeld} {Y = Form} {B = Expr} (λ e. e.0) (λ e. e.0) y in
      subst (AllByRecursion P) (sym whole) (each (parts y))

  expr_step : (x : Expr-F Form Expr) (y : Expr-F FormHeld ExprHeld)
      → map-Expr FormHeld ExprHeld Form Expr (λ e. e.0) (λ e. e.0) y ≡ x → P (roll-Expr x)
  expr_step x y is = step (roll-Expr x)
      (subst (λ (w : Expr-F Form Expr). InForm w.form) is y.form.1)

  pub expr_induction : (e : Expr) → P e
  expr_induction e = ind-Expr InForm P form_step expr_step e
