-- An aggregate stands in a tree where its form is one, or where one stands in an operand.
use Rattle.std.proofs.Common.{◌≡◌, Bool, true, false, ◌||◌, List, [], ◌∷◌, Some, None, map, refl}
use Rattle.std.proofs.Common.{sym, ap, ◌∙◌}
use Rattle.std.specs.List.{list_any}
use Rattle.mc_ast.specs.declared.expr.Expr.{Expr, fold_out-Expr}
use Rattle.mc_ast.specs.declared.expr.Form.{Form, Form-F, fold-Form, fold_out-Form, map-Form}
use Rattle.mc_ast.specs.declared.expr.Form.{out-Form}
use Rattle.mc_typing.specs.Aggregates.{is_aggregate_form}
use Rattle.mc_typing.specs.Forms.{parts}
use Rattle.mc_typing.specs.Statements.{either, has_aggregate}

-- An aggregate stands in a form.
abbrev form_has : Form → Bool
form_has form = fold-Form Bool Bool (λ x. either (is_aggregate_form x) (parts x)) (λ e. e.form) form

expr_is : (e : Expr) → has_aggregate e ≡ form_has e.form
unfolding has_aggregate
expr_is e = fold_out-Expr Bool Bool (λ x. either (is_aggregate_form x) (parts x)) (λ x. x.form) e

-- A form's layer, with whether an aggregate stands in each operand.
abbrev over : Form-F Form Expr → Form-F Bool Bool
over x = map-Form Form Expr Bool Bool form_has has_aggregate x

form_is : (form : Form) → form_has form ≡ either (is_aggregate_form (over (out-Form form))) (parts (over (out-Form form)))
unfolding has_aggregate
form_is form = fold_out-Form Bool Bool (λ x. either (is_aggregate_form x) (parts x)) (λ x. x.form) form

aggregates_over : (x : Form-F Form Expr) → is_aggregate_form (over x) ≡ is_aggregate_form x
aggregates_over (Form-F.Or es) = refl
aggregates_over _ = refl

parts_over : (x : Form-F Form Expr) → parts (over x) ≡ map has_aggregate (parts x)
parts_over (Form-F.Trim side None x) = refl
parts_over (Form-F.Trim side (Some y) x) = refl
parts_over (Form-F.SubstringFrom x y None) = refl
parts_over (Form-F.SubstringFrom x y (Some z)) = refl
parts_over _ = refl

any_mapped : {A : Type 0} (f : A → Bool) (xs : List A) → list_any (λ b. b) (map f xs) ≡ list_any f xs
any_mapped f [] = refl
any_mapped f (x ∷ xs) = ap (λ b. f x || b) (any_mapped f xs)

either_is : (b : Bool) (tests : List Bool) → either b tests ≡ (b || list_any (λ b. b) tests)
either_is true tests = refl
either_is false tests = refl

-- The form is an aggregate, or an operand has one.
pub has_aggregate_is : (e : Expr)
    → has_aggregate e ≡ (is_aggregate_form (out-Form e.form) || list_any has_aggregate (parts (out-Form e.form)))
has_aggregate_is e =
    let x = out-Form e.form in
    expr_is e ∙ form_is e.form ∙ either_is (is_aggregate_form (over x)) (parts (over x))
    ∙ ap (λ b. b || list_any (λ b. b) (parts (over x))) (aggregates_over x)
    ∙ ap (λ bs. is_aggregate_form x || list_any (λ b. b) bs) (parts_over x)
    ∙ ap (λ b. is_aggregate_form x || b) (any_mapped has_aggregate (parts x))

-- An `or` whose first side is true, and one whose first side is false.
pub or_then : (r a b : Bool) → r ≡ a → r ≡ true → r ≡ (a || b)
or_then r a b e h = h ∙ sym (ap (λ x. x || b) (sym e ∙ h))

pub or_else : (r a q b : Bool) → r ≡ a → r ≡ false → q ≡ b → q ≡ (a || b)
or_else r a q b e h f = f ∙ sym (ap (λ x. x || b) (sym e ∙ h))
