-- Two trees are alike where their forms have one head, and operands that are alike.
use Rattle.std.proofs.Common.{◌≡◌, Bool, true, false, ◌&&◌, List, [], ◌∷◌, Some, None}
use Rattle.std.proofs.Common.{map, refl, sym, ap, ◌∙◌}
use Rattle.mc_ast.specs.declared.expr.Expr.{Expr, fold_out-Expr}
use Rattle.mc_ast.specs.declared.expr.Form.{Form, Form-F, fold-Form, fold_out-Form, map-Form}
use Rattle.mc_ast.specs.declared.expr.Form.{out-Form}
use Rattle.mc_typing.specs.Forms.{parts}
use Rattle.mc_typing.specs.Likeness.{alike, in_order, like_form, same_head}

abbrev Test : Type 0
Test = Expr → Bool

abbrev FormTest : Type 0
FormTest = Form → Bool

-- Two forms are alike.
abbrev form_alike : Form → Form → Bool
form_alike form = fold-Form FormTest Test like_form (λ e other. e.form other.form) form

expr_is : (a b : Expr) → alike a b ≡ form_alike a.form b.form
unfolding alike
expr_is a b = ap (λ (f : Test). f b)
    (fold_out-Expr FormTest Test like_form (λ e other. e.form other.form) a)

-- A form's layer, with the test of each operand in its place.
abbrev over : Form-F Form Expr → Form-F FormTest Test
over x = map-Form Form Expr FormTest Test form_alike alike x

form_is : (a b : Form) → form_alike a b ≡ like_form (over (out-Form a)) b
unfolding alike
form_is a b = ap (λ (f : FormTest). f b)
    (fold_out-Form FormTest Test like_form (λ e other. e.form other.form) a)

head_over : (x y : Form-F Form Expr) → same_head (over x) y ≡ same_head x y
head_over (Form-F.Or es) y = refl
head_over _ y = refl

parts_over : (x : Form-F Form Expr) → parts (over x) ≡ map alike (parts x)
parts_over (Form-F.Trim side None x) = refl
parts_over (Form-F.Trim side (Some y) x) = refl
parts_over (Form-F.SubstringFrom x y None) = refl
parts_over (Form-F.SubstringFrom x y (Some z)) = refl
parts_over _ = refl

tests_in_order : (xs ys : List Expr)
    → in_order (λ (test : Test) e. test e) (map alike xs) ys ≡ in_order alike xs ys
tests_in_order [] [] = refl
tests_in_order [] (y ∷ ys) = refl
tests_in_order (x ∷ xs) [] = refl
tests_in_order (x ∷ xs) (y ∷ ys) = ap (λ b. alike x y && b) (tests_in_order xs ys)

-- The forms have one head, and the operands are alike.
pub alike_is : (a b : Expr) → alike a b ≡ (same_head (out-Form a.form) (out-Form b.form)
    && in_order alike (parts (out-Form a.form)) (parts (out-Form b.form)))
alike_is a b =
    let x = out-Form a.form in
    let y = out-Form b.form in
    expr_is a b ∙ form_is a.form b.form
    ∙ ap (λ h. h && in_order (λ (test : Test) e. test e) (parts (over x)) (parts y)) (head_over x y)
    ∙ ap (λ ts. same_head x y && in_order (λ (test : Test) e. test e) ts (parts y)) (parts_over x)
    ∙ ap (λ b. same_head x y && b) (tests_in_order (parts x) (parts y))

-- An `and` whose first side is true, and one whose first side is false.
pub and_then : (r a q b : Bool) → r ≡ a → r ≡ true → q ≡ b → q ≡ (a && b)
and_then r a q b e h f = f ∙ sym (ap (λ x. x && b) (sym e ∙ h))

pub and_else : (r a b : Bool) → r ≡ a → r ≡ false → r ≡ (a && b)
and_else r a b e h = h ∙ sym (ap (λ x. x && b) (sym e ∙ h))
