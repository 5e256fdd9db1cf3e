-- Two trees are alike exactly where they are one without their spans.
use Rattle.std.proofs.Common.{◌≡◌, true, List, [], ◌∷◌, Some, None}
use Rattle.std.proofs.Common.{map, refl, sym, ap, ◌∙◌, subst}
use Rattle.std.specs.Prelude.{◌↔◌}
use Rattle.std.specs.List.{AllByRecursion}
use Rattle.std.specs.Bool.{beq}
use Rattle.std.specs.Option.{option_eq}
use Rattle.std.specs.Str.{bytes_eq}
use Rattle.std.proofs.lemmas.Bool.{and_from, and_parts, false≢true}
use Rattle.std.proofs.lemmas.Bool.Decides.{Decides-int_eq}
use Rattle.mc_ast.specs.Alike.{AreAlike, nowhere, spanless}
use Rattle.mc_ast.specs.declared.expr.Expr.{Expr, Expr-F, fold_out-Expr, ind-Expr, map-Expr}
use Rattle.mc_ast.specs.declared.expr.Expr.{roll-Expr}
use Rattle.mc_ast.specs.declared.expr.Form.{Form, Form-F, fold-Form, fold_out-Form, map-Form}
use Rattle.mc_ast.specs.declared.expr.Form.{out-Form, out-roll-Form, roll-Form}
use Rattle.mc_typing.specs.Forms.{parts}
use Rattle.mc_typing.specs.Likeness.{alike, in_order, same_head}
use Rattle.mc_typing.proofs.Likenesses.{alike_is}
use Rattle.mc_typing.proofs.SameHeads.{arith_same, cmp_same, cut_same, flag_same, head_is}
use Rattle.mc_typing.proofs.SameHeads.{option_same, side_same, text_same}

-- A form's layer, its operands without spans.
abbrev bare_form : Form → Form
bare_form form = fold-Form Form Expr roll-Form (λ e. record { span = nowhere; form = e.form }) form

abbrev bare : Form-F Form Expr → Form-F Form Expr
bare x = map-Form Form Expr Form Expr bare_form spanless x

expr_bare : (e : Expr) → spanless e ≡ record { span = nowhere; form = bare_form e.form }
unfolding spanless
expr_bare e = fold_out-Expr Form Expr roll-Form (λ x. record { span = nowhere; form = x.form }) e

form_bare : (form : Form) → bare_form form ≡ roll-Form (bare (out-Form form))
unfolding spanless
form_bare form =
    fold_out-Form Form Expr roll-Form (λ x. record { span = nowhere; form = x.form }) form

bare_out : (e : Expr) → out-Form (spanless e).form ≡ bare (out-Form e.form)
bare_out e = ap (λ (x : Expr). out-Form x.form) (expr_bare e)
    ∙ ap out-Form (form_bare e.form) ∙ out-roll-Form (bare (out-Form e.form))

bare_back : (a b : Expr) → bare (out-Form a.form) ≡ bare (out-Form b.form)
    → spanless a ≡ spanless b
bare_back a b h = expr_bare a
    ∙ ap (λ (f : Form). record { span = nowhere; form = f })
    (form_bare a.form ∙ ap roll-Form h ∙ sym (form_bare b.form))
    ∙ sym (expr_bare b)

head_bare : (x y : Form-F Form Expr) → same_head (bare x) y ≡ same_head x y
head_bare (Form-F.Or es) y = refl
head_bare _ y = refl

-- The operands of a form whose operands are replaced.
mapped_parts : {X A Y B : Type 0} (f : X → Y) (g : A → B) (l : Form-F X A)
    → parts (map-Form X A Y B f g l) ≡ map g (parts l)
mapped_parts f g (Form-F.Trim side None t) = refl
mapped_parts f g (Form-F.Trim side (Some u) t) = refl
mapped_parts f g (Form-F.SubstringFrom t u None) = refl
mapped_parts f g (Form-F.SubstringFrom t u (Some v)) = refl
mapped_parts f g l = refl

abbrev Bare : Form-F Form Expr → List Expr
Bare x = map spanless (parts x)

layer_same : (x y : Form-F Form Expr) → same_head x y ≡ true → Bare x ≡ Bare y → bare x ≡ bare y
layer_same (Form-F.Or es) (Form-F.Or fs) h p = ap Form-F.Or p
layer_same (Form-F.And es) (Form-F.And fs) h p = ap Form-F.And p
layer_same (Form-F.Xor l r) (Form-F.Xor m s) h p = cc
layer_same (Form-F.Not t) (Form-F.Not u) h p = cc
layer_same (Form-F.Compare op l r) (Form-F.Compare other m s) h p =
    let e = cmp_same op other h in cc
layer_same (Form-F.IsNull t negated) (Form-F.IsNull u other) h p =
    let e = flag_same negated other h in cc
layer_same (Form-F.Like l r escape negated) (Form-F.Like m s given other) h p =
    let both = and_parts (option_eq bytes_eq escape given) (beq negated other) h in
    let e = option_same escape given both.0 in
    let f = flag_same negated other both.1 in cc
layer_same (Form-F.In t ts negated) (Form-F.In u us other) h p =
    let e = flag_same negated other h in cc
layer_same (Form-F.Between t v w negated) (Form-F.Between u y z other) h p =
    let e = flag_same negated other h in cc
layer_same (Form-F.Arith op l r) (Form-F.Arith other m s) h p =
    let e = arith_same op other h in cc
layer_same (Form-F.Neg t) (Form-F.Neg u) h p = cc
layer_same (Form-F.Collate t name) (Form-F.Collate u other) h p =
    let e = text_same name other h in cc
layer_same (Form-F.Int n) (Form-F.Int m) h p = ap Form-F.Int ((Decides-int_eq n m).0 h)
layer_same Form-F.True Form-F.True h p = refl
layer_same Form-F.False Form-F.False h p = refl
layer_same Form-F.Null Form-F.Null h p = refl
layer_same (Form-F.Str text) (Form-F.Str other) h p = ap Form-F.Str (text_same text other h)
layer_same (Form-F.National text) (Form-F.National other) h p =
    ap Form-F.National (text_same text other h)
layer_same (Form-F.Hex text) (Form-F.Hex other) h p = ap Form-F.Hex (text_same text other h)
layer_same (Form-F.IntroStr set text) (Form-F.IntroStr given other) h p =
    let both = and_parts (bytes_eq set given) (bytes_eq text other) h in
    let e = text_same set given both.0 in
    let f = text_same text other both.1 in cc
layer_same (Form-F.IntroHex set text) (Form-F.IntroHex given other) h p =
    let both = and_parts (bytes_eq set given) (bytes_eq text other) h in
    let e = text_same set given both.0 in
    let f = text_same text other both.1 in cc
layer_same (Form-F.Name name) (Form-F.Name other) h p = ap Form-F.Name (text_same name other h)
layer_same (Form-F.Qualified table name) (Form-F.Qualified given other) h p =
    let both = and_parts (bytes_eq table given) (bytes_eq name other) h in
    let e = text_same table given both.0 in
    let f = text_same name other both.1 in cc
layer_same (Form-F.Convert t set) (Form-F.Convert u other) h p =
    let e = text_same set other h in cc
layer_same (Form-F.CastChar t set) (Form-F.CastChar u other) h p =
    let e = option_same set other h in cc
layer_same (Form-F.CastBinary t) (Form-F.CastBinary u) h p = cc
layer_same Form-F.CountAll Form-F.CountAll h p = refl
layer_same (Form-F.CountDistinct t) (Form-F.CountDistinct u) h p = cc
layer_same (Form-F.Trim side None t) (Form-F.Trim other None u) h p =
    let e = side_same side other h in cc
layer_same (Form-F.Trim side (Some v) t) (Form-F.Trim other (Some w) u) h p =
    let e = side_same side other h in cc
layer_same (Form-F.Trim side None t) (Form-F.Trim other (Some w) u) h p = absurd (cc)
layer_same (Form-F.Trim side (Some v) t) (Form-F.Trim other None u) h p = absurd (cc)
layer_same (Form-F.SubstringFrom t v None) (Form-F.SubstringFrom u w None) h p = cc
layer_same (Form-F.SubstringFrom t v (Some y)) (Form-F.SubstringFrom u w (Some z)) h p = cc
layer_same (Form-F.SubstringFrom t v None) (Form-F.SubstringFrom u w (Some z)) h p = absurd (cc)
layer_same (Form-F.SubstringFrom t v (Some y)) (Form-F.SubstringFrom u w None) h p = absurd (cc)
layer_same (Form-F.WeightString t cut) (Form-F.WeightString u other) h p =
    let e = cut_same cut other h in cc
layer_same (Form-F.Call name ts) (Form-F.Call other us) h p =
    let e = text_same name other h in cc
layer_same _ _ h p = absurd (false≢true h)

-- Likeness to this tree is told by spans alone.
abbrev Told : Expr → Type 0
Told a = (b : Expr) → (alike a b ≡ true) ↔ AreAlike a b

order_same : (xs ys : List Expr) → AllByRecursion Told xs → in_order alike xs ys ≡ true
    → map spanless xs ≡ map spanless ys
order_same [] [] t h = refl
order_same [] (y ∷ ys) t h = absurd (false≢true h)
order_same (x ∷ xs) [] t h = absurd (false≢true h)
order_same (x ∷ xs) (y ∷ ys) t h =
    let both = and_parts (alike x y) (in_order alike xs ys) h in
    let e = (t.0 y).0 both.0 in
    let f = order_same xs ys t.1 both.1 in cc

order_is : (xs ys : List Expr) → AllByRecursion Told xs → map spanless xs ≡ map spanless ys
    → in_order alike xs ys ≡ true
order_is [] [] t h = refl
order_is [] (y ∷ ys) t h = absurd (cc)
order_is (x ∷ xs) [] t h = absurd (cc)
order_is (x ∷ xs) (y ∷ ys) t h =
    let e : spanless x ≡ spanless y = cc in
    let f : map spanless xs ≡ map spanless ys = cc in
    and_from (alike x y) (in_order alike xs ys) ((t.0 y).1 e) (order_is xs ys t.1 f)

-- Where it is so told of the operands, it is of the tree.
told : (a : Expr) → AllByRecursion Told (parts (out-Form a.form)) → Told a
told a t b =
    let x = out-Form a.form in
    let y = out-Form b.form in (
      λ h.
          let both =
          and_parts (same_head x y) (in_order alike (parts x) (parts y)) (sym (alike_is a b) ∙ h) in
          bare_back a b (layer_same x y both.0 (order_same (parts x) (parts y) t both.1)),
      λ h.
          let one : bare x ≡ bare y =
          sym (bare_out a) ∙ ap (λ (e : Expr). out-Form e.form) h ∙ bare_out b in
          let head : same_head x y ≡ true =
          sym (head_bare x y) ∙ ap (λ z. same_head z y) one ∙ head_bare y y ∙ head_is y in
          let rest : map spanless (parts x) ≡ map spanless (parts y) =
          sym (mapped_parts bare_form spanless x) ∙ ap (λ (z : Form-F Form Expr). parts z) one
          ∙ mapped_parts bare_form spanless y in
          alike_is a b ∙ and_from (same_head x y) (in_order alike (parts x) (parts y)) head
          (order_is (parts x) (parts y) t rest),
    )

abbrev HoldsIn : Form → Type 0
HoldsIn form = AllByRecursion Told (parts (out-Form form))

abbrev FormHeld : Type 0
FormHeld = (form : Form) × HoldsIn form

abbrev ExprHeld : Type 0
ExprHeld = (e : Expr) × Told e

each : (ys : List ExprHeld) → AllByRecursion Told (map (λ y. y.0) ys)
each [] = tt
each (y ∷ ys) = (y.1, each ys)

form_step : (l : Form-F Form Expr) (y : Form-F FormHeld ExprHeld)
    → map-Form FormHeld ExprHeld Form Expr (λ e. e.0) (λ e. e.0) y ≡ l → HoldsIn (roll-Form l)
form_step l y is =
    let whole : parts (out-Form (roll-Form l)) ≡ map (λ e. e.0) (parts y) =
    ap (λ (m : Form-F Form Expr). parts m) (out-roll-Form l ∙ sym is)
    ∙ mapped_parts {X = FormHeld} {A = ExprHeld} {Y = Form} {B = Expr} (λ e. e.0) (λ e. e.0) y in
    subst (AllByRecursion Told) (sym whole) (each (parts y))

expr_step : (x : Expr-F Form Expr) (y : Expr-F FormHeld ExprHeld)
    → map-Expr FormHeld ExprHeld Form Expr (λ e. e.0) (λ e. e.0) y ≡ x → Told (roll-Expr x)
expr_step x y is =
    told (roll-Expr x) (subst (λ (z : Expr-F Form Expr). HoldsIn z.form) is y.form.1)

-- Two trees are alike exactly where they are one without their spans.
pub alike_told : (a : Expr) → Told a
alike_told a = ind-Expr HoldsIn Told form_step expr_step a
