-- Expressions that differ in spans alone, and those of GROUP BY: MySQL 8.0 manual, 12.19.3.
use Rattle.std.specs.Prelude.{◌&&◌, ℕ, Bool, true, false, List, [], ◌∷◌}
use Rattle.std.specs.Bool.{beq}
use Rattle.std.specs.List.{list_any}
use Rattle.std.specs.Option.{option_eq}
use Rattle.std.specs.Ordering.{int_eq}
use Rattle.std.specs.Str.{bytes_eq}
use Rattle.mc_ast.specs.declared.expr.Expr.{Expr, fold-Expr}
use Rattle.mc_ast.specs.declared.expr.Form.{Form, Form-F, out-Form}
use Rattle.mc_ast.specs.declared.expr.Form.TheVariants as form
use Rattle.mc_ast.specs.declared.operators.Cut.{Cut}
use Rattle.mc_ast.specs.declared.operators.Cut.TheVariants.{Chars, Bytes}
use Rattle.mc_ast.specs.declared.operators.TrimSide.{TrimSide}
use Rattle.mc_ast.specs.declared.operators.TrimSide.TheVariants.{Both, Leading, Trailing}
use Rattle.mc_typing.specs.Forms.{parts}
use Rattle.mc_typing.specs.Names.{arith_name, cmp_name}

-- The sides of TRIM are the same.
abbrev pub same_side : TrimSide → TrimSide → Bool
same_side Both Both = true
same_side Leading Leading = true
same_side Trailing Trailing = true
same_side side other = false

-- The cuts of WEIGHT_STRING are the same.
abbrev pub same_cut : Cut → Cut → Bool
same_cut (Chars n) (Chars m) = int_eq n m
same_cut (Bytes n) (Bytes m) = int_eq n m
same_cut cut other = false

-- The forms are of one kind and have the same data, operands aside.
abbrev pub same_head : {X A Y B : Type 0} → Form-F X A → Form-F Y B → Bool
same_head (Form-F.Or ts) (Form-F.Or us) = true
same_head (Form-F.And ts) (Form-F.And us) = true
same_head (Form-F.Xor l r) (Form-F.Xor m s) = true
same_head (Form-F.Not t) (Form-F.Not u) = true
same_head (Form-F.Compare op l r) (Form-F.Compare other m s) =
    bytes_eq (cmp_name op) (cmp_name other)
same_head (Form-F.IsNull t negated) (Form-F.IsNull u other) = beq negated other
same_head (Form-F.Like l r escape negated) (Form-F.Like m s given other) =
    option_eq bytes_eq escape given && beq negated other
same_head (Form-F.In t ts negated) (Form-F.In u us other) = beq negated other
same_head (Form-F.Between t l h negated) (Form-F.Between u m i other) = beq negated other
same_head (Form-F.Arith op l r) (Form-F.Arith other m s) =
    bytes_eq (arith_name op) (arith_name other)
same_head (Form-F.Neg t) (Form-F.Neg u) = true
same_head (Form-F.Collate t name) (Form-F.Collate u other) = bytes_eq name other
same_head (Form-F.Int n) (Form-F.Int m) = int_eq n m
same_head Form-F.True Form-F.True = true
same_head Form-F.False Form-F.False = true
same_head Form-F.Null Form-F.Null = true
same_head (Form-F.Str text) (Form-F.Str other) = bytes_eq text other
same_head (Form-F.National text) (Form-F.National other) = bytes_eq text other
same_head (Form-F.Hex text) (Form-F.Hex other) = bytes_eq text other
same_head (Form-F.IntroStr set text) (Form-F.IntroStr given other) =
    bytes_eq set given && bytes_eq text other
same_head (Form-F.IntroHex set text) (Form-F.IntroHex given other) =
    bytes_eq set given && bytes_eq text other
same_head (Form-F.Name name) (Form-F.Name other) = bytes_eq name other
same_head (Form-F.Qualified table name) (Form-F.Qualified given other) =
    bytes_eq table given && bytes_eq name other
same_head (Form-F.Convert t set) (Form-F.Convert u other) = bytes_eq set other
same_head (Form-F.CastChar t set) (Form-F.CastChar u other) = option_eq bytes_eq set other
same_head (Form-F.CastBinary t) (Form-F.CastBinary u) = true
same_head Form-F.CountAll Form-F.CountAll = true
same_head (Form-F.CountDistinct t) (Form-F.CountDistinct u) = true
same_head (Form-F.Trim side removed t) (Form-F.Trim other given u) = same_side side other
same_head (Form-F.SubstringFrom t start len) (Form-F.SubstringFrom u begin given) = true
same_head (Form-F.WeightString t cut) (Form-F.WeightString u other) = option_eq same_cut cut other
same_head (Form-F.Call name ts) (Form-F.Call other us) = bytes_eq name other
same_head form other = false

-- The members of two lists have this to each other, place by place, and the lists are as long.
abbrev pub in_order : {A B : Type 0} → (A → B → Bool) → List A → List B → Bool
in_order test [] [] = true
in_order test (x ∷ xs) (y ∷ ys) = test x y && in_order test xs ys
in_order test xs ys = false

-- A form has this head, and operands as these tests ask for.
abbrev pub like_form : Form-F (Form → Bool) (Expr → Bool) → Form → Bool
like_form x form = same_head x (out-Form form)
    && in_order (λ test e. test e) (parts x) (parts (out-Form form))

-- The expressions are alike: of one kind, with the same data, and with operands that are alike.
-- Their spans may differ.
unfoldable pub alike : Expr → Expr → Bool
alike expr = fold-Expr (Form → Bool) (Expr → Bool) like_form (λ e other. e.form other.form) expr

-- One of the expressions of GROUP BY is like this one.
abbrev pub is_key : List Expr → Expr → Bool
is_key groups e = list_any (λ group. alike group e) groups

-- The form is this name alone.
abbrev pub is_name : List ℕ → Form → Bool
is_name name (form.Name own) = bytes_eq name own
is_name name other = false

-- One of the expressions of GROUP BY is this name alone.
abbrev pub has_name : List Expr → List ℕ → Bool
has_name groups name = list_any (λ group. is_name name group.form) groups
