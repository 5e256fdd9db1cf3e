-- Expressions whose parts are UTF-8 are UTF-8.
use Rattle.std.proofs.Common.{ℕ, zero, suc, ℤ, Bool, List, [], ◌∷◌, Option, Some, None, IsTrue, sym, subst}
use Rattle.std.specs.List.{AllByRecursion}
use Rattle.std.specs.Str.{IsUtf8}
use Rattle.mc_token.specs.TokenLaws.{HasUtf8Text}
use Rattle.mc_token.specs.declared.lexeme.Lexeme.{Lexeme}
use Rattle.mc_token.specs.declared.lexeme.Lexeme.TheVariants as lexeme
use Rattle.mc_sql.specs.Classes.{is_lexeme_of, str, national}
use Rattle.mc_ast.specs.declared.expr.Expr.{Expr}
use Rattle.mc_ast.specs.declared.expr.Form.{Form}
use Rattle.mc_ast.specs.declared.expr.Form.TheVariants as form
use Rattle.mc_ast.specs.declared.operators.ArithOp.{ArithOp}
use Rattle.mc_ast.specs.declared.operators.CmpOp.{CmpOp}
use Rattle.mc_ast.specs.declared.operators.Cut.{Cut}
use Rattle.mc_ast.specs.declared.operators.TrimSide.{TrimSide}
use Rattle.mc_ast.specs.Grouping.{whole, grouped, grouped_xor, under}
use Rattle.mc_ast.specs.Spans.{from_to}
use Rattle.mc_ast.specs.Texts.{Layer, HasUtf8Layer, HasUtf8To, HasUtf8}
use Rattle.mc_ast.specs.Values.{Operand, Operation, Collation, exprs, lexeme_text}

-- An expression of this form is.
abbrev IsForm : Form → Type 0
IsForm f = (depth : ℕ) → HasUtf8To depth f

-- Operands are.
abbrev pub AreUtf8 : List Operand → Type 0
AreUtf8 xs = AllByRecursion (λ x. HasUtf8 x.expr) xs

abbrev pub AreUtf8Operations : List Operation → Type 0
AreUtf8Operations os = AllByRecursion (λ o. HasUtf8 o.right.expr) os

-- The text of a string's token is.
pub str_text : (kind : Lexeme) → IsTrue (is_lexeme_of str kind) → HasUtf8Text kind → IsUtf8 (lexeme_text kind)
str_text (lexeme.Str text) k h = h
str_text (lexeme.Word text) k h = cc
str_text (lexeme.Name text) k h = cc
str_text (lexeme.Int n) k h = cc
str_text (lexeme.National text) k h = cc
str_text (lexeme.Hex text) k h = cc
str_text (lexeme.Sym symbol) k h = cc

pub national_text : (kind : Lexeme) → IsTrue (is_lexeme_of national kind) → HasUtf8Text kind → IsUtf8 (lexeme_text kind)
national_text (lexeme.National text) k h = h
national_text (lexeme.Word text) k h = cc
national_text (lexeme.Name text) k h = cc
national_text (lexeme.Int n) k h = cc
national_text (lexeme.Str text) k h = cc
national_text (lexeme.Hex text) k h = cc
national_text (lexeme.Sym symbol) k h = cc

pub all_exprs : (xs : List Operand) → AreUtf8 xs → AllByRecursion HasUtf8 (exprs xs)
all_exprs [] h = tt
all_exprs (x ∷ xs) h = (h.0, all_exprs xs h.1)

exprs_to : (depth : ℕ) (xs : List Operand) → AreUtf8 xs → AllByRecursion (λ e. HasUtf8To depth e.form) (exprs xs)
exprs_to depth [] h = tt
exprs_to depth (x ∷ xs) h = (h.0 depth, exprs_to depth xs h.1)

pub or_utf8 : (xs : List Operand) → AreUtf8 xs → IsForm (form.Or (exprs xs))
or_utf8 xs h0 zero = tt
or_utf8 xs h0 (suc d) =
    subst (λ (z : Layer). HasUtf8Layer (HasUtf8To d) z) (sym (form.outs-Or (exprs xs))) (exprs_to d xs h0)

pub and_utf8 : (xs : List Operand) → AreUtf8 xs → IsForm (form.And (exprs xs))
and_utf8 xs h0 zero = tt
and_utf8 xs h0 (suc d) =
    subst (λ (z : Layer). HasUtf8Layer (HasUtf8To d) z) (sym (form.outs-And (exprs xs))) (exprs_to d xs h0)

pub xor_utf8 : (a : Expr) (b : Expr) → HasUtf8 a → HasUtf8 b → IsForm (form.Xor a b)
xor_utf8 a b h0 h1 zero = tt
xor_utf8 a b h0 h1 (suc d) =
    subst (λ (z : Layer). HasUtf8Layer (HasUtf8To d) z) (sym (form.outs-Xor a b)) (h0 d, h1 d)

pub not_utf8 : (a : Expr) → HasUtf8 a → IsForm (form.Not a)
not_utf8 a h0 zero = tt
not_utf8 a h0 (suc d) =
    subst (λ (z : Layer). HasUtf8Layer (HasUtf8To d) z) (sym (form.outs-Not a)) (h0 d)

pub compare_utf8 : (op : CmpOp) (a : Expr) (b : Expr) → HasUtf8 a → HasUtf8 b → IsForm (form.Compare op a b)
compare_utf8 op a b h0 h1 zero = tt
compare_utf8 op a b h0 h1 (suc d) =
    subst (λ (z : Layer). HasUtf8Layer (HasUtf8To d) z) (sym (form.outs-Compare op a b)) (h0 d, h1 d)

pub null_utf8 : (a : Expr) (n : Bool) → HasUtf8 a → IsForm (form.IsNull a n)
null_utf8 a n h0 zero = tt
null_utf8 a n h0 (suc d) =
    subst (λ (z : Layer). HasUtf8Layer (HasUtf8To d) z) (sym (form.outs-IsNull a n)) (h0 d)

pub like_utf8 : (a : Expr) (b : Expr) (e : Option (List ℕ)) (n : Bool) → HasUtf8 a → HasUtf8 b → IsForm (form.Like a b e n)
like_utf8 a b e n h0 h1 zero = tt
like_utf8 a b e n h0 h1 (suc d) =
    subst (λ (z : Layer). HasUtf8Layer (HasUtf8To d) z) (sym (form.outs-Like a b e n)) (h0 d, h1 d)

pub in_utf8 : (a : Expr) (xs : List Operand) (n : Bool) → HasUtf8 a → AreUtf8 xs → IsForm (form.In a (exprs xs) n)
in_utf8 a xs n h0 h1 zero = tt
in_utf8 a xs n h0 h1 (suc d) =
    subst (λ (z : Layer). HasUtf8Layer (HasUtf8To d) z) (sym (form.outs-In a (exprs xs) n)) (h0 d, exprs_to d xs h1)

pub between_utf8 : (a : Expr) (b : Expr) (c : Expr) (n : Bool) → HasUtf8 a → HasUtf8 b → HasUtf8 c → IsForm (form.Between a b c n)
between_utf8 a b c n h0 h1 h2 zero = tt
between_utf8 a b c n h0 h1 h2 (suc d) =
    subst (λ (z : Layer). HasUtf8Layer (HasUtf8To d) z) (sym (form.outs-Between a b c n)) (h0 d, h1 d, h2 d)

pub arith_utf8 : (op : ArithOp) (a : Expr) (b : Expr) → HasUtf8 a → HasUtf8 b → IsForm (form.Arith op a b)
arith_utf8 op a b h0 h1 zero = tt
arith_utf8 op a b h0 h1 (suc d) =
    subst (λ (z : Layer). HasUtf8Layer (HasUtf8To d) z) (sym (form.outs-Arith op a b)) (h0 d, h1 d)

pub neg_utf8 : (a : Expr) → HasUtf8 a → IsForm (form.Neg a)
neg_utf8 a h0 zero = tt
neg_utf8 a h0 (suc d) =
    subst (λ (z : Layer). HasUtf8Layer (HasUtf8To d) z) (sym (form.outs-Neg a)) (h0 d)

pub collate_utf8 : (a : Expr) (name : List ℕ) → HasUtf8 a → IsForm (form.Collate a name)
collate_utf8 a name h0 zero = tt
collate_utf8 a name h0 (suc d) =
    subst (λ (z : Layer). HasUtf8Layer (HasUtf8To d) z) (sym (form.outs-Collate a name)) (h0 d)

pub int_utf8 : (n : ℤ) → IsForm (form.Int n)
int_utf8 n zero = tt
int_utf8 n (suc d) =
    subst (λ (z : Layer). HasUtf8Layer (HasUtf8To d) z) (sym (form.outs-Int n)) tt

pub true_utf8 : IsForm (form.True)
true_utf8 zero = tt
true_utf8 (suc d) =
    subst (λ (z : Layer). HasUtf8Layer (HasUtf8To d) z) (sym form.outs-True) tt

pub false_utf8 : IsForm (form.False)
false_utf8 zero = tt
false_utf8 (suc d) =
    subst (λ (z : Layer). HasUtf8Layer (HasUtf8To d) z) (sym form.outs-False) tt

pub null_word_utf8 : IsForm (form.Null)
null_word_utf8 zero = tt
null_word_utf8 (suc d) =
    subst (λ (z : Layer). HasUtf8Layer (HasUtf8To d) z) (sym form.outs-Null) tt

pub name_utf8 : (name : List ℕ) → IsForm (form.Name name)
name_utf8 name zero = tt
name_utf8 name (suc d) =
    subst (λ (z : Layer). HasUtf8Layer (HasUtf8To d) z) (sym (form.outs-Name name)) tt

pub qualified_utf8 : (table : List ℕ) (name : List ℕ) → IsForm (form.Qualified table name)
qualified_utf8 table name zero = tt
qualified_utf8 table name (suc d) =
    subst (λ (z : Layer). HasUtf8Layer (HasUtf8To d) z) (sym (form.outs-Qualified table name)) tt

pub str_utf8 : (text : List ℕ) → IsUtf8 text → IsForm (form.Str text)
str_utf8 text h0 zero = tt
str_utf8 text h0 (suc d) =
    subst (λ (z : Layer). HasUtf8Layer (HasUtf8To d) z) (sym (form.outs-Str text)) h0

pub national_utf8 : (text : List ℕ) → IsUtf8 text → IsForm (form.National text)
national_utf8 text h0 zero = tt
national_utf8 text h0 (suc d) =
    subst (λ (z : Layer). HasUtf8Layer (HasUtf8To d) z) (sym (form.outs-National text)) h0

pub hex_utf8 : (text : List ℕ) → IsForm (form.Hex text)
hex_utf8 text zero = tt
hex_utf8 text (suc d) =
    subst (λ (z : Layer). HasUtf8Layer (HasUtf8To d) z) (sym (form.outs-Hex text)) tt

pub intro_str_utf8 : (set : List ℕ) (text : List ℕ) → IsForm (form.IntroStr set text)
intro_str_utf8 set text zero = tt
intro_str_utf8 set text (suc d) =
    subst (λ (z : Layer). HasUtf8Layer (HasUtf8To d) z) (sym (form.outs-IntroStr set text)) tt

pub intro_hex_utf8 : (set : List ℕ) (text : List ℕ) → IsForm (form.IntroHex set text)
intro_hex_utf8 set text zero = tt
intro_hex_utf8 set text (suc d) =
    subst (λ (z : Layer). HasUtf8Layer (HasUtf8To d) z) (sym (form.outs-IntroHex set text)) tt

pub convert_utf8 : (a : Expr) (set : List ℕ) → HasUtf8 a → IsForm (form.Convert a set)
convert_utf8 a set h0 zero = tt
convert_utf8 a set h0 (suc d) =
    subst (λ (z : Layer). HasUtf8Layer (HasUtf8To d) z) (sym (form.outs-Convert a set)) (h0 d)

pub cast_char_utf8 : (a : Expr) (set : Option (List ℕ)) → HasUtf8 a → IsForm (form.CastChar a set)
cast_char_utf8 a set h0 zero = tt
cast_char_utf8 a set h0 (suc d) =
    subst (λ (z : Layer). HasUtf8Layer (HasUtf8To d) z) (sym (form.outs-CastChar a set)) (h0 d)

pub cast_binary_utf8 : (a : Expr) → HasUtf8 a → IsForm (form.CastBinary a)
cast_binary_utf8 a h0 zero = tt
cast_binary_utf8 a h0 (suc d) =
    subst (λ (z : Layer). HasUtf8Layer (HasUtf8To d) z) (sym (form.outs-CastBinary a)) (h0 d)

pub count_all_utf8 : IsForm (form.CountAll)
count_all_utf8 zero = tt
count_all_utf8 (suc d) =
    subst (λ (z : Layer). HasUtf8Layer (HasUtf8To d) z) (sym form.outs-CountAll) tt

pub count_distinct_utf8 : (a : Expr) → HasUtf8 a → IsForm (form.CountDistinct a)
count_distinct_utf8 a h0 zero = tt
count_distinct_utf8 a h0 (suc d) =
    subst (λ (z : Layer). HasUtf8Layer (HasUtf8To d) z) (sym (form.outs-CountDistinct a)) (h0 d)

pub trim_alone_utf8 : (side : TrimSide) (a : Expr) → HasUtf8 a → IsForm (form.Trim side None a)
trim_alone_utf8 side a h0 zero = tt
trim_alone_utf8 side a h0 (suc d) =
    subst (λ (z : Layer). HasUtf8Layer (HasUtf8To d) z) (sym (form.outs-Trim side None a)) (tt, h0 d)

pub trim_utf8 : (side : TrimSide) (a : Expr) (b : Expr) → HasUtf8 a → HasUtf8 b → IsForm (form.Trim side (Some a) b)
trim_utf8 side a b h0 h1 zero = tt
trim_utf8 side a b h0 h1 (suc d) =
    subst (λ (z : Layer). HasUtf8Layer (HasUtf8To d) z) (sym (form.outs-Trim side (Some a) b)) (h0 d, h1 d)

pub substring_rest_utf8 : (a : Expr) (b : Expr) → HasUtf8 a → HasUtf8 b → IsForm (form.SubstringFrom a b None)
substring_rest_utf8 a b h0 h1 zero = tt
substring_rest_utf8 a b h0 h1 (suc d) =
    subst (λ (z : Layer). HasUtf8Layer (HasUtf8To d) z) (sym (form.outs-SubstringFrom a b None)) (h0 d, h1 d, tt)

pub substring_utf8 : (a : Expr) (b : Expr) (c : Expr) → HasUtf8 a → HasUtf8 b → HasUtf8 c → IsForm (form.SubstringFrom a b (Some c))
substring_utf8 a b c h0 h1 h2 zero = tt
substring_utf8 a b c h0 h1 h2 (suc d) =
    subst (λ (z : Layer). HasUtf8Layer (HasUtf8To d) z) (sym (form.outs-SubstringFrom a b (Some c))) (h0 d, h1 d, h2 d)

pub weight_string_utf8 : (a : Expr) (cut : Option Cut) → HasUtf8 a → IsForm (form.WeightString a cut)
weight_string_utf8 a cut h0 zero = tt
weight_string_utf8 a cut h0 (suc d) =
    subst (λ (z : Layer). HasUtf8Layer (HasUtf8To d) z) (sym (form.outs-WeightString a cut)) (h0 d)

pub call_utf8 : (name : List ℕ) (xs : List Operand) → AreUtf8 xs → IsForm (form.Call name (exprs xs))
call_utf8 name xs h0 zero = tt
call_utf8 name xs h0 (suc d) =
    subst (λ (z : Layer). HasUtf8Layer (HasUtf8To d) z) (sym (form.outs-Call name (exprs xs))) (exprs_to d xs h0)

-- Operators of one level keep it.
pub grouped_utf8 : (x : Operand) (os : List Operation) → HasUtf8 x.expr → AreUtf8Operations os → HasUtf8 (grouped x os).expr
grouped_utf8 x [] h k = h
grouped_utf8 x (o ∷ os) h k =
    grouped_utf8 (whole (from_to x.extent o.right.extent) (form.Arith o.op x.expr o.right.expr)) os
    (arith_utf8 o.op x.expr o.right.expr h k.0) k.1

pub grouped_xor_utf8 : (x : Operand) (ys : List Operand) → HasUtf8 x.expr → AreUtf8 ys → HasUtf8 (grouped_xor x ys).expr
grouped_xor_utf8 x [] h k = h
grouped_xor_utf8 x (y ∷ ys) h k =
    grouped_xor_utf8 (whole (from_to x.extent y.extent) (form.Xor x.expr y.expr)) ys
    (xor_utf8 x.expr y.expr h k.0) k.1

pub under_utf8 : (x : Operand) (cs : List Collation) → HasUtf8 x.expr → HasUtf8 (under x cs).expr
under_utf8 x [] h = h
under_utf8 x (c ∷ cs) h =
    under_utf8 (whole (from_to x.extent c.extent) (form.Collate x.expr c.name)) cs
    (collate_utf8 x.expr c.name h)
