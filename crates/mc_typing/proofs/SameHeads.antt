-- Forms with one head have the same data.
use Rattle.std.proofs.Common.{◌≡◌, Bool, true, ℕ, List, Option, Some, None, refl, ap}
use Rattle.std.specs.Bool.{beq}
use Rattle.std.specs.Cmp.{booleans_Decides}
use Rattle.std.specs.Option.{option_eq}
use Rattle.std.specs.Str.{bytes_eq}
use Rattle.std.proofs.lemmas.Bool.{and_from, false≢true}
use Rattle.std.proofs.lemmas.Bool.Decides.{Decides-int_eq}
use Rattle.std.proofs.lemmas.Slice.Eq.{bytes_eq-Decides}
use Rattle.mc_ast.specs.declared.expr.Expr.{Expr}
use Rattle.mc_ast.specs.declared.expr.Form.{Form, Form-F}
use Rattle.mc_ast.specs.declared.operators.ArithOp.{ArithOp}
use Rattle.mc_ast.specs.declared.operators.ArithOp.TheVariants as arith_op
use Rattle.mc_ast.specs.declared.operators.CmpOp.{CmpOp}
use Rattle.mc_ast.specs.declared.operators.CmpOp.TheVariants as cmp_op
use Rattle.mc_ast.specs.declared.operators.Cut.{Cut}
use Rattle.mc_ast.specs.declared.operators.Cut.TheVariants.{Chars, Bytes}
use Rattle.mc_ast.specs.declared.operators.TrimSide.{TrimSide}
use Rattle.mc_ast.specs.declared.operators.TrimSide.TheVariants.{Both, Leading, Trailing}
use Rattle.mc_typing.specs.Likeness.{same_cut, same_head, same_side}
use Rattle.mc_typing.specs.Names.{arith_name, cmp_name}

-- What the tests of data tell, and that each holds of one thing.
pub text_same : (s t : List ℕ) → bytes_eq s t ≡ true → s ≡ t
text_same s t h = (bytes_eq-Decides s t).0 h

text_is : (s : List ℕ) → bytes_eq s s ≡ true
text_is s = (bytes_eq-Decides s s).1 refl

pub flag_same : (a b : Bool) → beq a b ≡ true → a ≡ b
flag_same a b h = (booleans_Decides a b).0 h

flag_is : (a : Bool) → beq a a ≡ true
flag_is a = (booleans_Decides a a).1 refl

pub option_same : (s t : Option (List ℕ)) → option_eq bytes_eq s t ≡ true → s ≡ t
option_same None None h = refl
option_same (Some s) (Some t) h = ap Some (text_same s t h)
option_same _ _ h = absurd (false≢true h)

option_is : (s : Option (List ℕ)) → option_eq bytes_eq s s ≡ true
option_is None = refl
option_is (Some s) = text_is s

pub cmp_same : (a b : CmpOp) → bytes_eq (cmp_name a) (cmp_name b) ≡ true → a ≡ b
cmp_same cmp_op.Eq cmp_op.Eq h = refl
cmp_same cmp_op.NullEq cmp_op.NullEq h = refl
cmp_same cmp_op.Ne cmp_op.Ne h = refl
cmp_same cmp_op.Lt cmp_op.Lt h = refl
cmp_same cmp_op.Le cmp_op.Le h = refl
cmp_same cmp_op.Gt cmp_op.Gt h = refl
cmp_same cmp_op.Ge cmp_op.Ge h = refl
cmp_same _ _ h = absurd (false≢true h)

pub arith_same : (a b : ArithOp) → bytes_eq (arith_name a) (arith_name b) ≡ true → a ≡ b
arith_same arith_op.Add arith_op.Add h = refl
arith_same arith_op.Sub arith_op.Sub h = refl
arith_same arith_op.Mul arith_op.Mul h = refl
arith_same arith_op.Div arith_op.Div h = refl
arith_same arith_op.Mod arith_op.Mod h = refl
arith_same _ _ h = absurd (false≢true h)

pub side_same : (a b : TrimSide) → same_side a b ≡ true → a ≡ b
side_same Both Both h = refl
side_same Leading Leading h = refl
side_same Trailing Trailing h = refl
side_same _ _ h = absurd (false≢true h)

side_is : (a : TrimSide) → same_side a a ≡ true
side_is Both = refl
side_is Leading = refl
side_is Trailing = refl

pub cut_same : (a b : Option Cut) → option_eq same_cut a b ≡ true → a ≡ b
cut_same None None h = refl
cut_same (Some (Chars n)) (Some (Chars m)) h = ap (λ k. Some (Chars k)) ((Decides-int_eq n m).0 h)
cut_same (Some (Bytes n)) (Some (Bytes m)) h = ap (λ k. Some (Bytes k)) ((Decides-int_eq n m).0 h)
cut_same _ _ h = absurd (false≢true h)

cut_is : (a : Option Cut) → option_eq same_cut a a ≡ true
cut_is None = refl
cut_is (Some (Chars n)) = (Decides-int_eq n n).1 refl
cut_is (Some (Bytes n)) = (Decides-int_eq n n).1 refl

-- Each form has its own head.
pub head_is : (x : Form-F Form Expr) → same_head x x ≡ true
head_is (Form-F.Compare op l r) = text_is (cmp_name op)
head_is (Form-F.IsNull t negated) = flag_is negated
head_is (Form-F.Like l r escape negated) =
    and_from (option_eq bytes_eq escape escape) (beq negated negated) (option_is escape)
    (flag_is negated)
head_is (Form-F.In t ts negated) = flag_is negated
head_is (Form-F.Between t l h negated) = flag_is negated
head_is (Form-F.Arith op l r) = text_is (arith_name op)
head_is (Form-F.Collate t name) = text_is name
head_is (Form-F.Int n) = (Decides-int_eq n n).1 refl
head_is (Form-F.Str text) = text_is text
head_is (Form-F.National text) = text_is text
head_is (Form-F.Hex text) = text_is text
head_is (Form-F.IntroStr set text) =
    and_from (bytes_eq set set) (bytes_eq text text) (text_is set) (text_is text)
head_is (Form-F.IntroHex set text) =
    and_from (bytes_eq set set) (bytes_eq text text) (text_is set) (text_is text)
head_is (Form-F.Name name) = text_is name
head_is (Form-F.Qualified table name) =
    and_from (bytes_eq table table) (bytes_eq name name) (text_is table) (text_is name)
head_is (Form-F.Convert t set) = text_is set
head_is (Form-F.CastChar t set) = option_is set
head_is (Form-F.Trim side removed t) = side_is side
head_is (Form-F.WeightString t cut) = cut_is cut
head_is (Form-F.Call name ts) = text_is name
head_is _ = refl
