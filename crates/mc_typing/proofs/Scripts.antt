-- The parts of an expression whose strings are UTF-8 are so.
use Rattle.std.proofs.Common.{ℕ, suc, List, [], ◌∷◌, None, Some}
use Rattle.std.specs.List.{AllByRecursion}
use Rattle.mc_ast.specs.Texts.{Layer, HasUtf8Layer, HasUtf8To, HasUtf8}
use Rattle.mc_ast.specs.declared.expr.Expr.{Expr}
use Rattle.mc_ast.specs.declared.expr.Form.{Form, Form-F, out-Form}
use Rattle.mc_typing.specs.Forms.{parts}

each_part : (es : List Expr) → ((depth : ℕ) → AllByRecursion (λ e. HasUtf8To depth e.form) es)
    → AllByRecursion HasUtf8 es
each_part [] h = tt
each_part (e ∷ es) h = ((λ depth. (h depth).0), each_part es (λ depth. (h depth).1))

layer_parts : (x : Layer) → ((depth : ℕ) → HasUtf8Layer (HasUtf8To depth) x)
    → AllByRecursion HasUtf8 (parts x)
layer_parts (Form-F.Or es) h = each_part es h
layer_parts (Form-F.And es) h = each_part es h
layer_parts (Form-F.Xor a b) h = ((λ d. (h d).0), ((λ d. (h d).1), tt))
layer_parts (Form-F.Not a) h = (h, tt)
layer_parts (Form-F.Compare op a b) h = ((λ d. (h d).0), ((λ d. (h d).1), tt))
layer_parts (Form-F.IsNull a negated) h = (h, tt)
layer_parts (Form-F.Like a b escape negated) h = ((λ d. (h d).0), ((λ d. (h d).1), tt))
layer_parts (Form-F.In a es negated) h = ((λ d. (h d).0), each_part es (λ d. (h d).1))
layer_parts (Form-F.Between a b c negated) h =
    ((λ d. (h d).0), ((λ d. (h d).1), ((λ d. (h d).2), tt)))
layer_parts (Form-F.Arith op a b) h = ((λ d. (h d).0), ((λ d. (h d).1), tt))
layer_parts (Form-F.Neg a) h = (h, tt)
layer_parts (Form-F.Collate a name) h = (h, tt)
layer_parts (Form-F.Convert a set) h = (h, tt)
layer_parts (Form-F.CastChar a set) h = (h, tt)
layer_parts (Form-F.CastBinary a) h = (h, tt)
layer_parts (Form-F.CountDistinct a) h = (h, tt)
layer_parts (Form-F.Trim side None a) h = ((λ d. (h d).1), tt)
layer_parts (Form-F.Trim side (Some b) a) h = ((λ d. (h d).0), ((λ d. (h d).1), tt))
layer_parts (Form-F.SubstringFrom a b None) h = ((λ d. (h d).0), ((λ d. (h d).1), tt))
layer_parts (Form-F.SubstringFrom a b (Some c)) h =
    ((λ d. (h d).0), ((λ d. (h d).1), ((λ d. (h d).2), tt)))
layer_parts (Form-F.WeightString a cut) h = (h, tt)
layer_parts (Form-F.Call name es) h = each_part es h
layer_parts _ h = tt

pub parts_utf8 : (form : Form) → ((depth : ℕ) → HasUtf8To depth form)
    → AllByRecursion HasUtf8 (parts (out-Form form))
parts_utf8 form h = layer_parts (out-Form form) (λ depth. h (suc depth))
