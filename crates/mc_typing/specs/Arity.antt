-- How many operands a form has, for a walk over two trees at once.
use Rattle.mc_ast.specs.declared.expr.Form.{Form-F}

-- None, one, two, three, as many as are given or one more, or any number.
pub data Arity : Type 0 where
  none : Arity
  one : Arity
  two : Arity
  three : Arity
  or_more : Arity
  any : Arity

-- How many operands the form has.
abbrev pub arity : {X A : Type 0} → Form-F X A → Arity
arity (Form-F.Or ts) = any
arity (Form-F.And ts) = any
arity (Form-F.Xor l r) = two
arity (Form-F.Not t) = one
arity (Form-F.Compare op l r) = two
arity (Form-F.IsNull t negated) = one
arity (Form-F.Like l r escape negated) = two
arity (Form-F.In t ts negated) = any
arity (Form-F.Between t low high negated) = three
arity (Form-F.Arith op l r) = two
arity (Form-F.Neg t) = one
arity (Form-F.Collate t name) = one
arity (Form-F.Convert t set) = one
arity (Form-F.CastChar t set) = one
arity (Form-F.CastBinary t) = one
arity (Form-F.CountDistinct t) = one
arity (Form-F.Trim side removed t) = or_more
arity (Form-F.SubstringFrom t start len) = or_more
arity (Form-F.WeightString t cut) = one
arity (Form-F.Call name ts) = any
arity form = none
