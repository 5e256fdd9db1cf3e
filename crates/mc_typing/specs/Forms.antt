-- The operands of an expression's form.
use Rattle.std.specs.Prelude.{List, [], ◌∷◌, Option, Some, None}
use Rattle.mc_ast.specs.declared.expr.Form.{Form-F}

-- An operand before others, if there is one.
abbrev pub option_before : {A : Type 0} → Option A → List A → List A
option_before None xs = xs
option_before (Some x) xs = x ∷ xs

-- The operands of a form, in the script's order.
abbrev pub parts : {X A : Type 0} → Form-F X A → List A
parts (Form-F.Or ts) = ts
parts (Form-F.And ts) = ts
parts (Form-F.Xor l r) = l ∷ r ∷ []
parts (Form-F.Not t) = t ∷ []
parts (Form-F.Compare op l r) = l ∷ r ∷ []
parts (Form-F.IsNull t negated) = t ∷ []
parts (Form-F.Like l r escape negated) = l ∷ r ∷ []
parts (Form-F.In t ts negated) = t ∷ ts
parts (Form-F.Between t low high negated) = t ∷ low ∷ high ∷ []
parts (Form-F.Arith op l r) = l ∷ r ∷ []
parts (Form-F.Neg t) = t ∷ []
parts (Form-F.Collate t name) = t ∷ []
parts (Form-F.Convert t set) = t ∷ []
parts (Form-F.CastChar t set) = t ∷ []
parts (Form-F.CastBinary t) = t ∷ []
parts (Form-F.CountDistinct t) = t ∷ []
parts (Form-F.Trim side removed t) = option_before removed (t ∷ [])
parts (Form-F.SubstringFrom t start len) = t ∷ start ∷ option_before len []
parts (Form-F.WeightString t cut) = t ∷ []
parts (Form-F.Call name ts) = ts
parts form = []
