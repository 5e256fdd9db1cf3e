-- The operands of a node, by how they are evaluated.
use Rattle.std.specs.Prelude.{Bool, true, false, List, [], ◌∷◌}
use Rattle.mc_typing.specs.declared.typed.Node.{Node-F}
use Rattle.mc_typing.specs.declared.typed.TypedExpr.{TypedExpr}
use Rattle.mc_eval.specs.declared.shape.Shape.{Shape}
use Rattle.mc_eval.specs.declared.shape.Shape.TheVariants as shape

-- None, one, two or three; the members of AND or OR, which end at one that decides; or all of them
-- as a list.
pub data Parts (A : Type 0) : Type 0 where
  none : Parts A
  one : A → Parts A
  two : A → A → Parts A
  three : A → A → A → Parts A
  chain : Bool → List A → Parts A
  listed : List A → Parts A

-- Two operands. No typed operation on two has another number of them.
abbrev pub pair_of : {A : Type 0} → List A → Parts A
pair_of (x ∷ y ∷ []) = Parts.two x y
pair_of xs = Parts.none

-- Three operands, likewise.
abbrev pub triple_of : {A : Type 0} → List A → Parts A
triple_of (x ∷ y ∷ z ∷ []) = Parts.three x y z
triple_of xs = Parts.none

-- The operands that are evaluated for a node; for an aggregate none is.
abbrev pub parts_of : {X A : Type 0} → Node-F X A → Parts A
parts_of (Node-F.Collate x) = Parts.one x
parts_of (Node-F.Compare op coll xs) = pair_of xs
parts_of (Node-F.Like coll xs escape negated) = pair_of xs
parts_of (Node-F.In coll xs negated) = Parts.listed xs
parts_of (Node-F.Between coll xs negated) = triple_of xs
parts_of (Node-F.IsNull x negated) = Parts.one x
parts_of (Node-F.Not x) = Parts.one x
parts_of (Node-F.Neg x) = Parts.one x
parts_of (Node-F.And xs) = Parts.chain false xs
parts_of (Node-F.Or xs) = Parts.chain true xs
parts_of (Node-F.Xor xs) = pair_of xs
parts_of (Node-F.Arith op xs) = pair_of xs
parts_of (Node-F.Call name uses xs) = Parts.listed xs
parts_of (Node-F.NumberText set x) = Parts.one x
parts_of (Node-F.Convert set x) = Parts.one x
parts_of (Node-F.WeightString cut x) = Parts.one x
parts_of node = Parts.none

-- The operands that are lent.
abbrev pub parts_in : Shape → Parts TypedExpr
parts_in shape.Leaf = Parts.none
parts_in (shape.One x) = Parts.one x.now
parts_in (shape.Two x y) = Parts.two x.now y.now
parts_in (shape.Three x y z) = Parts.three x.now y.now z.now
parts_in (shape.Chain or xs) = Parts.chain or xs.now
parts_in (shape.Listed xs) = Parts.listed xs.now
