-- One layer of a typed expression, and its operands in the script's order.
use Rattle.std.specs.Prelude.{List, [], ◌∷◌, Option, Some, None}
use Rattle.mc_typing.specs.declared.typed.Node.{Node-F}

abbrev pub listed : {A : Type 0} → Option A → List A
listed None = []
listed (Some x) = x ∷ []

abbrev pub operands : {X A : Type 0} → Node-F X A → List A
operands (Node-F.Const it) = []
operands (Node-F.Column place) = []
operands (Node-F.Collate x) = x ∷ []
operands (Node-F.Compare op coll xs) = xs
operands (Node-F.Like coll xs escape negated) = xs
operands (Node-F.In coll xs negated) = xs
operands (Node-F.Between coll xs negated) = xs
operands (Node-F.IsNull x negated) = x ∷ []
operands (Node-F.Not x) = x ∷ []
operands (Node-F.Neg x) = x ∷ []
operands (Node-F.And xs) = xs
operands (Node-F.Or xs) = xs
operands (Node-F.Xor xs) = xs
operands (Node-F.Arith op xs) = xs
operands (Node-F.Call name uses xs) = xs
operands (Node-F.NumberText set x) = x ∷ []
operands (Node-F.Convert set x) = x ∷ []
operands (Node-F.Aggregate name distinct x place) = listed x
operands (Node-F.WeightString cut x) = x ∷ []
