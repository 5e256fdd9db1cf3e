-- The operands of a typed node.
use Rattle.std.specs.Prelude.{List, [], ◌∷◌, option_to_list}
use Rattle.mc_typing.specs.declared.typed.Node.{Node-F}

-- The operands of a node, in the script's order.
abbrev pub node_parts : {X A : Type 0} → Node-F X A → List A
node_parts (Node-F.Collate x) = x ∷ []
node_parts (Node-F.Compare op coll xs) = xs
node_parts (Node-F.Like coll xs escape negated) = xs
node_parts (Node-F.In coll xs negated) = xs
node_parts (Node-F.Between coll xs negated) = xs
node_parts (Node-F.IsNull x negated) = x ∷ []
node_parts (Node-F.Not x) = x ∷ []
node_parts (Node-F.Neg x) = x ∷ []
node_parts (Node-F.And xs) = xs
node_parts (Node-F.Or xs) = xs
node_parts (Node-F.Xor xs) = xs
node_parts (Node-F.Arith op xs) = xs
node_parts (Node-F.Call function uses xs) = xs
node_parts (Node-F.NumberText set x) = x ∷ []
node_parts (Node-F.Convert set x) = x ∷ []
node_parts (Node-F.Aggregate name distinct arg place) = option_to_list arg
node_parts (Node-F.WeightString cut x) = x ∷ []
node_parts node = []
