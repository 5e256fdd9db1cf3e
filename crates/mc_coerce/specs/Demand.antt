-- What private clauses speak of: the two ways to decide as one, and the step of the code's pass.
-- No public clause rests on it.
use Rattle.std.specs.Prelude.{Bool, not, ◌&&◌, nat_lt, Option, Some, None, List, if◌then◌else◌}
use Rattle.std.specs.List.{find, list_all}
use Rattle.std.specs.Option.{option_map}
use Rattle.mc_convert.specs.Classes.{rank}
use Rattle.mc_coerce.specs.declared.operand.Operand.{Operand}
use Rattle.mc_coerce.specs.declared.demand.Demand.{Demand}
use Rattle.mc_coerce.specs.declared.demand.Demand.TheVariants.{Beat, Share}
use Rattle.mc_coerce.specs.Pair.{beats}
use Rattle.mc_coerce.specs.Aggregate.{shares, won_by, shared_by}

-- The demand of the first on the second: to beat it, or to share with it.
abbrev pub meets : Demand → Operand → Operand → Bool
meets Beat a b = beats a b
meets Share a b = shares a b

-- It meets the demand to each of the operands.
abbrev pub decides : Demand → List Operand → Operand → Bool
decides demand operands a = list_all (meets demand a) operands

-- What the operands have together where this one decides.
abbrev pub result_of : Demand → List Operand → Operand → Operand
result_of Beat operands a = won_by operands a
result_of Share operands a = shared_by operands a

-- What they have together through one of them that meets the demand to each.
abbrev pub result_by : Demand → List Operand → Option Operand
result_by demand operands =
    option_map (result_of demand operands) (find (decides demand operands) operands)

-- Its repertoire is less than the other one's.
abbrev pub has_less : Operand → Operand → Bool
has_less a b = nat_lt (rank a.repertoire) (rank b.repertoire)

-- The one of two operands that may still decide: the first if it meets the demand to the second,
-- unless both meet it and the second one's repertoire is greater.
abbrev pub contender : Demand → Option Operand → Operand → Operand
contender demand None b = b
contender demand (Some a) b =
    if meets demand a b && not (meets demand b a && has_less a b) then a else b
