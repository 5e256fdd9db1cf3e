-- How the walk over an expression goes: the operands of a node are evaluated, and its operation is
-- applied to what comes of them.
use Rattle.std.specs.Prelude.{◌≡◌, ℕ, ◌≤◌, Bool, true, false, List, map, All, IsTrue}
use Rattle.std.specs.List.{list_any}
use Rattle.mc_order.specs.Meaning.{Meaning}
use Rattle.mc_typing.specs.declared.typed.Node.{Node-F, Node}
use Rattle.mc_typing.specs.declared.typed.Ty.{Ty}
use Rattle.mc_typing.specs.declared.typed.TypedExpr.{TypedExpr}
use Rattle.mc_values.specs.declared.value.Value.{Value}
use Rattle.mc_values.specs.declared.value.Value.TheVariants as value
use Rattle.mc_eval.specs.Arithmetic.{arithmetic, negative, on_numbers}
use Rattle.mc_eval.specs.Comparisons.{compared}
use Rattle.mc_eval.specs.Fit.{fits, has_like, is_kept, is_like, type_fits}
use Rattle.mc_eval.specs.Functions.{called, converted_to, number_text}
use Rattle.mc_eval.specs.Matches.{liked}
use Rattle.mc_eval.specs.Node.{Place, among, at_place, within_ends}
use Rattle.mc_eval.specs.Outcomes.{Outcome, of_all, of_one, of_two}
use Rattle.mc_eval.specs.Outcomes.Outcome.{gives}
use Rattle.mc_eval.specs.Shapes.{Parts}
use Rattle.mc_eval.specs.Texts.{is_null}
use Rattle.mc_eval.specs.Truths.{all_of, any_of, known, one_of, opposite, told, truth, turned}
use Rattle.mc_eval.specs.Value.{value}
use Rattle.mc_eval.specs.Weights.{weighed}
use Rattle.mc_eval.specs.declared.truth.Truth.{Truth}

-- What comes of a node without operands, in a row with these aggregates.
abbrev pub value_of_leaf : {X A : Type 0} → List Value → List Value → Node-F X A → Outcome
value_of_leaf row aggregates (Node-F.Const it) = gives it
value_of_leaf row aggregates (Node-F.Column place) = at_place row place
value_of_leaf row aggregates (Node-F.Aggregate name distinct x place) = at_place aggregates place
value_of_leaf row aggregates node = gives value.Null

-- What comes of a node over what comes of its one operand.
abbrev pub value_of_one : {X : Type 0} → (ℕ → Meaning) → Node-F X TypedExpr → Outcome → Outcome
value_of_one meaning (Node-F.Collate x) o = o
value_of_one meaning (Node-F.IsNull x negated) o =
    of_one (λ it. told (turned negated (known (is_null it)))) o
value_of_one meaning (Node-F.Not x) o = told (opposite (truth o))
value_of_one meaning (Node-F.Neg x) o = of_one negative o
value_of_one meaning (Node-F.NumberText set x) o = of_one (λ it. gives (number_text set it)) o
value_of_one meaning (Node-F.Convert set x) o = of_one (λ it. gives (converted_to set it)) o
value_of_one meaning (Node-F.WeightString cut x) o =
    of_one (λ it. gives (weighed meaning cut x.ty it)) o
value_of_one meaning node o = gives value.Null

-- Over what comes of its two operands.
abbrev pub value_of_two : {X A : Type 0} → (ℕ → Meaning) → Node-F X A → Outcome → Outcome → Outcome
value_of_two meaning (Node-F.Compare op coll xs) x y =
    of_two (λ a b. told (compared meaning coll op a b)) x y
value_of_two meaning (Node-F.Like coll xs escape negated) x y =
    of_two (λ a b. told (turned negated (liked meaning coll escape a b))) x y
value_of_two meaning (Node-F.Xor xs) x y = told (one_of (truth x) (truth y))
value_of_two meaning (Node-F.Arith op xs) x y = of_two (on_numbers (arithmetic op)) x y
value_of_two meaning node x y = gives value.Null

-- Over what comes of its three operands.
abbrev pub value_of_three : {X A : Type 0} → (ℕ → Meaning) → Node-F X A
    → Outcome → Outcome → Outcome → Outcome
value_of_three meaning (Node-F.Between coll xs negated) x low high =
    told (turned negated (within_ends meaning coll x low high))
value_of_three meaning node x low high = gives value.Null

-- Over what comes of its operands, where it has a type.
abbrev pub value_of_list : {X A : Type 0} → (ℕ → Meaning) → Node-F X A → Ty → List Outcome → Outcome
value_of_list meaning (Node-F.In coll xs negated) ty os =
    of_all (λ values. told (turned negated (among meaning coll values))) os
value_of_list meaning (Node-F.Call function uses xs) ty os =
    of_all (λ values. gives (called meaning function uses ty values)) os
value_of_list meaning node ty os = gives value.Null

-- OR of the members, or AND.
abbrev pub chained : Bool → List Truth → Truth
chained true members = any_of members
chained false members = all_of members

abbrev pub truths_in : Place → List TypedExpr → List Truth
truths_in p xs = map (λ x. truth (value p x)) xs

-- What comes of an expression is what comes of its node over its operands.
abbrev pub HasValue : Place → TypedExpr → Node-F Node TypedExpr → Parts TypedExpr → Type 0
HasValue p e node Parts.none = value p e ≡ value_of_leaf p.row p.aggregates node
HasValue p e node (Parts.one x) = value p e ≡ value_of_one p.meaning node (value p x)
HasValue p e node (Parts.two x y) = value p e ≡ value_of_two p.meaning node (value p x) (value p y)
HasValue p e node (Parts.three x y z) =
    value p e ≡ value_of_three p.meaning node (value p x) (value p y) (value p z)
HasValue p e node (Parts.chain or xs) = value p e ≡ told (chained or (truths_in p xs))
HasValue p e node (Parts.listed xs) =
    value p e ≡ value_of_list p.meaning node e.ty (map (value p) xs)

-- The operands can be evaluated with so many collations.
abbrev pub DoFit : ℕ → Parts TypedExpr → Type 0
DoFit count Parts.none = Unit {0}
DoFit count (Parts.one x) = IsTrue (fits count x)
DoFit count (Parts.two x y) = IsTrue (fits count x) × IsTrue (fits count y)
DoFit count (Parts.three x y z) =
    IsTrue (fits count x) × IsTrue (fits count y) × IsTrue (fits count z)
DoFit count (Parts.chain or xs) = All (λ x. IsTrue (fits count x)) xs
DoFit count (Parts.listed xs) = All (λ x. IsTrue (fits count x)) xs

-- A constant is a text that may be kept.
abbrev pub HasKeptConstant : {X A : Type 0} → Node-F X A → Type 0
HasKeptConstant (Node-F.Const it) = IsTrue (is_kept it)
HasKeptConstant node = Unit {0}

-- The type of what WEIGHT_STRING is taken of is one of these collations'.
abbrev pub HasFitType : {X : Type 0} → ℕ → Node-F X TypedExpr → Type 0
HasFitType count (Node-F.WeightString cut x) = IsTrue (type_fits count x.ty)
HasFitType count node = Unit {0}

-- LIKE stands neither in the operands nor between two of them.
abbrev pub HaveNoLike : Node-F Node TypedExpr → Parts TypedExpr → Type 0
HaveNoLike node Parts.none = Unit {0}
HaveNoLike node (Parts.one x) = has_like x ≡ false
HaveNoLike node (Parts.two x y) =
    (has_like x ≡ false) × (has_like y ≡ false) × (is_like node ≡ false)
HaveNoLike node (Parts.three x y z) =
    (has_like x ≡ false) × (has_like y ≡ false) × (has_like z ≡ false)
HaveNoLike node (Parts.chain or xs) = list_any has_like xs ≡ false
HaveNoLike node (Parts.listed xs) = list_any has_like xs ≡ false

-- A counter stood still where nothing is matched by LIKE, and was never lowered.
pub record GoesOn (like : Bool) (old new : ℕ) : Type 0 where
  pub still : like ≡ false → new ≡ old
  pub later : old ≤ new
