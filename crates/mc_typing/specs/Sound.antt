-- Sound typed trees, as typing gives them: each node has operands of the kinds that it takes, and a
-- type that its value has. The conversions of an operation are no nodes: the source is the type of
-- the operand, the target the set of the operation's collation, and each text can be converted.
use Rattle.std.specs.Prelude.{◌≡◌, ℕ, ◌<◌, ◌≤◌, Bool, true, false, ◌&&◌, List, [], Option, Some}
use Rattle.std.specs.Prelude.{None, All}
use Rattle.std.specs.Prelude.{IsTrue, MatchBool, get_or, length, nat_le, slice_get}
use Rattle.mc_charset.specs.declared.charset.Charset.TheVariants.{Binary as SetBinary}
use Rattle.mc_charset.specs.declared.collation_id.CollId.{CollId}
use Rattle.mc_coerce.specs.declared.operand.Operand.{Operand}
use Rattle.mc_catalog.specs.declared.catalog.Catalog.{Catalog}
use Rattle.mc_values.specs.Values.{IsWithinLimit}
use Rattle.mc_typing.specs.declared.callee.Callee.TheVariants.{Of}
use Rattle.mc_typing.specs.declared.typed.AggName.{AggName}
use Rattle.mc_typing.specs.declared.typed.AggName.TheVariants.{Count, Min, Max, Sum}
use Rattle.mc_typing.specs.declared.typed.Func.{Func}
use Rattle.mc_typing.specs.declared.typed.Func.TheVariants.{CharLength, Length, Hex, TrimBoth}
use Rattle.mc_typing.specs.declared.typed.Func.TheVariants.{TrimLeading, TrimTrailing, Strcmp, Mod}
use Rattle.mc_typing.specs.declared.typed.Node.{Node-F, out-Node}
use Rattle.mc_typing.specs.declared.typed.Ty.{Ty}
use Rattle.mc_typing.specs.declared.typed.Ty.TheVariants.{Int, Str}
use Rattle.mc_typing.specs.declared.typed.TypedExpr.{TypedExpr, every-TypedExpr}
use Rattle.mc_typing.specs.AggregateTypes.{aggregate_types}
use Rattle.mc_typing.specs.Calls.{is_cut}
use Rattle.mc_typing.specs.Functions.{takes, takes_text}
use Rattle.mc_typing.specs.OfType.{IsNumeric, IsOfType, IsTextIn, IsTextTy, IsTextual, KeepsSet}
use Rattle.mc_typing.specs.Operands.{IsTextOf, IsTyOf}

-- The operands are numbers, NULL among them.
abbrev pub AreNumeric : List TypedExpr → Type 0
AreNumeric xs = All (λ x. IsNumeric x.ty) xs

-- The operands are texts, NULL among them.
abbrev pub AreTextual : List TypedExpr → Type 0
AreTextual xs = All (λ x. IsTextual x.ty) xs

-- Operands are compared as texts by a collation of the catalog.
abbrev pub AreComparedBy : Catalog → Option CollId → List TypedExpr → Type 0
AreComparedBy c None xs = ⊥
AreComparedBy c (Some id) xs = (id.0 < length c.collations) × AreTextual xs

-- Operands are compared: as numbers without a collation, as texts by one.
abbrev pub AreCompared : Catalog → Option CollId → List TypedExpr → Type 0
AreCompared c None xs = AreNumeric xs
AreCompared c coll xs = AreComparedBy c coll xs

-- The function takes so many arguments. TRIM has the removed text before its text, if it is given.
abbrev pub has_arity : Func → ℕ → Bool
has_arity TrimBoth n = nat_le 1 n && nat_le n 2
has_arity TrimLeading n = nat_le 1 n && nat_le n 2
has_arity TrimTrailing n = nat_le 1 n && nat_le n 2
has_arity function n = takes (Of function) n

-- The argument at a place, counted from 0, has a type that the function takes there: HEX any, the
-- others texts at the places of texts and numbers at the other places.
abbrev pub IsArgument : Func → ℕ → Ty → Type 0
IsArgument Hex place ty = Unit {0}
IsArgument function place ty =
    MatchBool (takes_text function place) (IsTextual ty) (IsNumeric ty)

-- Each argument has a type that the function takes at its place.
abbrev pub AreArguments : Func → List TypedExpr → Type 0
AreArguments function xs = (place : ℕ) (d : TypedExpr) → place < length xs
    → IsArgument function place (get_or xs place d).ty

-- What texts have together is a text of the catalog.
abbrev pub IsTogether : Catalog → Option Operand → Type 0
IsTogether c None = ⊥
IsTogether c (Some a) = IsTextOf c a

-- The type is that of texts of the set and the collation that the arguments have together.
abbrev pub IsMadeOf : Option Operand → Ty → Type 0
IsMadeOf (Some a) (Str b) = (b.charset ≡ a.charset) × (b.collation ≡ a.collation)
IsMadeOf uses ty = ⊥

-- What the arguments of a function have together, and the type of its value.
abbrev pub IsResult : Catalog → Func → Option Operand → Ty → Type 0
IsResult c CharLength uses ty = (uses ≡ None) × (ty ≡ Int)
IsResult c Length uses ty = (uses ≡ None) × (ty ≡ Int)
IsResult c Mod uses ty = (uses ≡ None) × (ty ≡ Int)
IsResult c Hex uses ty = (uses ≡ None) × IsTextTy ty
IsResult c Strcmp uses ty = IsTogether c uses × (ty ≡ Int)
IsResult c function uses ty = IsTogether c uses × IsMadeOf uses ty

-- A call of a function.
pub record IsSoundCall (c : Catalog) (function : Func) (uses : Option Operand) (xs : List TypedExpr)
    (ty : Ty) : Type 0 where
  pub arity : IsTrue (has_arity function (length xs))
  pub arguments : AreArguments function xs
  pub result : IsResult c function uses ty

-- The type of an aggregate of an argument of a type.
abbrev pub IsAggregateTy : AggName → Ty → Ty → Type 0
IsAggregateTy Count arg ty = ty ≡ Int
IsAggregateTy Sum arg ty = IsNumeric arg × (ty ≡ Int)
IsAggregateTy Min arg ty = ty ≡ arg
IsAggregateTy Max arg ty = ty ≡ arg

-- DISTINCT stands in COUNT alone.
abbrev pub IsDistinctIn : AggName → Bool → Type 0
IsDistinctIn name false = Unit {0}
IsDistinctIn Count true = Unit {0}
IsDistinctIn name true = ⊥

-- An aggregate of a type over its argument, in which no aggregate stands. COUNT(*) alone lacks one.
abbrev pub IsSoundAggregate : AggName → Bool → Option TypedExpr → Ty → Type 0
IsSoundAggregate name distinct (Some x) ty =
    IsAggregateTy name x.ty ty × IsDistinctIn name distinct × (aggregate_types x ≡ [])
IsSoundAggregate Count false None ty = ty ≡ Int
IsSoundAggregate name distinct None ty = ⊥

-- A node of a type over its operands, where rows have columns and groups have aggregates of such
-- types.
abbrev pub IsSoundNode : {X : Type 0} → Catalog → List Ty → List Ty → Ty → Node-F X TypedExpr
    → Type 0
IsSoundNode c columns aggregates ty (Node-F.Const v) = IsOfType ty v × IsWithinLimit v
IsSoundNode c columns aggregates ty (Node-F.Column place) = slice_get columns place ≡ Some ty
IsSoundNode c columns aggregates ty (Node-F.Collate x) = KeepsSet x.ty ty
IsSoundNode c columns aggregates ty (Node-F.Compare op coll xs) =
    (ty ≡ Int) × (length xs ≡ 2) × AreCompared c coll xs
IsSoundNode c columns aggregates ty (Node-F.Like coll xs escape negated) =
    (ty ≡ Int) × (length xs ≡ 2) × AreComparedBy c coll xs
IsSoundNode c columns aggregates ty (Node-F.In coll xs negated) =
    (ty ≡ Int) × (1 ≤ length xs) × AreCompared c coll xs
IsSoundNode c columns aggregates ty (Node-F.Between coll xs negated) =
    (ty ≡ Int) × (length xs ≡ 3) × AreCompared c coll xs
IsSoundNode c columns aggregates ty (Node-F.IsNull x negated) = ty ≡ Int
IsSoundNode c columns aggregates ty (Node-F.Not x) = (ty ≡ Int) × IsNumeric x.ty
IsSoundNode c columns aggregates ty (Node-F.Neg x) = (ty ≡ Int) × IsNumeric x.ty
IsSoundNode c columns aggregates ty (Node-F.And xs) = (ty ≡ Int) × AreNumeric xs
IsSoundNode c columns aggregates ty (Node-F.Or xs) = (ty ≡ Int) × AreNumeric xs
IsSoundNode c columns aggregates ty (Node-F.Xor xs) =
    (ty ≡ Int) × (length xs ≡ 2) × AreNumeric xs
IsSoundNode c columns aggregates ty (Node-F.Arith op xs) =
    (ty ≡ Int) × (length xs ≡ 2) × AreNumeric xs
IsSoundNode c columns aggregates ty (Node-F.Call function uses xs) =
    IsSoundCall c function uses xs ty
IsSoundNode c columns aggregates ty (Node-F.NumberText set x) = (x.ty ≡ Int) × IsTextIn set ty
IsSoundNode c columns aggregates ty (Node-F.Convert set x) = IsTextual x.ty × IsTextIn set ty
IsSoundNode c columns aggregates ty (Node-F.Aggregate name distinct arg place) =
    (slice_get aggregates place ≡ Some ty) × IsSoundAggregate name distinct arg ty
IsSoundNode c columns aggregates ty (Node-F.WeightString cut x) =
    IsTrue (is_cut cut) × IsTextual x.ty × IsTextIn SetBinary ty

-- The expression is sound: each of its nodes is, and each type of a text has a collation of the
-- catalog.
unfoldable pub IsSound : Catalog → List Ty → List Ty → TypedExpr → Type 0
IsSound c columns aggregates x = every-TypedExpr (λ node. Unit {0})
    (λ e. IsTyOf c e.ty × IsSoundNode c columns aggregates e.ty (out-Node e.node)) x
