-- A sound expression can be evaluated with the collations of its catalog.
use Rattle.std.proofs.Common.{◌≡◌, ◌↔◌, ℕ, true, All, IsTrue, List, [], ◌∷◌}
use Rattle.std.proofs.Common.{Option, Some, None, length, map, refl, ap, ◌∙◌}
use Rattle.std.specs.Prelude.{nat_le}
use Rattle.std.proofs.lemmas.Bool.{and_from, le-leb, lt-ltb}
use Rattle.std.proofs.lemmas.List.Elements.{All-from_recursion, recursion_from_All}
use Rattle.std.specs.List.{AllByRecursion, list_all}
use Rattle.mc_catalog.specs.declared.catalog.Catalog.{Catalog}
use Rattle.mc_charset.specs.Chars.{IsWellFormed, is_spelled}
use Rattle.mc_charset.specs.declared.charset.Charset.{Charset}
use Rattle.mc_charset.specs.declared.collation_id.CollId.{CollId}
use Rattle.mc_coerce.specs.declared.operand.Operand.{Operand}
use Rattle.mc_typing.specs.OfType.{IsOfType}
use Rattle.mc_typing.specs.Operands.{IsTyOf}
use Rattle.mc_typing.specs.Parts.{node_parts}
use Rattle.mc_typing.specs.Sound.{AreCompared, AreComparedBy, IsResult, IsSound, IsSoundNode}
use Rattle.mc_typing.specs.Sound.{IsTogether}
use Rattle.mc_typing.specs.declared.typed.Func.{Func}
use Rattle.mc_typing.specs.declared.typed.Func.TheVariants as func
use Rattle.mc_typing.specs.declared.typed.Node.{Node, Node-F, out-Node}
use Rattle.mc_typing.specs.declared.typed.Ty.{Ty}
use Rattle.mc_typing.specs.declared.typed.Ty.TheVariants as ty
use Rattle.mc_typing.specs.declared.typed.TypedExpr.{TypedExpr}
use Rattle.mc_values.specs.Values.{IsWithinLimit, greatest_string}
use Rattle.mc_values.specs.declared.value.Value.{Value}
use Rattle.mc_values.specs.declared.value.Value.TheVariants as value
use Rattle.mc_eval.specs.Fit.{fits, is_in_book, is_kept, itself_fits, type_fits, uses_fit}
use Rattle.mc_eval.specs.Layers.{operands}
use Rattle.mc_eval.proofs.Parts.{fit_over, fits_from}
use Rattle.mc_eval.proofs.Trees.{each_shown, tree_ind}

-- What the laws of the crates below say.
pub record Known : Type 0 where
  pub spelled : (set : Charset) (text : List ℕ)
      → IsTrue (is_spelled set text) ↔ IsWellFormed set text
  pub typed : (c : Catalog) (columns aggregates : List Ty) (x : TypedExpr)
      → IsSound c columns aggregates x → IsTyOf c x.ty
  pub node : (c : Catalog) (columns aggregates : List Ty) (x : TypedExpr)
      → IsSound c columns aggregates x
      → IsSoundNode c columns aggregates x.ty (out-Node x.node)
  pub parts : (c : Catalog) (columns aggregates : List Ty) (x : TypedExpr)
      → IsSound c columns aggregates x
      → All (IsSound c columns aggregates) (node_parts (out-Node x.node))

constant_kept : Known → (type : Ty) (it : Value) → IsOfType type it × IsWithinLimit it
    → IsTrue (is_kept it)
constant_kept known type value.Null h = refl
constant_kept known type (value.Int number) h = refl
constant_kept known ty.Null (value.Str s text) h = absurd h.0
constant_kept known ty.Int (value.Str s text) h = absurd h.0
constant_kept known (ty.Str a) (value.Str s text) h =
    and_from (is_spelled s text) (nat_le (length text) greatest_string)
    ((known.spelled s text).1 h.0.1) (le-leb (length text) greatest_string h.1)

type_fit : (c : Catalog) (type : Ty) → IsTyOf c type → IsTrue (type_fits (length c.collations) type)
type_fit c ty.Null h = refl
type_fit c ty.Int h = refl
type_fit c (ty.Str a) h = lt-ltb a.collation.0 (length c.collations) h.within

compared_by : (c : Catalog) (coll : Option CollId) (xs : List TypedExpr) → AreComparedBy c coll xs
    → IsTrue (is_in_book (length c.collations) coll)
compared_by c None xs h = absurd h
compared_by c (Some id) xs h = lt-ltb id.0 (length c.collations) h.0

compared_in : (c : Catalog) (coll : Option CollId) (xs : List TypedExpr) → AreCompared c coll xs
    → IsTrue (is_in_book (length c.collations) coll)
compared_in c None xs h = refl
compared_in c (Some id) xs h = lt-ltb id.0 (length c.collations) h.0

together_fit : (c : Catalog) (uses : Option Operand) → IsTogether c uses
    → IsTrue (uses_fit (length c.collations) uses)
together_fit c None h = absurd h
together_fit c (Some a) h = lt-ltb a.collation.0 (length c.collations) h.within

none_fit : (c : Catalog) (uses : Option Operand) → uses ≡ None
    → IsTrue (uses_fit (length c.collations) uses)
none_fit c uses h = ap (uses_fit (length c.collations)) h

call_fit : (c : Catalog) (name : Func) (uses : Option Operand) (type : Ty)
    → IsResult c name uses type → IsTrue (uses_fit (length c.collations) uses)
call_fit c func.CharLength uses type h = none_fit c uses h.0
call_fit c func.Length uses type h = none_fit c uses h.0
call_fit c func.Mod uses type h = none_fit c uses h.0
call_fit c func.Hex uses type h = none_fit c uses h.0
call_fit c func.Strcmp uses type h = together_fit c uses h.0
call_fit c _ uses type h = together_fit c uses h.0

node_fit : Known → (c : Catalog) (columns aggregates : List Ty) (type : Ty)
    (node : Node-F Node TypedExpr) → IsSoundNode c columns aggregates type node
    → IsTrue (itself_fits (length c.collations) node)
node_fit known c columns aggregates type (Node-F.Const it) h = constant_kept known type it h
node_fit known c columns aggregates type (Node-F.Compare op coll xs) h = compared_in c coll xs h.2
node_fit known c columns aggregates type (Node-F.Like coll xs escape negated) h =
    compared_by c coll xs h.2
node_fit known c columns aggregates type (Node-F.In coll xs negated) h = compared_in c coll xs h.2
node_fit known c columns aggregates type (Node-F.Between coll xs negated) h =
    compared_in c coll xs h.2
node_fit known c columns aggregates type (Node-F.Call name uses xs) h =
    call_fit c name uses type h.result
node_fit known c columns aggregates type _ h = refl

operands_over : (n : ℕ) (node : Node-F Node TypedExpr)
    → operands (fit_over n node) ≡ map (fits n) (node_parts node)
operands_over n (Node-F.Aggregate name distinct None place) = refl
operands_over n (Node-F.Aggregate name distinct (Some x) place) = refl
operands_over n _ = refl

all_true : (n : ℕ) (xs : List TypedExpr) → AllByRecursion (λ x. IsTrue (fits n x)) xs
    → list_all (λ x. x) (map (fits n) xs) ≡ true
all_true n [] h = refl
all_true n (x ∷ xs) h =
    and_from (fits n x) (list_all (λ b. b) (map (fits n) xs)) h.0 (all_true n xs h.1)

pub sound_fits : Known → (c : Catalog) (columns aggregates : List Ty) (x : TypedExpr)
    → IsSound c columns aggregates x → IsTrue (fits (length c.collations) x)
sound_fits known c columns aggregates = tree_ind
    (λ x. IsSound c columns aggregates x → IsTrue (fits (length c.collations) x)) (λ x parts h.
    let n = length c.collations in
    let node = out-Node x.node in
    let sound = recursion_from_All (IsSound c columns aggregates) (node_parts node)
    (known.parts c columns aggregates x h) in
    fits_from n x (type_fit c x.ty (known.typed c columns aggregates x h))
    (node_fit known c columns aggregates x.ty node (known.node c columns aggregates x h))
    (ap (list_all (λ b. b)) (operands_over n node) ∙ all_true n (node_parts node)
    (each_shown (IsSound c columns aggregates) (λ e. IsTrue (fits n e)) (node_parts node) parts
    sound)))

pub all_fit : Known → (c : Catalog) (columns aggregates : List Ty) (xs : List TypedExpr)
    → All (IsSound c columns aggregates) xs → All (λ x. IsTrue (fits (length c.collations) x)) xs
all_fit known c columns aggregates xs h =
    All-from_recursion (λ x. IsTrue (fits (length c.collations) x)) xs
    (each_shown (IsSound c columns aggregates) (λ x. IsTrue (fits (length c.collations) x)) xs
    (each xs) (recursion_from_All (IsSound c columns aggregates) xs h))
  where
    each : (ys : List TypedExpr)
        → AllByRecursion (λ x. IsSound c columns aggregates x
        → IsTrue (fits (length c.collations) x)) ys
    each [] = tt
    each (y ∷ ys) = (sound_fits known c columns aggregates y, each ys)
