-- What comes of a sound expression is of its type.
use Rattle.std.proofs.Common.{◌≡◌, List, map, refl, sym, subst}
use Rattle.std.specs.Prelude.{slice_get}
use Rattle.std.proofs.lemmas.List.Elements.{recursion_from_All}
use Rattle.std.specs.List.{AllByRecursion}
use Rattle.mc_catalog.specs.declared.catalog.Catalog.{Catalog}
use Rattle.mc_typing.specs.OfType.{IsRowOf}
use Rattle.mc_typing.specs.Parts.{node_parts}
use Rattle.mc_typing.specs.Sound.{IsSound, IsSoundNode}
use Rattle.mc_typing.specs.declared.typed.Node.{Node, Node-F, out-Node}
use Rattle.mc_typing.specs.declared.typed.Ty.{Ty}
use Rattle.mc_typing.specs.declared.typed.Ty.TheVariants as ty
use Rattle.mc_typing.specs.declared.typed.TypedExpr.{TypedExpr}
use Rattle.mc_values.specs.declared.value.Value.{Value}
use Rattle.mc_eval.specs.Arithmetic.{arithmetic, negative, on_numbers}
use Rattle.mc_eval.specs.Comparisons.{compared}
use Rattle.mc_eval.specs.Functions.{called, converted_to, number_text}
use Rattle.mc_eval.specs.Matches.{liked}
use Rattle.mc_eval.specs.Node.{Place, among, between, node_value, of_pair, outcomes, truths}
use Rattle.mc_eval.specs.Node.{xor}
use Rattle.mc_eval.specs.Outcomes.{Outcome, of_all, of_one}
use Rattle.mc_eval.specs.Outcomes.Outcome.{gives}
use Rattle.mc_eval.specs.Texts.{is_null}
use Rattle.mc_eval.specs.Truths.{all_of, any_of, known, opposite, told, truth, turned}
use Rattle.mc_eval.specs.Typed.{GivesType}
use Rattle.mc_eval.specs.Value.{value, valued}
use Rattle.mc_eval.specs.Weights.{weighed}
use Rattle.mc_eval.specs.declared.truth.Truth.{Truth}
use Rattle.mc_eval.proofs.FunctionTypes.{called_type, converted_type, number_text_type}
use Rattle.mc_eval.proofs.FunctionTypes.{weighed_type}
use Rattle.mc_eval.proofs.Parts.{over, value_is}
use Rattle.mc_eval.proofs.SoundFits.{Known}
use Rattle.mc_eval.proofs.Trees.{each_shown, tree_ind}
use Rattle.mc_eval.proofs.Types.{all_type, as_int, at_type, keeps_outcome, of_type}
use Rattle.mc_eval.proofs.Types.{negative_int, numbers_int, one_type, pair_type, told_int, xor_int}

abbrev IsGood : Place → TypedExpr → Type 0
IsGood p x = GivesType x.ty (value p x)

as_truth : (type : Ty) (t : Truth) → type ≡ ty.Int → GivesType type (told t)
as_truth type t e = as_int type (told t) e (told_int t)

module _ (c : Catalog) (columns aggregates : List Ty) (p : Place) (type : Ty) where
  abbrev IsSoundOf : Node-F Node TypedExpr → Type 0
  IsSoundOf node = IsSoundNode c columns aggregates type node

  abbrev GivesIt : Node-F Node TypedExpr → Type 0
  GivesIt node = GivesType type (node_value p (over p node) type)

  pairs_type : (f : Value → Value → Outcome) (xs : List TypedExpr) → type ≡ ty.Int
      → ((a b : Value) → GivesType ty.Int (f a b)) → GivesType type (of_pair f (map (valued p) xs))
  pairs_type f xs e h = as_int type (of_pair f (map (valued p) xs)) e
      (pair_type ty.Int f (map (valued p) xs) h)

  node_type : (node : Node-F Node TypedExpr) → IsRowOf columns p.row
      → IsRowOf aggregates p.aggregates → IsSoundOf node
      → AllByRecursion (IsGood p) (node_parts node) → GivesIt node
  node_type (Node-F.Const it) row rest h parts = of_type type it h.0
  node_type (Node-F.Column place) row rest h parts =
      at_type type (slice_get p.row place) (row place type h)
  node_type (Node-F.Collate x) row rest h parts = keeps_outcome x.ty type h (value p x) parts.0
  node_type (Node-F.Compare op coll xs) row rest h parts =
      pairs_type (λ a b. told (compared p.meaning coll op a b)) xs h.0
      (λ a b. told_int (compared p.meaning coll op a b))
  node_type (Node-F.Like coll xs escape negated) row rest h parts =
      pairs_type (λ a b. told (turned negated (liked p.meaning coll escape a b))) xs h.0
      (λ a b. told_int (turned negated (liked p.meaning coll escape a b)))
  node_type (Node-F.In coll xs negated) row rest h parts =
      let f : List Value → Outcome =
      λ values. told (turned negated (among p.meaning coll values)) in
      let os = outcomes (map (valued p) xs) in
      as_int type (of_all f os) h.0
      (all_type ty.Int f os (λ values. told_int (turned negated (among p.meaning coll values))))
  node_type (Node-F.Between coll xs negated) row rest h parts =
      as_truth type (turned negated (between p.meaning coll (map (valued p) xs))) h.0
  node_type (Node-F.IsNull x negated) row rest h parts =
      let f : Value → Outcome = λ it. told (turned negated (known (is_null it))) in
      as_int type (of_one f (value p x)) h
      (one_type ty.Int f (value p x) (λ it. told_int (turned negated (known (is_null it)))))
  node_type (Node-F.Not x) row rest h parts =
      as_truth type (opposite (truth (value p x))) h.0
  node_type (Node-F.Neg x) row rest h parts = as_int type (of_one negative (value p x)) h.0
      (one_type ty.Int negative (value p x) negative_int)
  node_type (Node-F.And xs) row rest h parts =
      as_truth type (all_of (truths (map (valued p) xs))) h.0
  node_type (Node-F.Or xs) row rest h parts =
      as_truth type (any_of (truths (map (valued p) xs))) h.0
  node_type (Node-F.Xor xs) row rest h parts =
      as_int type (xor (map (valued p) xs)) h.0 (xor_int (map (valued p) xs))
  node_type (Node-F.Arith op xs) row rest h parts =
      pairs_type (on_numbers (arithmetic op)) xs h.0 (numbers_int op)
  node_type (Node-F.Call name uses xs) row rest h parts =
      all_type type (λ values. gives (called p.meaning name uses type values))
      (outcomes (map (valued p) xs))
      (λ values. called_type c p.meaning name uses type h.result values)
  node_type (Node-F.NumberText set x) row rest h parts =
      one_type type (λ it. gives (number_text set it)) (value p x)
      (λ it. number_text_type set type h.1 it)
  node_type (Node-F.Convert set x) row rest h parts =
      one_type type (λ it. gives (converted_to set it)) (value p x)
      (λ it. converted_type set type h.1 it)
  node_type (Node-F.Aggregate name distinct x place) row rest h parts =
      at_type type (slice_get p.aggregates place) (rest place type h.0)
  node_type (Node-F.WeightString cut x) row rest h parts =
      one_type type (λ it. gives (weighed p.meaning cut (valued p x).ty it)) (value p x)
      (λ it. weighed_type p.meaning cut (valued p x).ty type h.2 it)

pub value_type : Known → (c : Catalog) (columns aggregates : List Ty) (p : Place) (x : TypedExpr)
    → IsSound c columns aggregates x → IsRowOf columns p.row → IsRowOf aggregates p.aggregates
    → GivesType x.ty (value p x)
value_type known c columns aggregates p x sound row rest = tree_ind
    (λ e. IsSound c columns aggregates e → IsGood p e) (λ e parts h.
    subst (GivesType e.ty) (sym (value_is p e (out-Node e.node) refl))
    (node_type c columns aggregates p e.ty (out-Node e.node) row rest
    (known.node c columns aggregates e h)
    (each_shown (IsSound c columns aggregates) (IsGood p) (node_parts (out-Node e.node)) parts
    (recursion_from_All (IsSound c columns aggregates) (node_parts (out-Node e.node))
    (known.parts c columns aggregates e h))))) x sound
