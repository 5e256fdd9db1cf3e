-- Operators over sound operands are sound.
use Rattle.std.proofs.Common.{◌≡◌, ℕ, ◌<◌, Bool, true, false, cond, List, Option}
use Rattle.std.proofs.Common.{None, Some, length, refl, sym, subst, arith}
use Rattle.std.specs.Prelude.{IfOk, Result, Ok, Err, ◌||◌, not, codes}
use Rattle.std.specs.List.{AllByRecursion}
use Rattle.mc_base.specs.Results.{result_and_then}
use Rattle.mc_base.specs.declared.refusal.Refusal.{Refusal}
use Rattle.mc_charset.specs.Names.{same_set, set_named}
use Rattle.mc_charset.specs.declared.charset.Charset.{Charset}
use Rattle.mc_charset.specs.declared.charset.Charset.TheVariants.{Binary}
use Rattle.mc_charset.specs.declared.collation_id.CollId.{CollId}
use Rattle.mc_convert.specs.declared.repertoire.Repertoire.{Repertoire}
use Rattle.mc_convert.specs.declared.repertoire.Repertoire.TheVariants.{Ascii, Bytes}
use Rattle.mc_coerce.specs.Aggregate.{aggregate}
use Rattle.mc_coerce.specs.Levels.{coercible, explicit, implicit}
use Rattle.mc_coerce.specs.Operand.{AreOperands}
use Rattle.mc_coerce.specs.declared.operand.Agg.{Agg}
use Rattle.mc_coerce.specs.declared.operand.Agg.TheVariants.{Uses, Mix}
use Rattle.mc_coerce.specs.declared.operand.Operand.{Operand}
use Rattle.mc_coerce.specs.declared.operand.Purpose.{Purpose}
use Rattle.mc_coerce.specs.declared.operand.Purpose.TheVariants.{Compare as ToCompare}
use Rattle.mc_ast.specs.declared.operators.Cut.{Cut}
use Rattle.mc_catalog.specs.LookUp.{collation_set, number_of}
use Rattle.mc_catalog.specs.declared.catalog.Catalog.{Catalog}
use Rattle.mc_typing.specs.declared.scope.Scope.{Scope}
use Rattle.mc_typing.specs.declared.typed.Node.{Node, Node-F, roll-Node}
use Rattle.mc_typing.specs.declared.typed.Node.TheVariants as node
use Rattle.mc_typing.specs.declared.typed.Ty.{Ty}
use Rattle.mc_typing.specs.declared.typed.Ty.TheVariants.{Null, Int, Str}
use Rattle.mc_typing.specs.declared.typed.TypedExpr.{TypedExpr}
use Rattle.mc_typing.specs.Calls.{is_cut, weights}
use Rattle.mc_typing.specs.Exprs.{usual_id}
use Rattle.mc_typing.specs.Messages.{mix, no_collation, no_set, other_set, wrong_argument}
use Rattle.mc_typing.specs.OfType.{IsNumeric, IsTextual, KeepsSet}
use Rattle.mc_typing.specs.Operands.{IsTextOf, is_null, is_number, is_text, of_collation}
use Rattle.mc_typing.specs.Operands.{text_operand, text_operands}
use Rattle.mc_typing.specs.Operators.{class_after, collated, collated_as, collated_by, collated_if}
use Rattle.mc_typing.specs.Operators.{compared, compared_by, comparison, converted}
use Rattle.mc_typing.specs.Operators.{converted_by_name, escape_of, like, need_number, need_numbers}
use Rattle.mc_typing.specs.Operators.{number_expr, of_numbers, of_one_number, some_number}
use Rattle.mc_typing.specs.Operators.{some_text, together, used}
use Rattle.mc_typing.specs.Parts.{node_parts}
use Rattle.mc_typing.specs.Scope.{IsScope, connection_set}
use Rattle.mc_typing.specs.Sound.{AreCompared, AreNumeric, AreTextual, IsSoundNode}
use Rattle.mc_typing.specs.SoundStatements.{row_types}
use Rattle.mc_typing.proofs.Known.{Known}
use Rattle.mc_typing.proofs.Sound.{result_sound, texts_sound}
use Rattle.mc_typing.proofs.SoundOperands.{either, numeric_all, numeric_ty, or_left, or_right}
use Rattle.mc_typing.proofs.SoundOperands.{textual, textual_all, then, typed_all}
use Rattle.mc_typing.proofs.SoundTexts.{chosen, of_collation_sound}
use Rattle.mc_typing.proofs.SoundTrees.{IsFine, fine_made}
use Rattle.mc_typing.proofs.Usual.{IsOfSet, bin_of_set, number_within, usual_of_set}

not_false : (b : Bool) → not b ≡ false → b ≡ true
not_false true e = refl
not_false false e = absurd (cc)

always : {A E : Type 0} (r : Result A E) → IfOk r (λ _. Unit {0})
always (Ok a) = tt
always (Err e) = tt

used_sound : (c : Catalog) (refusal : Refusal) (agg : Agg)
    → ((a : Operand) → agg ≡ Uses a → IsTextOf c a) → IfOk (used refusal agg) (IsTextOf c)
used_sound c refusal (Uses a) k = k a refl
used_sound c refusal Mix k = tt

module _ (known : Known) (c : Catalog) (s : Scope) (scope : IsScope c s)
    (aggregates : List Ty) where
  abbrev Sound : TypedExpr → Type 0
  Sound x = IsFine c (row_types c s.table) aggregates x

  -- An operation that gives a number
  pub number_sound : (l : Node-F Node TypedExpr) (n : Node) → roll-Node l ≡ n
      → IsSoundNode c (row_types c s.table) aggregates Int l → AllByRecursion Sound (node_parts l)
      → Sound (number_expr n)
  number_sound l n e h parts = subst (λ (m : Node). Sound (record { node = m; ty = Int })) e
      (fine_made c (row_types c s.table) aggregates l Int tt h parts)

  pub of_numbers_sound : (op : List ℕ) (n : Node) (xs : List TypedExpr)
      → (AreNumeric xs → Sound (number_expr n)) → IfOk (of_numbers op n xs) Sound
  of_numbers_sound op n xs k =
      then (λ _. AreNumeric xs) Sound (need_numbers op xs) (λ _. Ok (number_expr n))
      (either (λ _. AreNumeric xs) (some_text xs) (Err (wrong_argument op)) (Ok tt)
      (λ e. tt) (λ e. numeric_all xs e))
      (λ _ numbers. k numbers)

  pub of_one_sound : (op : List ℕ) (n : Node) (x : TypedExpr)
      → (IsNumeric x.ty → Sound (number_expr n)) → IfOk (of_one_number op n x) Sound
  of_one_sound op n x k =
      then (λ _. IsNumeric x.ty) Sound (need_number op x) (λ _. Ok (number_expr n))
      (either (λ _. IsNumeric x.ty) (is_text x.ty) (Err (wrong_argument op)) (Ok tt)
      (λ e. tt) (λ e. numeric_ty x.ty e))
      (λ _ number. k number)

  -- What texts have together
  pub together_sound : (op : List ℕ) (purpose : Purpose) (xs : List TypedExpr)
      → AllByRecursion Sound xs → IfOk (together c op purpose xs) (IsTextOf c)
  together_sound op purpose xs h =
      used_sound c (mix c op (text_operands xs)) (aggregate (text_operands xs) purpose) (λ a made.
      let list = text_operands xs in
      let all = texts_sound c xs scope.lawful (typed_all c s scope aggregates xs h) in
      let are : AreOperands list =
      known.by_sets list (λ n. collation_set c.collations n)
      (λ k d e. (all k d e).lawful) (λ k d e. (all k d e).set) in
      result_sound c list a scope.lawful all (known.operand list purpose a are made)
      (known.collation list purpose a made))

  abbrev IsWithin : CollId → Type 0
  IsWithin id = id.0 < length c.collations

  pub compared_by_sound : (op : List ℕ) (xs : List TypedExpr) → AllByRecursion Sound xs
      → IfOk (compared_by c op xs) IsWithin
  compared_by_sound op xs h = then (IsTextOf c) IsWithin (together c op ToCompare xs)
      (λ a. Ok a.collation) (together_sound op ToCompare xs h) (λ a k. k.within)

  comparison_sound : (op : List ℕ) (xs : List TypedExpr) → AllByRecursion Sound xs
      → IfOk (comparison c op xs) (λ coll. AreCompared c coll xs)
  comparison_sound op xs h =
      either (λ coll. AreCompared c coll xs) (some_text xs)
      (cond (some_number xs) (Err (wrong_argument op))
      (result_and_then (λ coll. Ok (Some coll)) (compared_by c op xs))) (Ok None)
      (λ _. either (λ coll. AreCompared c coll xs) (some_number xs) (Err (wrong_argument op))
      (result_and_then (λ coll. Ok (Some coll)) (compared_by c op xs))
      (λ _. tt)
      (λ e. then IsWithin (λ coll. AreCompared c coll xs) (compared_by c op xs)
      (λ coll. Ok (Some coll)) (compared_by_sound op xs h)
      (λ id within. (within, textual_all xs e))))
      (λ e. numeric_all xs e)

  pub compared_sound : (op : List ℕ) (n : Option CollId → Node) (xs : List TypedExpr)
      → AllByRecursion Sound xs
      → ((coll : Option CollId) → AreCompared c coll xs → Sound (number_expr (n coll)))
      → IfOk (compared c op n xs) Sound
  compared_sound op n xs h k = then (λ coll. AreCompared c coll xs) Sound (comparison c op xs)
      (λ coll. Ok (number_expr (n coll))) (comparison_sound op xs h) k

  pub like_sound : (escape : Option (List ℕ)) (negated : Bool) (xs : List TypedExpr)
      → AllByRecursion Sound xs → AreTextual xs → length xs ≡ 2
      → IfOk (like c escape negated xs) Sound
  like_sound escape negated xs h texts two =
      then (λ _. Unit {0}) Sound (escape_of escape)
      (λ e. result_and_then (λ coll. Ok (number_expr (node.Like (Some coll) xs e negated)))
      (compared_by c (codes "like") xs))
      (always (escape_of escape))
      (λ e _. then IsWithin Sound (compared_by c (codes "like") xs)
      (λ coll. Ok (number_expr (node.Like (Some coll) xs e negated)))
      (compared_by_sound (codes "like") xs h)
      (λ coll within. number_sound (Node-F.Like (Some coll) xs e negated)
      (node.Like (Some coll) xs e negated) (node.rolls-Like (Some coll) xs e negated)
      (refl, two, (within, texts)) h))

  -- Conversions
  converted_sound : (own : Charset) (id : CollId) (x : TypedExpr) → IsOfSet c own id.0 → Sound x
      → IsTextual x.ty → Sound (converted own id x)
  converted_sound own id x of h text =
      let ty : Ty = Str (of_collation own id implicit (class_after own (text_operand x.ty))) in
      subst (λ (n : Node). Sound (record { node = n; ty = ty })) (node.rolls-Convert own x)
      (fine_made c (row_types c s.table) aggregates (Node-F.Convert own x) ty
      (of_collation_sound c own id implicit (class_after own (text_operand x.ty)) (omega arith) of)
      (text, refl) (h, tt))

  pub to_connection_sound : (x : TypedExpr) → Sound x → IsTextual x.ty
      → Sound (converted (connection_set c s) s.connection x)
  to_connection_sound x h text =
      converted_sound (connection_set c s) s.connection x (scope.connection, refl) h text

  pub to_binary_sound : (x : TypedExpr) → Sound x → IsTextual x.ty
      → Sound (converted Binary (record { 0 = 0 }) x)
  to_binary_sound x h text =
      converted_sound Binary (record { 0 = 0 }) x (bin_of_set c Binary scope.lawful) h text

  pub converted_by_name_sound : (name : List ℕ) (x : TypedExpr) → Sound x → IsTextual x.ty
      → IfOk (converted_by_name c (usual_id c) name x) Sound
  converted_by_name_sound name x h text = chosen Sound (set_named name)
      (λ own. Ok (converted own (usual_id c own) x)) (Err (no_set name))
      (λ own e. converted_sound own (usual_id c own) x (usual_of_set known.named c own scope.lawful)
      h text) tt

  -- COLLATE
  collated_as_sound : (own : Charset) (id : CollId) (class : Repertoire) (x : TypedExpr)
      → IsOfSet c own id.0 → KeepsSet x.ty (Str (of_collation own id explicit class)) → Sound x
      → Sound (collated_as own id class x)
  collated_as_sound own id class x of keeps h =
      let ty : Ty = Str (of_collation own id explicit class) in
      subst (λ (n : Node). Sound (record { node = n; ty = ty })) (node.rolls-Collate x)
      (fine_made c (row_types c s.table) aggregates (Node-F.Collate x) ty
      (of_collation_sound c own id explicit class (omega arith) of) keeps (h, tt))

  by_type : (name : List ℕ) (id : CollId) (x : TypedExpr) (ty : Ty) → x.ty ≡ ty → IsTextual ty
      → id.0 < length c.collations → Sound x
      → IfOk (cond (is_null ty) (Ok (collated_as (collation_set c.collations id.0) id Ascii x))
      (collated_if c name id (text_operand ty) x)) Sound
  by_type name id x Null e text within h =
      collated_as_sound (collation_set c.collations id.0) id Ascii x (within, refl)
      (subst (λ (t : Ty). KeepsSet t (Str (of_collation (collation_set c.collations id.0) id
      explicit Ascii))) (sym e) tt) h
  by_type name id x Int e text within h = absurd text
  by_type name id x (Str a) e text within h =
      either Sound (same_set (collation_set c.collations id.0) a.charset)
      (Ok (collated_as a.charset id a.repertoire x)) (Err (other_set name a.charset))
      (λ same. collated_as_sound a.charset id a.repertoire x
      (within, sym ((known.named (collation_set c.collations id.0) a.charset).0 same))
      (subst (λ (t : Ty). KeepsSet t (Str (of_collation a.charset id explicit a.repertoire)))
      (sym e) refl) h)
      (λ _. tt)

  pub collated_sound : (name : List ℕ) (x : TypedExpr) → Sound x → IsTextual x.ty
      → IfOk (collated c name x) Sound
  collated_sound name x h text = chosen Sound (number_of c.collations name)
      (λ number. collated_by c name (record { 0 = number }) x) (Err (no_collation name))
      (λ number e. by_type name (record { 0 = number }) x x.ty refl text
      (number_within c.collations name number e) h)
      tt

  -- WEIGHT_STRING
  pub weights_sound : (cut : Option Cut) (x : TypedExpr) → Sound x → IfOk (weights cut x) Sound
  weights_sound cut x h =
      let ty : Ty = Str (of_collation Binary (record { 0 = 0 }) coercible Bytes) in
      either Sound (is_number x.ty || not (is_cut cut))
      (Err (wrong_argument (codes "weight_string")))
      (Ok (record { node = node.WeightString cut x; ty = ty }))
      (λ _. tt)
      (λ e. subst (λ (n : Node). Sound (record { node = n; ty = ty }))
      (node.rolls-WeightString cut x)
      (fine_made c (row_types c s.table) aggregates (Node-F.WeightString cut x) ty
      (of_collation_sound c Binary (record { 0 = 0 }) coercible Bytes (omega arith)
      (bin_of_set c Binary scope.lawful)) (
        not_false (is_cut cut) (or_right (is_number x.ty) (not (is_cut cut)) e),
        textual x.ty (or_left (is_number x.ty) (not (is_cut cut)) e),
        refl,
      )
      (h, tt)))
