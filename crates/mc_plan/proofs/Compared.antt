-- A comparison with a constant that the column's value does not meet.
use Rattle.std.proofs.Common.{◌≡◌, ℕ, List, [], ◌∷◌, Some, None, refl, sym, ap, subst, ◌∙◌}
use Rattle.std.specs.Prelude.{Option}
use Rattle.std.specs.Cmp.{IsTotalOrder}
use Rattle.std.specs.Option.{option_map_or}
use Rattle.std.specs.Ordering.{is_ge, is_le, ordering_reverse}
use Rattle.std.specs.declared.cmp.Ordering.{Ordering}
use Rattle.std.specs.declared.cmp.Ordering.TheVariants.{Less, Equal, Greater}
use Rattle.mc_ast.specs.declared.operators.CmpOp.{CmpOp}
use Rattle.mc_ast.specs.declared.operators.CmpOp.TheVariants as op
use Rattle.mc_charset.specs.Chars.{chars, IsWellFormed}
use Rattle.mc_charset.specs.declared.charset.Charset.{Charset}
use Rattle.mc_charset.specs.declared.collation_id.CollId.{CollId}
use Rattle.mc_convert.specs.Conversion.{converted_text}
use Rattle.mc_like.specs.Items.{items_of}
use Rattle.mc_like.specs.Laws.{LikeIsAnswered}
use Rattle.mc_like.specs.Like.{is_like}
use Rattle.mc_order.specs.Meaning.{Meaning, flat_list}
use Rattle.mc_order.specs.Order.{list_order}
use Rattle.mc_order.specs.declared.pad.Pad.{Pad}
use Rattle.mc_range.specs.declared.condition.Cell.{Cell}
use Rattle.mc_range.specs.declared.condition.Cell.TheVariants.{Str}
use Rattle.mc_range.specs.declared.condition.Cond.{Cond}
use Rattle.mc_range.specs.declared.condition.Cond.TheVariants as cond
use Rattle.mc_values.specs.declared.value.Value.{Value}
use Rattle.mc_values.specs.declared.value.Value.TheVariants as value
use Rattle.mc_eval.specs.Acceptance.{firm}
use Rattle.mc_eval.specs.Comparisons.{compared, holds, text_order, usual, value_order}
use Rattle.mc_eval.specs.Matches.{liked}
use Rattle.mc_eval.specs.Truths.{all_of, known}
use Rattle.mc_eval.specs.declared.truth.Truth.TheVariants.{Unknown}
use Rattle.mc_plan.specs.Conds.{mirrored, op_cond}
use Rattle.mc_plan.specs.Constants.{cell_in}
use Rattle.mc_plan.specs.Rejects.{IsMetBy, IsOfSet}
use Rattle.mc_plan.proofs.Truths.{Rejects, not_true, not_eq, not_lt, not_le, not_gt, not_ge}
use Rattle.mc_plan.proofs.Truths.{left_unknown, right_unknown, not_within}

-- What is used of the layers below.
pub record Laws : Type 0 where
  -- a text keeps its bytes in its own set
  pub own_set : (set : Charset) (text : List ℕ) → IsWellFormed set text
      → converted_text set set text ≡ text
  pub total : (pad : Pad) (space : ℕ) → IsTotalOrder (list_order pad space)
  pub answered : (m : Meaning) → LikeIsAnswered m

module _ (laws : Laws) (meaning : ℕ → Meaning) (coll : CollId) where
  abbrev m : Meaning
  m = meaning coll.0

  -- the list of a text of the set
  abbrev of_text : List ℕ → List ℕ
  of_text text = flat_list m (chars m.charset text)

  -- the order of the column's text and of a constant
  abbrev order : List ℕ → List ℕ → Ordering
  order text other = list_order m.pad m.space (of_text text) (of_text other)

  own : (set : Charset) (text : List ℕ) → (set ≡ m.charset) × IsWellFormed m.charset text
      → converted_text set m.charset text ≡ text
  own set text h = subst (λ from. converted_text from m.charset text ≡ text) (sym h.0)
      (laws.own_set m.charset text h.1)

  ordered : (set : Charset) (text : List ℕ) (from : Charset) (other : List ℕ)
      → (set ≡ m.charset) × IsWellFormed m.charset text
      → text_order m (value.Str set text) (value.Str from other)
      ≡ order text (converted_text from m.charset other)
  ordered set text from other h = ap (λ t. order t (converted_text from m.charset other))
      (own set text h)

  -- the constant of the condition
  abbrev constant : Charset → List ℕ → List ℕ
  constant from other = converted_text from m.charset other

  turned : (set : Charset) (text : List ℕ) (from : Charset) (other : List ℕ)
      → (set ≡ m.charset) × IsWellFormed m.charset text
      → text_order m (value.Str from other) (value.Str set text)
      ≡ ordering_reverse (order text (constant from other))
  turned set text from other h =
      ap (λ t. order (constant from other) t) (own set text h)
      ∙ (laws.total m.pad m.space).antisymm (of_text (constant from other)) (of_text text)

  mirrored_holds : (op : CmpOp) (o : Ordering)
      → holds op (ordering_reverse o) ≡ holds (mirrored op) o
  mirrored_holds op.Eq Less = refl
  mirrored_holds op.Eq Equal = refl
  mirrored_holds op.Eq Greater = refl
  mirrored_holds op.NullEq Less = refl
  mirrored_holds op.NullEq Equal = refl
  mirrored_holds op.NullEq Greater = refl
  mirrored_holds op.Ne Less = refl
  mirrored_holds op.Ne Equal = refl
  mirrored_holds op.Ne Greater = refl
  mirrored_holds op.Lt Less = refl
  mirrored_holds op.Lt Equal = refl
  mirrored_holds op.Lt Greater = refl
  mirrored_holds op.Le Less = refl
  mirrored_holds op.Le Equal = refl
  mirrored_holds op.Le Greater = refl
  mirrored_holds op.Gt Less = refl
  mirrored_holds op.Gt Equal = refl
  mirrored_holds op.Gt Greater = refl
  mirrored_holds op.Ge Less = refl
  mirrored_holds op.Ge Equal = refl
  mirrored_holds op.Ge Greater = refl

  at_texts : (op : CmpOp) (it : Cond) (set : Charset) (text other : List ℕ)
      → op_cond op (Str other) ≡ Some it → (IsMetBy m it (value.Str set text) → ⊥)
      → Rejects (known (holds op (order text other)))
  at_texts op.Eq it set text other f n =
      let is : it ≡ cond.Eq (Str other) = cc in
      not_eq (order text other) (subst (λ i. IsMetBy m i (value.Str set text) → ⊥) is n)
  at_texts op.NullEq it set text other f n = absurd (cc)
  at_texts op.Ne it set text other f n = absurd (cc)
  at_texts op.Lt it set text other f n =
      let is : it ≡ cond.AtMost (Str other) = cc in
      not_lt (order text other) (subst (λ i. IsMetBy m i (value.Str set text) → ⊥) is n)
  at_texts op.Le it set text other f n =
      let is : it ≡ cond.AtMost (Str other) = cc in
      not_le (order text other) (subst (λ i. IsMetBy m i (value.Str set text) → ⊥) is n)
  at_texts op.Gt it set text other f n =
      let is : it ≡ cond.AtLeast (Str other) = cc in
      not_gt (order text other) (subst (λ i. IsMetBy m i (value.Str set text) → ⊥) is n)
  at_texts op.Ge it set text other f n =
      let is : it ≡ cond.AtLeast (Str other) = cc in
      not_ge (order text other) (subst (λ i. IsMetBy m i (value.Str set text) → ⊥) is n)

  -- What the comparison is, where it makes a condition.
  of_usual : (op : CmpOp) (a b : Value) (c : Cell) (it : Cond) → op_cond op c ≡ Some it
      → Rejects (usual meaning (Some coll) op a b) → Rejects (compared meaning (Some coll) op a b)
  of_usual op.Eq a b c it f r = r
  of_usual op.NullEq a b c it f r = absurd (cc)
  of_usual op.Ne a b c it f r = absurd (cc)
  of_usual op.Lt a b c it f r = r
  of_usual op.Le a b c it f r = r
  of_usual op.Gt a b c it f r = r
  of_usual op.Ge a b c it f r = r

  of_usual_turned : (op : CmpOp) (a b : Value) (c : Cell) (it : Cond)
      → op_cond (mirrored op) c ≡ Some it → Rejects (usual meaning (Some coll) op a b)
      → Rejects (compared meaning (Some coll) op a b)
  of_usual_turned op.Eq a b c it f r = r
  of_usual_turned op.NullEq a b c it f r = absurd (cc)
  of_usual_turned op.Ne a b c it f r = absurd (cc)
  of_usual_turned op.Lt a b c it f r = r
  of_usual_turned op.Le a b c it f r = r
  of_usual_turned op.Gt a b c it f r = r
  of_usual_turned op.Ge a b c it f r = r

  usual_left : (op : CmpOp) (x v : Value) (c : Cell) (it : Cond) → IsOfSet m.charset x
      → cell_in m.charset v ≡ Some c → op_cond op c ≡ Some it → (IsMetBy m it x → ⊥)
      → Rejects (usual meaning (Some coll) op x v)
  usual_left op value.Null v c it h e f n = refl
  usual_left op (value.Int number) v c it h e f n = absurd h
  usual_left op (value.Str set text) value.Null c it h e f n = refl
  usual_left op (value.Str set text) (value.Int number) c it h e f n = absurd (cc)
  usual_left op (value.Str set text) (value.Str from other) c it h e f n =
      let is : c ≡ Str (constant from other) = cc in
      let g : op_cond op (Str (constant from other)) ≡ Some it = ap (op_cond op) (sym is) ∙ f in
      subst (λ o. Rejects (known (holds op o))) (sym (ordered set text from other h))
      (at_texts op it set text (constant from other) g n)

  -- With the column on the left of an operator.
  pub left : (op : CmpOp) (x v : Value) (c : Cell) (it : Cond) → IsOfSet m.charset x
      → cell_in m.charset v ≡ Some c → op_cond op c ≡ Some it → (IsMetBy m it x → ⊥)
      → Rejects (compared meaning (Some coll) op x v)
  left op x v c it h e f n = of_usual op x v c it f (usual_left op x v c it h e f n)

  null_order : (v : Value) → value_order meaning (Some coll) v value.Null ≡ None
  null_order value.Null = refl
  null_order (value.Int number) = refl
  null_order (value.Str set text) = refl

  usual_right : (op : CmpOp) (x v : Value) (c : Cell) (it : Cond) → IsOfSet m.charset x
      → cell_in m.charset v ≡ Some c → op_cond (mirrored op) c ≡ Some it → (IsMetBy m it x → ⊥)
      → Rejects (usual meaning (Some coll) op v x)
  usual_right op value.Null v c it h e f n =
      ap (λ o. firm (option_map_or (λ r. known (holds op r)) o Unknown)) (null_order v)
  usual_right op (value.Int number) v c it h e f n = absurd h
  usual_right op (value.Str set text) value.Null c it h e f n = refl
  usual_right op (value.Str set text) (value.Int number) c it h e f n = absurd (cc)
  usual_right op (value.Str set text) (value.Str from other) c it h e f n =
      let is : c ≡ Str (constant from other) = cc in
      let g : op_cond (mirrored op) (Str (constant from other)) ≡ Some it =
      ap (op_cond (mirrored op)) (sym is) ∙ f in
      let same : holds op (text_order m (value.Str from other) (value.Str set text))
      ≡ holds (mirrored op) (order text (constant from other)) =
      ap (holds op) (turned set text from other h)
      ∙ mirrored_holds op (order text (constant from other)) in
      subst (λ b. Rejects (known b)) (sym same)
      (at_texts (mirrored op) it set text (constant from other) g n)

  -- With the column on its right.
  pub right : (op : CmpOp) (x v : Value) (c : Cell) (it : Cond) → IsOfSet m.charset x
      → cell_in m.charset v ≡ Some c → op_cond (mirrored op) c ≡ Some it → (IsMetBy m it x → ⊥)
      → Rejects (compared meaning (Some coll) op v x)
  right op x v c it h e f n = of_usual_turned op v x c it f (usual_right op x v c it h e f n)

  -- Between two constants.
  pub within : (x low high : Value) (lo hi : Cell) → IsOfSet m.charset x
      → cell_in m.charset low ≡ Some lo → cell_in m.charset high ≡ Some hi
      → (IsMetBy m (cond.Between lo hi) x → ⊥)
      → Rejects (all_of (compared meaning (Some coll) op.Ge x low
      ∷ compared meaning (Some coll) op.Le x high ∷ []))
  within value.Null low high lo hi h d e n = refl
  within (value.Int number) low high lo hi h d e n = absurd h
  within (value.Str set text) (value.Int number) high lo hi h d e n = absurd (cc)
  within (value.Str set text) value.Null (value.Int number) lo hi h d e n = absurd (cc)
  within (value.Str set text) value.Null value.Null lo hi h d e n = refl
  within (value.Str set text) value.Null (value.Str from other) lo hi h d e n =
      left_unknown (is_le (text_order m (value.Str set text) (value.Str from other)))
  within (value.Str set text) (value.Str from other) value.Null lo hi h d e n =
      right_unknown (is_ge (text_order m (value.Str set text) (value.Str from other)))
  within (value.Str set text) (value.Str from other) (value.Int number) lo hi h d e n = absurd (cc)
  within (value.Str set text) (value.Str from other) (value.Str of more) lo hi h d e n =
      let one : lo ≡ Str (constant from other) = cc in
      let two : hi ≡ Str (constant of more) = cc in
      let misses = subst (λ i. IsMetBy m (cond.Between i (Str (constant of more)))
      (value.Str set text) → ⊥) one
      (subst (λ i. IsMetBy m (cond.Between lo i) (value.Str set text) → ⊥) two n) in
      subst (λ o. Rejects (all_of (known (is_ge o) ∷ known (is_le
      (text_order m (value.Str set text) (value.Str of more))) ∷ [])))
      (sym (ordered set text from other h))
      (subst (λ o. Rejects (all_of (known (is_ge (order text (constant from other)))
      ∷ known (is_le o) ∷ []))) (sym (ordered set text of more h))
      (not_within (order text (constant from other)) (order text (constant of more)) misses))

  -- Like a pattern.
  pub like : (escape : Option ℕ) (x v : Value) (c : Cell) → IsOfSet m.charset x
      → cell_in m.charset v ≡ Some c → (IsMetBy m (cond.Like c escape) x → ⊥)
      → Rejects (liked meaning (Some coll) escape x v)
  like escape value.Null v c h e n = refl
  like escape (value.Int number) v c h e n = absurd h
  like escape (value.Str set text) value.Null c h e n = refl
  like escape (value.Str set text) (value.Int number) c h e n = absurd (cc)
  like escape (value.Str set text) (value.Str from other) c h e n =
      let is : c ≡ Str (constant from other) = cc in
      let items = items_of escape (chars m.charset (constant from other)) in
      let misses = subst (λ i. IsMetBy m (cond.Like i escape) (value.Str set text) → ⊥) is n in
      subst (λ t. Rejects (known (is_like m items (chars m.charset t)))) (sym (own set text h))
      (not_true (is_like m items (chars m.charset text))
      (λ b. misses ((laws.answered m items (chars m.charset text)).0 b)))
