-- Nodes over sound operands are sound, aggregates aside.
use Rattle.std.proofs.Common.{◌≡◌, ℕ, true, false, List, [], ◌∷◌, None, Some}
use Rattle.std.proofs.Common.{length, refl, sym, subst, arith}
use Rattle.std.specs.Prelude.{IfOk, Ok, Err, ◌&&◌, codes, nat_le, pos}
use Rattle.std.specs.List.{AllByRecursion}
use Rattle.mc_charset.specs.declared.charset.Charset.TheVariants.{Binary as SetBinary}
use Rattle.mc_ast.specs.declared.expr.Form.{Form-F}
use Rattle.mc_catalog.specs.declared.catalog.Catalog.{Catalog}
use Rattle.mc_typing.specs.declared.place.Place.{Place}
use Rattle.mc_typing.specs.declared.place.Place.TheVariants.{Row, Group, Key}
use Rattle.mc_typing.specs.declared.scope.Scope.{Scope}
use Rattle.mc_typing.specs.declared.typed.Func.TheVariants.{Substring}
use Rattle.mc_typing.specs.declared.typed.Node.{Node-F}
use Rattle.mc_typing.specs.declared.typed.Node.TheVariants as node
use Rattle.mc_typing.specs.declared.typed.Ty.{Ty}
use Rattle.mc_typing.specs.declared.typed.TypedExpr.{TypedExpr}
use Rattle.mc_typing.specs.Aggregates.{is_aggregate_form}
use Rattle.mc_typing.specs.Calls.{weights}
use Rattle.mc_typing.specs.Columns.{column, column_of_table}
use Rattle.mc_typing.specs.Exprs.{Typing, of_one, taker_of, texts, typed_node, usual_id}
use Rattle.mc_typing.specs.Forms.{parts}
use Rattle.mc_typing.specs.Functions.{callee_of}
use Rattle.mc_typing.specs.Names.{arith_name, cmp_name}
use Rattle.mc_typing.specs.Operators.{as_text, collated, converted, converted_by_name}
use Rattle.mc_typing.specs.Operators.{number_expr, of_one_number}
use Rattle.mc_typing.specs.Places.{column_in}
use Rattle.mc_typing.specs.Scope.{IsScope, connection_set}
use Rattle.mc_typing.specs.Sound.{AreTextual}
use Rattle.mc_typing.specs.SoundStatements.{row_types}
use Rattle.mc_typing.proofs.Known.{Known}
use Rattle.mc_typing.proofs.SoundCalls.{function_sound, named_sound, trim_sound}
use Rattle.mc_typing.proofs.SoundColumns.{column_of_table_sound, column_sound}
use Rattle.mc_typing.proofs.SoundOperands.{AreTurned, Operands, as_text_sound}
use Rattle.mc_typing.proofs.SoundOperators.{collated_sound, compared_sound, converted_by_name_sound}
use Rattle.mc_typing.proofs.SoundOperators.{like_sound, number_sound, of_numbers_sound}
use Rattle.mc_typing.proofs.SoundOperators.{of_one_sound, to_binary_sound, to_connection_sound}
use Rattle.mc_typing.proofs.SoundOperators.{weights_sound}
use Rattle.mc_typing.proofs.SoundTexts.{hex_sound, int_sound, introduced_good, national_sound}
use Rattle.mc_typing.proofs.SoundTexts.{null_sound, plain_sound}
use Rattle.mc_typing.proofs.SoundTrees.{IsFine}

-- Operands that are all taken for texts are texts.
all_texts : (xs : List TypedExpr) → AreTurned texts 0 xs → AreTextual xs
all_texts xs h k d lt = h k d lt refl

one_of_two : (n many : ℕ) → n ≡ many → (nat_le 1 many && nat_le many 2) ≡ true
    → (nat_le 1 n && nat_le n 2) ≡ true
one_of_two n many e h = subst (λ m. (nat_le 1 m && nat_le m 2) ≡ true) (sym e) h

two_of_three : (n many : ℕ) → n ≡ many → (nat_le 2 many && nat_le many 3) ≡ true
    → (nat_le 2 n && nat_le n 3) ≡ true
two_of_three n many e h = subst (λ m. (nat_le 2 m && nat_le m 3) ≡ true) (sym e) h

module _ (known : Known) (c : Catalog) (s : Scope) (scope : IsScope c s)
    (aggregates : List Ty) where
  abbrev Sound : TypedExpr → Type 0
  Sound x = IsFine c (row_types c s.table) aggregates x

  abbrev Good : Typing → Type 0
  Good t = IfOk t Sound

  place_good : (place : Place) (name : List ℕ) (t : Typing) → Good t
      → Good (column_in place name t)
  place_good Group name (Ok x) h = tt
  place_good Group name (Err r) h = tt
  place_good Row name t h = h
  place_good Key name t h = h

  one_good : (f : TypedExpr → Typing) (xs : List TypedExpr) → AllByRecursion Sound xs
      → length xs ≡ 1 → ((x : TypedExpr) → Sound x → Good (f x)) → Good (of_one f xs)
  one_good f [] h e k = absurd (cc)
  one_good f (x ∷ xs) h e k = k x h.0

  -- A node over its operands
  pub node_good : {X A : Type 0} (place : Place) (number : ℕ) (z : Form-F X A)
      (xs : List TypedExpr) → is_aggregate_form z ≡ false
      → Operands c s scope aggregates (taker_of z) 0 (length (parts z)) xs
      → Good (typed_node c s place number z xs)
  node_good place number (Form-F.Or ts) xs e o =
      of_numbers_sound known c s scope aggregates (codes "or") (node.Or xs) xs (λ numbers.
      number_sound known c s scope aggregates (Node-F.Or xs) (node.Or xs) (node.rolls-Or xs)
      (refl, numbers) o.0)
  node_good place number (Form-F.And ts) xs e o =
      of_numbers_sound known c s scope aggregates (codes "and") (node.And xs) xs (λ numbers.
      number_sound known c s scope aggregates (Node-F.And xs) (node.And xs) (node.rolls-And xs)
      (refl, numbers) o.0)
  node_good place number (Form-F.Xor l r) xs e o =
      of_numbers_sound known c s scope aggregates (codes "xor") (node.Xor xs) xs (λ numbers.
      number_sound known c s scope aggregates (Node-F.Xor xs) (node.Xor xs) (node.rolls-Xor xs)
      (refl, o.2, numbers) o.0)
  node_good place number (Form-F.Not t) xs e o =
      one_good (λ x. of_one_number (codes "not") (node.Not x) x) xs o.0 o.2 (λ x k. of_one_sound
      known c s scope aggregates (codes "not") (node.Not x) x (λ number. number_sound known c s
      scope aggregates (Node-F.Not x) (node.Not x) (node.rolls-Not x) (refl, number) (k, tt)))
  node_good place number (Form-F.Compare op l r) xs e o =
      compared_sound known c s scope aggregates (cmp_name op) (λ coll. node.Compare op coll xs) xs
      o.0 (λ coll k. number_sound known c s scope aggregates (Node-F.Compare op coll xs)
      (node.Compare op coll xs) (node.rolls-Compare op coll xs) (refl, o.2, k) o.0)
  node_good place number (Form-F.IsNull t negated) xs e o =
      one_good (λ x. Ok (number_expr (node.IsNull x negated))) xs o.0 o.2 (λ x k. number_sound
      known c s scope aggregates (Node-F.IsNull x negated) (node.IsNull x negated)
      (node.rolls-IsNull x negated) refl (k, tt))
  node_good place number (Form-F.Like l r escape negated) xs e o =
      like_sound known c s scope aggregates escape negated xs o.0 (all_texts xs o.1) o.2
  node_good place number (Form-F.In t ts negated) xs e o =
      compared_sound known c s scope aggregates (codes "in") (λ coll. node.In coll xs negated) xs
      o.0 (λ coll k. number_sound known c s scope aggregates (Node-F.In coll xs negated) (node.In
      coll xs negated) (node.rolls-In coll xs negated) (refl, omega (arith, o.2), k) o.0)
  node_good place number (Form-F.Between t low high negated) xs e o =
      compared_sound known c s scope aggregates (codes "between") (λ coll. node.Between coll xs
      negated) xs o.0 (λ coll k. number_sound known c s scope aggregates (Node-F.Between coll xs
      negated) (node.Between coll xs negated) (node.rolls-Between coll xs negated) (refl, o.2, k)
      o.0)
  node_good place number (Form-F.Arith op l r) xs e o =
      of_numbers_sound known c s scope aggregates (arith_name op) (node.Arith op xs) xs (λ
      numbers. number_sound known c s scope aggregates (Node-F.Arith op xs) (node.Arith op xs)
      (node.rolls-Arith op xs) (refl, o.2, numbers) o.0)
  node_good place number (Form-F.Neg t) xs e o =
      one_good (λ x. of_one_number (codes "-") (node.Neg x) x) xs o.0 o.2 (λ x k. of_one_sound
      known c s scope aggregates (codes "-") (node.Neg x) x (λ number. number_sound known c s
      scope aggregates (Node-F.Neg x) (node.Neg x) (node.rolls-Neg x) (refl, number) (k, tt)))
  node_good place number (Form-F.Collate t name) xs e o =
      one_good (λ x. collated c name (as_text c s x)) xs o.0 o.2 (λ x k. let text = as_text_sound
      c s scope aggregates x k in collated_sound known c s scope aggregates name (as_text c s x)
      text.0 text.1)
  node_good place number (Form-F.Int value) xs e o =
      int_sound known c s scope aggregates value
  node_good place number Form-F.True xs e o =
      int_sound known c s scope aggregates (pos 1)
  node_good place number Form-F.False xs e o =
      int_sound known c s scope aggregates (pos 0)
  node_good place number Form-F.Null xs e o =
      null_sound known c s scope aggregates
  node_good place number (Form-F.Str text) xs e o =
      plain_sound known c s scope aggregates text
  node_good place number (Form-F.National text) xs e o =
      national_sound known c s scope aggregates text
  node_good place number (Form-F.Hex bytes) xs e o =
      hex_sound known c s scope aggregates bytes
  node_good place number (Form-F.IntroStr set bytes) xs e o =
      introduced_good known c s scope aggregates set bytes
  node_good place number (Form-F.IntroHex set bytes) xs e o =
      introduced_good known c s scope aggregates set bytes
  node_good place number (Form-F.Name name) xs e o =
      place_good place name (column c s name) (column_sound c s scope aggregates name)
  node_good place number (Form-F.Qualified table name) xs e o =
      place_good place name (column_of_table c s table name) (column_of_table_sound c s scope
      aggregates table name)
  node_good place number (Form-F.Convert t set) xs e o =
      one_good (λ x. converted_by_name c (usual_id c) set (as_text c s x)) xs o.0 o.2 (λ x k. let
      text = as_text_sound c s scope aggregates x k in converted_by_name_sound known c s scope
      aggregates set (as_text c s x) text.0 text.1)
  node_good place number (Form-F.CastChar t (Some set)) xs e o =
      one_good (λ x. converted_by_name c (usual_id c) set (as_text c s x)) xs o.0 o.2 (λ x k. let
      text = as_text_sound c s scope aggregates x k in converted_by_name_sound known c s scope
      aggregates set (as_text c s x) text.0 text.1)
  node_good place number (Form-F.CastChar t None) xs e o =
      one_good (λ x. Ok (converted (connection_set c s) s.connection (as_text c s x))) xs o.0 o.2
      (λ x k. let text = as_text_sound c s scope aggregates x k in to_connection_sound known c s
      scope aggregates (as_text c s x) text.0 text.1)
  node_good place number (Form-F.CastBinary t) xs e o =
      one_good (λ x. Ok (converted SetBinary (record { 0 = 0 }) (as_text c s x))) xs o.0 o.2 (λ x
      k. let text = as_text_sound c s scope aggregates x k in to_binary_sound known c s scope
      aggregates (as_text c s x) text.0 text.1)
  node_good place number Form-F.CountAll xs e o =
      absurd (cc)
  node_good place number (Form-F.CountDistinct t) xs e o =
      absurd (cc)
  node_good place number (Form-F.Trim side None t) xs e o =
      trim_sound known c s scope aggregates side (codes "trim") xs o.0 (all_texts xs o.1)
      (one_of_two (length xs) 1 o.2 refl)
  node_good place number (Form-F.Trim side (Some removed) t) xs e o =
      trim_sound known c s scope aggregates side (codes "trim") xs o.0 (all_texts xs o.1)
      (one_of_two (length xs) 2 o.2 refl)
  node_good place number (Form-F.SubstringFrom t start None) xs e o =
      function_sound known c s scope aggregates Substring (codes "substring") xs o.0 o.1
      (two_of_three (length xs) 2 o.2 refl)
  node_good place number (Form-F.SubstringFrom t start (Some len)) xs e o =
      function_sound known c s scope aggregates Substring (codes "substring") xs o.0 o.1
      (two_of_three (length xs) 3 o.2 refl)
  node_good place number (Form-F.WeightString t cut) xs e o =
      one_good (λ x. weights cut x) xs o.0 o.2 (λ x k. weights_sound known c s scope aggregates
      cut x k)
  node_good place number (Form-F.Call name ts) xs e o =
      named_sound known c s scope aggregates place number name (callee_of name) xs e o.0 o.1
