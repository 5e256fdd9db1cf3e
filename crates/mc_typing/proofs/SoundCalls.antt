-- Calls over sound arguments are sound.
use Rattle.std.proofs.Common.{◌≡◌, ℕ, suc, zero, ◌<◌, Bool, true, false, cond, List, [], ◌∷◌}
use Rattle.std.proofs.Common.{Option, None, Some, length, get_or, drop, take, refl, sym, subst}
use Rattle.std.proofs.Common.{arith}
use Rattle.std.proofs.lemmas.Grind.{common_steps}
use Rattle.std.specs.Prelude.{IfOk, IsTrue, MatchBool, Ok, Err, ◌&&◌, nat_eq, nat_le}
use Rattle.std.specs.Prelude.{not}
use Rattle.std.specs.List.{AllByRecursion}
use Rattle.mc_convert.specs.declared.repertoire.Repertoire.TheVariants.{Ascii}
use Rattle.mc_coerce.specs.Levels.{coercible, numeric}
use Rattle.mc_coerce.specs.declared.operand.Operand.{Operand}
use Rattle.mc_coerce.specs.declared.operand.Purpose.TheVariants.{Compare as ToCompare}
use Rattle.mc_coerce.specs.declared.operand.Purpose.TheVariants.{Text as ToText}
use Rattle.mc_ast.specs.declared.operators.TrimSide.{TrimSide}
use Rattle.mc_ast.specs.declared.operators.TrimSide.TheVariants.{Both, Leading, Trailing}
use Rattle.mc_catalog.specs.declared.catalog.Catalog.{Catalog}
use Rattle.mc_typing.specs.declared.callee.Callee.{Callee}
use Rattle.mc_typing.specs.declared.callee.Callee.TheVariants as callee
use Rattle.mc_typing.specs.declared.place.Place.{Place}
use Rattle.mc_typing.specs.declared.scope.Scope.{Scope}
use Rattle.mc_typing.specs.declared.typed.Func.{Func}
use Rattle.mc_typing.specs.declared.typed.Func.TheVariants as func
use Rattle.mc_typing.specs.declared.typed.Node.{Node, Node-F}
use Rattle.mc_typing.specs.declared.typed.Node.TheVariants as node
use Rattle.mc_typing.specs.declared.typed.Ty.{Ty}
use Rattle.mc_typing.specs.declared.typed.Ty.TheVariants.{Int, Str}
use Rattle.mc_typing.specs.declared.typed.TypedExpr.{TypedExpr}
use Rattle.mc_typing.specs.Aggregates.{is_aggregate}
use Rattle.mc_typing.specs.Calls.{call, called, digits_ty, first_operand, fitted}
use Rattle.mc_typing.specs.Calls.{function_call, made_of, misfits, plain_call, strcmp, text_call}
use Rattle.mc_typing.specs.Functions.{takes, trim_of}
use Rattle.mc_typing.specs.Messages.{wrong_argument, wrong_count}
use Rattle.mc_typing.specs.OfType.{IsNumeric, IsTextual}
use Rattle.mc_typing.specs.Operands.{IsTextOf, IsTyOf, is_text}
use Rattle.mc_typing.specs.Operators.{number_expr, some_text, together}
use Rattle.mc_typing.specs.Scope.{IsScope, connection_set}
use Rattle.mc_typing.specs.Sound.{AreArguments, AreTextual, IsMadeOf, IsResult}
use Rattle.mc_typing.specs.Sound.{IsSoundCall, has_arity}
use Rattle.mc_typing.specs.SoundStatements.{row_types}
use Rattle.mc_typing.proofs.Known.{Known}
use Rattle.mc_typing.proofs.SoundOperands.{AreTurned, either, numeric_all, numeric_ty, or_left}
use Rattle.mc_typing.proofs.SoundOperands.{then, turned_at}
use Rattle.mc_typing.proofs.SoundOperators.{together_sound}
use Rattle.mc_typing.proofs.SoundTexts.{of_collation_sound, shown_sound, version_sound}
use Rattle.mc_typing.proofs.SoundTrees.{IsFine, fine_made}

-- How many arguments
pub eq_to : (a b : ℕ) → nat_eq a b ≡ true → a ≡ b
eq_to a b e = grind (arith, common_steps)

one_or_two : (n : ℕ) → nat_eq n 1 ≡ true → (nat_le 1 n && nat_le n 2) ≡ true
one_or_two n e = subst (λ m. (nat_le 1 m && nat_le m 2) ≡ true) (sym (eq_to n 1 e)) refl

arity : (function : Func) (n : ℕ) → takes (callee.Of function) n ≡ true
    → has_arity function n ≡ true
arity func.TrimBoth n e = one_or_two n e
arity func.TrimLeading n e = one_or_two n e
arity func.TrimTrailing n e = one_or_two n e
arity func.Concat n e = e
arity func.ConcatWs n e = e
arity func.CharLength n e = e
arity func.Length n e = e
arity func.Hex n e = e
arity func.Substring n e = e
arity func.Left n e = e
arity func.Right n e = e
arity func.Lpad n e = e
arity func.Rpad n e = e
arity func.Repeat n e = e
arity func.Reverse n e = e
arity func.Replace n e = e
arity func.Strcmp n e = e
arity func.Mod n e = e

-- Kinds of arguments
by_kind : (b : Bool) (P Q : Type 0) → (b ≡ true → P) → (b ≡ false → Q) → MatchBool b P Q
by_kind true P Q h k = h refl
by_kind false P Q h k = k refl

behind_first : (xs : List TypedExpr) (place : ℕ) (d : TypedExpr) → place < length xs
    → nat_eq place 0 ≡ false → some_text (drop 1 xs) ≡ false → IsNumeric (get_or xs place d).ty
behind_first [] place d lt e h = absurd (omega (arith, lt))
behind_first (x ∷ xs) zero d lt e h = absurd (cc)
behind_first (x ∷ xs) (suc k) d lt e h = numeric_all xs h k d (omega (arith, lt))

second : (xs : List TypedExpr) (d : TypedExpr) → 1 < length xs
    → some_text (take 1 (drop 1 xs)) ≡ false → IsNumeric (get_or xs 1 d).ty
second [] d lt h = absurd (omega (arith, lt))
second (x ∷ []) d lt h = absurd (omega (arith, lt))
second (x ∷ y ∷ xs) d lt h = numeric_ty y.ty (or_left (is_text y.ty) false h)

not_to : (b : Bool) → not b ≡ false → b ≡ true
not_to true e = refl
not_to false e = absurd (cc)

second_alone : (xs : List TypedExpr) (place : ℕ) (d : TypedExpr) → place < length xs
    → not (nat_eq place 1) ≡ false → some_text (take 1 (drop 1 xs)) ≡ false
    → IsNumeric (get_or xs place d).ty
second_alone xs place d lt e h =
    let one : place ≡ 1 = eq_to place 1 (not_to (nat_eq place 1) e) in
    subst (λ n. IsNumeric (get_or xs n d).ty) (sym one)
    (second xs d (subst (λ n. n < length xs) one lt) h)

arguments : (function : Func) (xs : List TypedExpr) → AreTurned (Some (callee.Of function)) 0 xs
    → misfits function xs ≡ false → AreArguments function xs
arguments func.Concat xs h e k d lt = turned_at (Some (callee.Of func.Concat)) xs h k d lt refl
arguments func.ConcatWs xs h e k d lt = turned_at (Some (callee.Of func.ConcatWs)) xs h k d lt refl
arguments func.CharLength xs h e k d lt =
    turned_at (Some (callee.Of func.CharLength)) xs h k d lt refl
arguments func.Length xs h e k d lt = turned_at (Some (callee.Of func.Length)) xs h k d lt refl
arguments func.Hex xs h e k d lt = tt
arguments func.Substring xs h e k d lt = by_kind (nat_eq k 0) (IsTextual (get_or xs k d).ty)
    (IsNumeric (get_or xs k d).ty) (turned_at (Some (callee.Of func.Substring)) xs h k d lt)
    (λ n. behind_first xs k d lt n e)
arguments func.Left xs h e k d lt = by_kind (nat_eq k 0) (IsTextual (get_or xs k d).ty)
    (IsNumeric (get_or xs k d).ty) (turned_at (Some (callee.Of func.Left)) xs h k d lt)
    (λ n. behind_first xs k d lt n e)
arguments func.Right xs h e k d lt = by_kind (nat_eq k 0) (IsTextual (get_or xs k d).ty)
    (IsNumeric (get_or xs k d).ty) (turned_at (Some (callee.Of func.Right)) xs h k d lt)
    (λ n. behind_first xs k d lt n e)
arguments func.TrimBoth xs h e k d lt = turned_at (Some (callee.Of func.TrimBoth)) xs h k d lt refl
arguments func.TrimLeading xs h e k d lt =
    turned_at (Some (callee.Of func.TrimLeading)) xs h k d lt refl
arguments func.TrimTrailing xs h e k d lt =
    turned_at (Some (callee.Of func.TrimTrailing)) xs h k d lt refl
arguments func.Lpad xs h e k d lt = by_kind (not (nat_eq k 1)) (IsTextual (get_or xs k d).ty)
    (IsNumeric (get_or xs k d).ty) (turned_at (Some (callee.Of func.Lpad)) xs h k d lt)
    (λ n. second_alone xs k d lt n e)
arguments func.Rpad xs h e k d lt = by_kind (not (nat_eq k 1)) (IsTextual (get_or xs k d).ty)
    (IsNumeric (get_or xs k d).ty) (turned_at (Some (callee.Of func.Rpad)) xs h k d lt)
    (λ n. second_alone xs k d lt n e)
arguments func.Repeat xs h e k d lt = by_kind (nat_eq k 0) (IsTextual (get_or xs k d).ty)
    (IsNumeric (get_or xs k d).ty) (turned_at (Some (callee.Of func.Repeat)) xs h k d lt)
    (λ n. behind_first xs k d lt n e)
arguments func.Reverse xs h e k d lt = turned_at (Some (callee.Of func.Reverse)) xs h k d lt refl
arguments func.Replace xs h e k d lt = turned_at (Some (callee.Of func.Replace)) xs h k d lt refl
arguments func.Strcmp xs h e k d lt = turned_at (Some (callee.Of func.Strcmp)) xs h k d lt refl
arguments func.Mod xs h e k d lt = numeric_all xs e k d lt

-- What texts have together, as a type
made_typed : (c : Catalog) (a : Operand) → IsTextOf c a → IsTextOf c (made_of a)
made_typed c a h = by_test (nat_eq a.level numeric)
  where
    by_test : (b : Bool) → IsTextOf c (cond b (record a { level = coercible }) a)
    by_test true = record {
      within = h.within;
      set = h.set;
      lawful = record { level = omega arith; bin = h.lawful.bin };
    }
    by_test false = h

made_same : (a : Operand) → IsMadeOf (Some a) (Str (made_of a))
made_same a = by_test (nat_eq a.level numeric)
  where
    by_test : (b : Bool) → IsMadeOf (Some a) (Str (cond b (record a { level = coercible }) a))
    by_test true = (refl, refl)
    by_test false = (refl, refl)

module _ (known : Known) (c : Catalog) (s : Scope) (scope : IsScope c s)
    (aggregates : List Ty) where
  abbrev Sound : TypedExpr → Type 0
  Sound x = IsFine c (row_types c s.table) aggregates x

  call_sound : (function : Func) (uses : Option Operand) (xs : List TypedExpr) (ty : Ty)
      → AllByRecursion Sound xs → IsTyOf c ty → IsSoundCall c function uses xs ty
      → Sound (record { node = node.Call function uses xs; ty = ty })
  call_sound function uses xs ty h t k = subst (λ (n : Node). Sound (record { node = n; ty = ty }))
      (node.rolls-Call function uses xs)
      (fine_made c (row_types c s.table) aggregates (Node-F.Call function uses xs) ty t k h)

  -- Arguments that suit a function
  record Suits (function : Func) (xs : List TypedExpr) : Type 0 where
    pub sound : AllByRecursion Sound xs
    pub arity : IsTrue (has_arity function (length xs))
    pub arguments : AreArguments function xs

  text_call_sound : (function : Func) (name : List ℕ) (xs : List TypedExpr) → Suits function xs
      → ((a : Operand) → IsTextOf c a → IsMadeOf (Some a) (Str (made_of a))
      → IsResult c function (Some a) (Str (made_of a)))
      → IfOk (text_call c function name xs) Sound
  text_call_sound function name xs h k = then (IsTextOf c) Sound (together c name ToText xs)
      (λ a. Ok (record { node = node.Call function (Some a) xs; ty = Str (made_of a) }))
      (together_sound known c s scope aggregates name ToText xs h.sound)
      (λ a t. call_sound function (Some a) xs (Str (made_of a)) h.sound (made_typed c a t)
      (record { arity = h.arity; arguments = h.arguments; result = k a t (made_same a) }))

  strcmp_sound : (name : List ℕ) (xs : List TypedExpr) → Suits func.Strcmp xs
      → IfOk (strcmp c name xs) Sound
  strcmp_sound name xs h = then (IsTextOf c) Sound (together c name ToCompare xs)
      (λ a. Ok (number_expr (node.Call func.Strcmp (Some a) xs)))
      (together_sound known c s scope aggregates name ToCompare xs h.sound)
      (λ a t. call_sound func.Strcmp (Some a) xs Int h.sound tt
      (record { arity = h.arity; arguments = h.arguments; result = (t, refl) }))

  plain_sound : (function : Func) (xs : List TypedExpr) (ty : Ty) → Suits function xs → IsTyOf c ty
      → IsResult c function None ty → Sound (plain_call function ty xs)
  plain_sound function xs ty h t k = call_sound function None xs ty h.sound t
      (record { arity = h.arity; arguments = h.arguments; result = k })

  fitted_sound : (function : Func) (name : List ℕ) (xs : List TypedExpr) → Suits function xs
      → IfOk (fitted c s function name xs) Sound
  fitted_sound func.Strcmp name xs h = strcmp_sound name xs h
  fitted_sound func.CharLength name xs h = plain_sound func.CharLength xs Int h tt (refl, refl)
  fitted_sound func.Length name xs h = plain_sound func.Length xs Int h tt (refl, refl)
  fitted_sound func.Mod name xs h = plain_sound func.Mod xs Int h tt (refl, refl)
  fitted_sound func.Hex name xs h = plain_sound func.Hex xs (digits_ty c s) h
      (of_collation_sound c (connection_set c s) s.connection coercible Ascii (omega arith)
      (scope.connection, refl)) (refl, tt)
  fitted_sound func.Concat name xs h = text_call_sound func.Concat name xs h (λ a t m. (t, m))
  fitted_sound func.ConcatWs name xs h = text_call_sound func.ConcatWs name xs h (λ a t m. (t, m))
  fitted_sound func.Substring name xs h = text_call_sound func.Substring name xs h (λ a t m. (t, m))
  fitted_sound func.Left name xs h = text_call_sound func.Left name xs h (λ a t m. (t, m))
  fitted_sound func.Right name xs h = text_call_sound func.Right name xs h (λ a t m. (t, m))
  fitted_sound func.TrimBoth name xs h = text_call_sound func.TrimBoth name xs h (λ a t m. (t, m))
  fitted_sound func.TrimLeading name xs h =
      text_call_sound func.TrimLeading name xs h (λ a t m. (t, m))
  fitted_sound func.TrimTrailing name xs h =
      text_call_sound func.TrimTrailing name xs h (λ a t m. (t, m))
  fitted_sound func.Lpad name xs h = text_call_sound func.Lpad name xs h (λ a t m. (t, m))
  fitted_sound func.Rpad name xs h = text_call_sound func.Rpad name xs h (λ a t m. (t, m))
  fitted_sound func.Repeat name xs h = text_call_sound func.Repeat name xs h (λ a t m. (t, m))
  fitted_sound func.Reverse name xs h = text_call_sound func.Reverse name xs h (λ a t m. (t, m))
  fitted_sound func.Replace name xs h = text_call_sound func.Replace name xs h (λ a t m. (t, m))

  pub function_sound : (function : Func) (name : List ℕ) (xs : List TypedExpr)
      → AllByRecursion Sound xs → AreTurned (Some (callee.Of function)) 0 xs
      → IsTrue (has_arity function (length xs)) → IfOk (function_call c s function name xs) Sound
  function_sound function name xs h turned many = either Sound (misfits function xs)
      (Err (wrong_argument name)) (fitted c s function name xs) (λ _. tt)
      (λ e. fitted_sound function name xs
      (record { sound = h; arity = many; arguments = arguments function xs turned e }))

  pub trim_sound : (side : TrimSide) (name : List ℕ) (xs : List TypedExpr)
      → AllByRecursion Sound xs → AreTextual xs
      → (nat_le 1 (length xs) && nat_le (length xs) 2) ≡ true
      → IfOk (function_call c s (trim_of side) name xs) Sound
  trim_sound Both name xs h texts many =
      function_sound func.TrimBoth name xs h (λ k d lt e. texts k d lt) many
  trim_sound Leading name xs h texts many =
      function_sound func.TrimLeading name xs h (λ k d lt e. texts k d lt) many
  trim_sound Trailing name xs h texts many =
      function_sound func.TrimTrailing name xs h (λ k d lt e. texts k d lt) many

  called_sound : (place : Place) (number : ℕ) (name : List ℕ) (which : Callee)
      (xs : List TypedExpr) → is_aggregate (Some which) ≡ false → AllByRecursion Sound xs
      → AreTurned (Some which) 0 xs → takes which (length xs) ≡ true
      → IfOk (called c s place number name which xs) Sound
  called_sound place number name (callee.Of function) xs plain h turned many =
      function_sound function name xs h turned (arity function (length xs) many)
  called_sound place number name callee.Version xs plain h turned many =
      version_sound known c s scope aggregates
  called_sound place number name (callee.Aggregate agg) xs plain h turned many = absurd (cc)
  called_sound place number name callee.Charset xs plain h turned many =
      shown_sound known c s scope aggregates callee.Charset (first_operand c s xs)
  called_sound place number name callee.Collation xs plain h turned many =
      shown_sound known c s scope aggregates callee.Collation (first_operand c s xs)
  called_sound place number name callee.Coercibility xs plain h turned many =
      shown_sound known c s scope aggregates callee.Coercibility (first_operand c s xs)
  called_sound place number name callee.Weights xs plain h turned many =
      shown_sound known c s scope aggregates callee.Weights (first_operand c s xs)

  pub named_sound : (place : Place) (number : ℕ) (name : List ℕ) (which : Option Callee)
      (xs : List TypedExpr) → is_aggregate which ≡ false → AllByRecursion Sound xs
      → AreTurned which 0 xs → IfOk (call c s place number name which xs) Sound
  named_sound place number name None xs plain h turned = tt
  named_sound place number name (Some which) xs plain h turned =
      either Sound (takes which (length xs))
      (called c s place number name which xs) (Err (wrong_count name))
      (λ e. called_sound place number name which xs plain h turned e) (λ _. tt)
