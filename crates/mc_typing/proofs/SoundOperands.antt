-- Operands that are typed are sound, and texts where they are taken for texts.
use Rattle.std.proofs.Common.{◌≡◌, ℕ, suc, zero, ◌+◌, ◌<◌, Bool, true, false, cond, List, [], ◌∷◌}
use Rattle.std.proofs.Common.{Option, length, get_or, refl, ap, subst, arith}
use Rattle.std.proofs.lemmas.List.Elements.{All-from_recursion}
use Rattle.std.specs.Prelude.{IfOk, Result, Ok, Err, ◌||◌}
use Rattle.std.specs.List.{AllByRecursion, list_any}
use Rattle.mc_base.specs.Results.{result_and_then}
use Rattle.mc_coerce.specs.Levels.{numeric}
use Rattle.mc_convert.specs.declared.repertoire.Repertoire.TheVariants.{Ascii}
use Rattle.mc_catalog.specs.declared.catalog.Catalog.{Catalog}
use Rattle.mc_typing.specs.declared.callee.Callee.{Callee}
use Rattle.mc_typing.specs.declared.scope.Scope.{Scope}
use Rattle.mc_typing.specs.declared.typed.Node.{Node, Node-F}
use Rattle.mc_typing.specs.declared.typed.Node.TheVariants as node
use Rattle.mc_typing.specs.declared.typed.Ty.{Ty}
use Rattle.mc_typing.specs.declared.typed.Ty.TheVariants.{Null, Int, Str}
use Rattle.mc_typing.specs.declared.typed.TypedExpr.{TypedExpr}
use Rattle.mc_typing.specs.Exprs.{Typing, before, operands_from, turned}
use Rattle.mc_typing.specs.Functions.{turns_to_text}
use Rattle.mc_typing.specs.OfType.{IsNumeric, IsTextual}
use Rattle.mc_typing.specs.Operands.{AreTyped, IsTyOf, is_number, is_text, of_number}
use Rattle.mc_typing.specs.Operators.{as_text}
use Rattle.mc_typing.specs.Scope.{IsScope, connection_set}
use Rattle.mc_typing.specs.Sound.{AreNumeric, AreTextual}
use Rattle.mc_typing.specs.SoundStatements.{row_types}
use Rattle.mc_typing.proofs.SoundTrees.{IsFine, fine_made}
use Rattle.mc_typing.proofs.SoundTexts.{of_collation_sound}

-- What comes next of an answer is as wanted where that answer is.
pub then : {A B E : Type 0} (P : A → Type 0) (Q : B → Type 0) (r : Result A E) (f : A → Result B E)
    → IfOk r P → ((a : A) → P a → IfOk (f a) Q) → IfOk (result_and_then f r) Q
then P Q (Ok a) f h k = k a h
then P Q (Err e) f h k = tt

-- A choice by a test is as wanted where each side is.
pub either : {B E : Type 0} (P : B → Type 0) (b : Bool) (x y : Result B E)
    → (b ≡ true → IfOk x P) → (b ≡ false → IfOk y P) → IfOk (cond b x y) P
either P true x y h k = h refl
either P false x y h k = k refl

pub each : {X : Type 0} (P Q : X → Type 0) → ((x : X) → P x → Q x) → (xs : List X)
    → AllByRecursion P xs → AllByRecursion Q xs
each P Q f [] h = tt
each P Q f (x ∷ xs) h = (f x h.0, each P Q f xs h.1)

-- Kinds of types by their tests
pub or_left : (a b : Bool) → (a || b) ≡ false → a ≡ false
or_left true b e = e
or_left false b e = refl

pub or_right : (a b : Bool) → (a || b) ≡ false → b ≡ false
or_right true b e = absurd (cc)
or_right false b e = e

pub is_int : (ty : Ty) → is_number ty ≡ true → ty ≡ Int
is_int Null e = absurd (cc)
is_int Int e = refl
is_int (Str a) e = absurd (cc)

pub textual : (ty : Ty) → is_number ty ≡ false → IsTextual ty
textual Null e = tt
textual Int e = absurd (cc)
textual (Str a) e = tt

pub numeric_ty : (ty : Ty) → is_text ty ≡ false → IsNumeric ty
numeric_ty Null e = tt
numeric_ty Int e = tt
numeric_ty (Str a) e = absurd (cc)

numeric_each : (xs : List TypedExpr) → list_any (λ x. is_text x.ty) xs ≡ false
    → AllByRecursion (λ x. IsNumeric x.ty) xs
numeric_each [] e = tt
numeric_each (x ∷ xs) e = (
  numeric_ty x.ty (or_left (is_text x.ty) (list_any (λ y. is_text y.ty) xs) e),
  numeric_each xs (or_right (is_text x.ty) (list_any (λ y. is_text y.ty) xs) e),
)

pub numeric_all : (xs : List TypedExpr) → list_any (λ x. is_text x.ty) xs ≡ false → AreNumeric xs
numeric_all xs e = All-from_recursion (λ x. IsNumeric x.ty) xs (numeric_each xs e)

textual_each : (xs : List TypedExpr) → list_any (λ x. is_number x.ty) xs ≡ false
    → AllByRecursion (λ x. IsTextual x.ty) xs
textual_each [] e = tt
textual_each (x ∷ xs) e = (
  textual x.ty (or_left (is_number x.ty) (list_any (λ y. is_number y.ty) xs) e),
  textual_each xs (or_right (is_number x.ty) (list_any (λ y. is_number y.ty) xs) e),
)

pub textual_all : (xs : List TypedExpr) → list_any (λ x. is_number x.ty) xs ≡ false → AreTextual xs
textual_all xs e = All-from_recursion (λ x. IsTextual x.ty) xs (textual_each xs e)

-- Where operands, the first one at a place, are taken for texts they are texts.
abbrev pub AreTurned : Option Callee → ℕ → List TypedExpr → Type 0
AreTurned callee n xs = (k : ℕ) (d : TypedExpr) → k < length xs
    → turns_to_text callee (n + k) ≡ true → IsTextual (get_or xs k d).ty

pub turned_cons : (callee : Option Callee) (n : ℕ) (x : TypedExpr) (xs : List TypedExpr)
    → (turns_to_text callee n ≡ true → IsTextual x.ty) → AreTurned callee (n + 1) xs
    → AreTurned callee n (x ∷ xs)
turned_cons callee n x xs h hs zero d lt e =
    let same : n + 0 ≡ n = omega arith in
    h (subst (λ m. turns_to_text callee m ≡ true) same e)
turned_cons callee n x xs h hs (suc k) d lt e =
    let same : n + suc k ≡ (n + 1) + k = omega arith in
    hs k d (omega (arith, lt)) (subst (λ m. turns_to_text callee m ≡ true) same e)

pub turned_at : (callee : Option Callee) (xs : List TypedExpr) → AreTurned callee 0 xs → (k : ℕ)
    (d : TypedExpr) → k < length xs → turns_to_text callee k ≡ true → IsTextual (get_or xs k d).ty
turned_at callee xs h k d lt e =
    let same : k ≡ 0 + k = omega arith in
    h k d lt (subst (λ m. turns_to_text callee m ≡ true) same e)

module _ (c : Catalog) (s : Scope) (scope : IsScope c s) (aggregates : List Ty) where
  abbrev Sound : TypedExpr → Type 0
  Sound x = IsFine c (row_types c s.table) aggregates x

  pub typed_all : (xs : List TypedExpr) → AllByRecursion Sound xs → AreTyped c xs
  typed_all xs h = All-from_recursion (λ x. IsTyOf c x.ty) xs
      (each Sound (λ x. IsTyOf c x.ty) (λ x k. k.0) xs h)

  -- A number that is taken for a text
  abbrev digits : TypedExpr → TypedExpr
  digits x = record { node = node.NumberText (connection_set c s) x; ty = Str (of_number c s) }

  digits_sound : (x : TypedExpr) → x.ty ≡ Int → Sound x → Sound (digits x)
  digits_sound x e h =
      subst (λ (n : Node). Sound (record { node = n; ty = Str (of_number c s) }))
      (node.rolls-NumberText (connection_set c s) x)
      (fine_made c (row_types c s.table) aggregates (Node-F.NumberText (connection_set c s) x)
      (Str (of_number c s))
      (of_collation_sound c (connection_set c s) s.connection numeric Ascii (omega arith)
      (scope.connection, refl))
      (e, refl) (h, tt))

  by_test : (x : TypedExpr) (b : Bool) → is_number x.ty ≡ b → Sound x
      → Sound (cond b (digits x) x) × IsTextual (cond b (digits x) x).ty
  by_test x true e h = (digits_sound x (is_int x.ty e) h, tt)
  by_test x false e h = (h, textual x.ty e)

  pub as_text_sound : (x : TypedExpr) → Sound x
      → Sound (as_text c s x) × IsTextual (as_text c s x).ty
  as_text_sound x h = by_test x (is_number x.ty) refl h

  pub turned_sound : (b : Bool) (x : TypedExpr) → Sound x
      → Sound (turned c s b x) × (b ≡ true → IsTextual (turned c s b x).ty)
  turned_sound true x h = let k = as_text_sound x h in (k.0, λ e. k.1)
  turned_sound false x h = (h, λ e. absurd (cc))

  -- Sound operands, from a place on, of so many.
  abbrev pub Operands : Option Callee → ℕ → ℕ → List TypedExpr → Type 0
  Operands callee n many xs =
      AllByRecursion Sound xs × AreTurned callee n xs × (length xs ≡ many)

  pub operands_sound : (callee : Option Callee) (n : ℕ) (ts : List Typing)
      → AllByRecursion (λ t. IfOk t Sound) ts
      → IfOk (operands_from c s callee n ts) (Operands callee n (length ts))
  operands_sound callee n [] h = (tt, (λ k d lt e. absurd (omega (arith, lt))), refl)
  operands_sound callee n (t ∷ ts) h =
      then Sound (Operands callee n (length (t ∷ ts))) t
      (λ x. before (turned c s (turns_to_text callee n) x) (operands_from c s callee (n + 1) ts))
      h.0
      (λ x own. then (Operands callee (n + 1) (length ts)) (Operands callee n (length (t ∷ ts)))
      (operands_from c s callee (n + 1) ts)
      (λ xs. Ok (turned c s (turns_to_text callee n) x ∷ xs))
      (operands_sound callee (n + 1) ts h.1)
      (λ xs rest. let made = turned_sound (turns_to_text callee n) x own in (
        (made.0, rest.0),
        turned_cons callee n (turned c s (turns_to_text callee n) x) xs made.1 rest.1,
        ap suc rest.2,
      )))
