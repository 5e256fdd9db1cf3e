-- Typed operands of trees have types of the catalog, numbers that are taken for texts among them.
use Rattle.std.proofs.Common.{◌≡◌, ℕ, ◌+◌, Bool, true, false, cond, List, [], ◌∷◌, Option}
use Rattle.std.proofs.Common.{refl}
use Rattle.std.proofs.Common.{subst, arith}
use Rattle.std.proofs.lemmas.List.Elements.{All-from_recursion}
use Rattle.std.specs.List.{AllByRecursion}
use Rattle.std.specs.Prelude.{IfOk, Result, Ok, Err}
use Rattle.mc_base.specs.declared.refusal.Refusal.{Refusal}
use Rattle.mc_convert.specs.declared.repertoire.Repertoire.TheVariants.{Ascii}
use Rattle.mc_coerce.specs.Levels.{numeric}
use Rattle.mc_ast.specs.declared.expr.Expr.{Expr}
use Rattle.mc_catalog.specs.declared.catalog.Catalog.{Catalog}
use Rattle.mc_typing.specs.declared.callee.Callee.{Callee}
use Rattle.mc_typing.specs.declared.place.Place.{Place}
use Rattle.mc_typing.specs.declared.scope.Scope.{Scope}
use Rattle.mc_typing.specs.declared.typed.Node.TheVariants.{NumberText}
use Rattle.mc_typing.specs.declared.typed.Ty.TheVariants.{Str}
use Rattle.mc_typing.specs.declared.typed.TypedExpr.{TypedExpr}
use Rattle.mc_typing.specs.Aggregates.{aggregate_count}
use Rattle.mc_typing.specs.Exprs.{Typing, before, operands, operands_from, turned, typing, typings}
use Rattle.mc_typing.specs.Functions.{turns_to_text}
use Rattle.mc_typing.specs.Operands.{AreTyped, IsTextOf, IsTyOf, is_number, of_number}
use Rattle.mc_typing.specs.Operators.{as_text}
use Rattle.mc_typing.specs.Scope.{IsScope, connection_set}
use Rattle.mc_typing.proofs.SoundTexts.{of_collation_sound}

abbrev IsTyped : Catalog → Typing → Type 0
IsTyped c t = IfOk t (λ x. IsTyOf c x.ty)

number_sound : (c : Catalog) (s : Scope) → IsScope c s → IsTextOf c (of_number c s)
number_sound c s h =
    of_collation_sound c (connection_set c s) s.connection numeric Ascii (omega arith)
    (h.connection, refl)

as_text_typed : (c : Catalog) (s : Scope) (x : TypedExpr) → IsScope c s → IsTyOf c x.ty
    → IsTyOf c (as_text c s x).ty
as_text_typed c s x h t = of_test (is_number x.ty)
  where
    of_test : (b : Bool) → IsTyOf c (cond b (record {
      node = NumberText (connection_set c s) x;
      ty = Str (of_number c s);
    }) x).ty
    of_test true = number_sound c s h
    of_test false = t

turned_typed : (c : Catalog) (s : Scope) (b : Bool) (x : TypedExpr) → IsScope c s → IsTyOf c x.ty
    → IsTyOf c (turned c s b x).ty
turned_typed c s true x h t = as_text_typed c s x h t
turned_typed c s false x h t = t

before_typed : (c : Catalog) (x : TypedExpr) (others : Result (List TypedExpr) Refusal)
    → IsTyOf c x.ty
    → IfOk others (AllByRecursion (λ y. IsTyOf c y.ty))
    → IfOk (before x others) (AllByRecursion (λ y. IsTyOf c y.ty))
before_typed c x (Ok xs) t h = (t, h)
before_typed c x (Err r) t h = tt

from_typed : (c : Catalog) (s : Scope) (callee : Option Callee) (n : ℕ) (ts : List Typing)
    → IsScope c s
    → AllByRecursion (IsTyped c) ts
    → IfOk (operands_from c s callee n ts) (AllByRecursion (λ y. IsTyOf c y.ty))
from_typed c s callee n [] h all = tt
from_typed c s callee n (Ok x ∷ ts) h all =
    before_typed c (turned c s (turns_to_text callee n) x) (operands_from c s callee (n + 1) ts)
    (turned_typed c s (turns_to_text callee n) x h all.0) (from_typed c s callee (n + 1) ts h all.1)
from_typed c s callee n (Err r ∷ ts) h all = tt

-- Typed expressions have types of the catalog.
abbrev pub TypingHolds : Type 0
TypingHolds = (c : Catalog) (s : Scope) (groups : List Expr) (place : Place) (number : ℕ)
    (expr : Expr) (x : TypedExpr) → IsScope c s
    → typing c s groups place number expr ≡ Ok x → IsTyOf c x.ty

one_typed : (c : Catalog) (t : Typing) → ((x : TypedExpr) → t ≡ Ok x → IsTyOf c x.ty) → IsTyped c t
one_typed c (Ok x) h = h x refl
one_typed c (Err r) h = tt

each_typed : TypingHolds → (c : Catalog) (s : Scope) (groups : List Expr) (place : Place)
    (number : ℕ) (es : List Expr) → IsScope c s
    → AllByRecursion (IsTyped c) (typings c s groups place number es)
each_typed law c s groups place number [] h = tt
each_typed law c s groups place number (e ∷ es) h = (
  one_typed c (typing c s groups place number e) (λ x is. law c s groups place number e x h is),
  each_typed law c s groups place (number + aggregate_count e) es h,
)

pub operands_typed : TypingHolds
    → (c : Catalog) (s : Scope) (groups : List Expr) (place : Place) (number : ℕ)
    (callee : Option Callee) (es : List Expr) (xs : List TypedExpr) → IsScope c s
    → operands c s callee (typings c s groups place number es) ≡ Ok xs → AreTyped c xs
operands_typed law c s groups place number callee es xs h e =
    All-from_recursion (λ y. IsTyOf c y.ty) xs
    (subst (λ r. IfOk r (AllByRecursion (λ (y : TypedExpr). IsTyOf c y.ty))) e
    (from_typed c s callee 0 (typings c s groups place number es) h
    (each_typed law c s groups place number es h)))
