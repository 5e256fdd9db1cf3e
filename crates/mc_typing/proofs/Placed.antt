-- Operands behind others are those from a place on; and a list of typings has as many members.
use Rattle.std.proofs.Common.{◌≡◌, ℕ, suc, ◌+◌, List, [], ◌∷◌, ◌++◌, Option, arith}
use Rattle.std.proofs.Common.{length, refl, sym, ap, ◌∙◌, append_assoc}
use Rattle.std.proofs.Common.{length-append, append-nil}
use Rattle.std.specs.Prelude.{IfOk, Result, Ok, Err}
use Rattle.mc_base.specs.Results.{result_and_then}
use Rattle.mc_base.specs.declared.refusal.Refusal.{Refusal}
use Rattle.mc_ast.specs.declared.expr.Expr.{Expr}
use Rattle.mc_catalog.specs.declared.catalog.Catalog.{Catalog}
use Rattle.mc_typing.specs.declared.callee.Callee.{Callee}
use Rattle.mc_typing.specs.declared.place.Place.{Place}
use Rattle.mc_typing.specs.declared.scope.Scope.{Scope}
use Rattle.mc_typing.specs.declared.typed.TypedExpr.{TypedExpr}
use Rattle.mc_typing.specs.Aggregates.{aggregate_count, total}
use Rattle.mc_typing.specs.Exprs.{Typing, before, operands, operands_from, plain, turned, typing}
use Rattle.mc_typing.specs.Exprs.{typings}
use Rattle.mc_typing.specs.Functions.{turns_to_text}
use Rattle.mc_typing.specs.Statements.{behind}
use Rattle.mc_typing.specs.Walk.{with_operand, with_operands}
use Rattle.mc_typing.specs.Whole.{with_typings}

-- How many

many_before : (x : TypedExpr) (n : ℕ) (others : Result (List TypedExpr) Refusal)
    → IfOk others (λ xs. length xs ≡ n) → IfOk (before x others) (λ xs. length xs ≡ suc n)
many_before x n (Ok xs) h = ap suc h
many_before x n (Err r) h = tt

pub operands_many : (c : Catalog) (s : Scope) (callee : Option Callee) (n : ℕ) (ts : List Typing)
    → IfOk (operands_from c s callee n ts) (λ xs. length xs ≡ length ts)
operands_many c s callee n [] = refl
operands_many c s callee n (Err r ∷ ts) = tt
operands_many c s callee n (Ok x ∷ ts) =
    many_before (turned c s (turns_to_text callee n) x) (length ts)
    (operands_from c s callee (n + 1) ts) (operands_many c s callee (n + 1) ts)

pub typings_many : (c : Catalog) (s : Scope) (groups : List Expr) (place : Place) (number : ℕ)
    (es : List Expr) → length (typings c s groups place number es) ≡ length es
typings_many c s groups place number [] = refl
typings_many c s groups place number (e ∷ es) =
    ap suc (typings_many c s groups place (number + aggregate_count e) es)

-- Behind others

behind-before : (xs : List TypedExpr) (x : TypedExpr) (others : Result (List TypedExpr) Refusal)
    → behind (xs ++ x ∷ []) others ≡ behind xs (before x others)
behind-before xs x (Ok ys) = ap Ok (append_assoc xs (x ∷ []) ys)
behind-before xs x (Err r) = refl

pub from_nothing : (others : Result (List TypedExpr) Refusal) → behind [] others ≡ others
from_nothing (Ok ys) = refl
from_nothing (Err r) = refl

-- Operands behind others, and the number behind all their aggregates
abbrev pub behind_at : List TypedExpr → ℕ → Result (List TypedExpr) Refusal
    → Result (List TypedExpr × ℕ) Refusal
behind_at xs n others = result_and_then (λ ys. Ok (xs ++ ys, n)) others

at-before : (xs : List TypedExpr) (x : TypedExpr) (n m : ℕ) → n ≡ m
    → (others : Result (List TypedExpr) Refusal)
    → behind_at (xs ++ x ∷ []) n others ≡ behind_at xs m (before x others)
at-before xs x n m e (Ok ys) =
    ap (λ zs. Ok (zs, n)) (append_assoc xs (x ∷ []) ys) ∙ ap (λ k. Ok (xs ++ x ∷ ys, k)) e
at-before xs x n m e (Err r) = refl

module _ (c : Catalog) (s : Scope) (groups : List Expr) (place : Place)
    (callee : Option Callee) where
  abbrev rest : List TypedExpr → ℕ → List Expr → Result (List TypedExpr × ℕ) Refusal
  rest xs number es = behind_at xs (number + total aggregate_count es)
      (operands_from c s callee (length xs) (typings c s groups place number es))

  -- With the typing of the first, which those behind it are numbered from
  placed_one : (xs : List TypedExpr) (number next : ℕ) (e : Expr) (es : List Expr)
      → ((ys : List TypedExpr) → with_operands c s groups place callee ys next es
      ≡ rest ys next es)
      → next ≡ number + aggregate_count e → (t : Typing)
      → result_and_then {T = List TypedExpr × ℕ}
      (λ left. with_operands c s groups place callee left.0 left.1 es)
      (with_operand c s callee xs (result_and_then (λ x. Ok (x, next)) t))
      ≡ behind_at xs (number + total aggregate_count (e ∷ es))
      (operands_from c s callee (length xs) (t ∷ typings c s groups place next es))
  placed_one xs number next e es others is (Err r) = refl
  placed_one xs number next e es others is (Ok x) =
      let y = turned c s (turns_to_text callee (length xs)) x in
      let ts = typings c s groups place next es in
      let same : next + total aggregate_count es ≡ number + total aggregate_count (e ∷ es) =
      omega (arith, is) in
      others (xs ++ y ∷ [])
      ∙ (ap (λ n. behind_at (xs ++ y ∷ []) (next + total aggregate_count es)
      (operands_from c s callee n ts)) (length-append xs (y ∷ []))
      ∙ at-before xs y (next + total aggregate_count es)
      (number + total aggregate_count (e ∷ es)) same
      (operands_from c s callee (length xs + 1) ts))

  pub placed : (xs : List TypedExpr) (number : ℕ) (es : List Expr)
      → with_operands c s groups place callee xs number es ≡ rest xs number es
  placed xs number [] =
      let none : number ≡ number + 0 = omega arith in
      ap (λ ys. Ok (ys, number)) (sym (append-nil xs)) ∙ ap (λ n. Ok (xs ++ [], n)) none
  placed xs number (e ∷ es) =
      placed_one xs number (number + aggregate_count e) e es
      (λ ys. placed ys (number + aggregate_count e) es) refl (typing c s groups place number e)

-- Expressions of GROUP BY

pub with_each : (c : Catalog) (s : Scope) (n : ℕ) (xs : List TypedExpr) (ts : List Typing)
    → with_typings xs ts ≡ behind xs (operands_from c s plain n ts)
with_each c s n xs [] = ap Ok (sym (append-nil xs))
with_each c s n xs (Err r ∷ ts) = refl
with_each c s n xs (Ok x ∷ ts) =
    with_each c s (n + 1) (xs ++ x ∷ []) ts
    ∙ behind-before xs x (operands_from c s plain (n + 1) ts)

pub all_typings : (c : Catalog) (s : Scope) (ts : List Typing)
    → with_typings [] ts ≡ operands c s plain ts
all_typings c s ts = with_each c s 0 [] ts ∙ from_nothing (operands c s plain ts)

-- Of operands as they are the place doesn't matter.
pub plain_from : (c : Catalog) (s : Scope) (n m : ℕ) (ts : List Typing)
    → operands_from c s plain n ts ≡ operands_from c s plain m ts
plain_from c s n m [] = refl
plain_from c s n m (Ok x ∷ ts) = ap (before x) (plain_from c s (n + 1) (m + 1) ts)
plain_from c s n m (Err r ∷ ts) = refl
