-- The conjuncts of WHERE behind others, and whether an expression among them is a text.
use Rattle.std.specs.Prelude.{ℕ, Bool, false, ◌||◌, List, [], ◌∷◌, ◌++◌, Result, Ok, Err}
use Rattle.std.specs.Prelude.{if◌then◌else◌}
use Rattle.mc_base.specs.Results.{result_and_then}
use Rattle.mc_base.specs.declared.refusal.Refusal.{Refusal}
use Rattle.mc_typing.specs.declared.typed.TypedExpr.{TypedExpr}
use Rattle.mc_typing.specs.Exprs.{Typing}
use Rattle.mc_typing.specs.Messages.{wrong_argument}
use Rattle.mc_typing.specs.Operands.{is_text}
use Rattle.mc_typing.specs.Statements.{conjuncts}

-- The conjuncts of an expression behind others, and whether it is a text.
abbrev pub gathered : List TypedExpr → Typing → Result (List TypedExpr × Bool) Refusal
gathered xs t = result_and_then (λ x. Ok (xs ++ conjuncts x, is_text x.ty)) t

-- The expression alone behind others, and whether it is a text.
abbrev pub alone : List TypedExpr → Typing → Result (List TypedExpr × Bool) Refusal
alone xs t = result_and_then (λ x. Ok (xs ++ x ∷ [], is_text x.ty)) t

-- The conjuncts of expressions behind others, and whether one of them is a text, or was one before.
abbrev pub gathered_all : List TypedExpr → Bool → List Typing
    → Result (List TypedExpr × Bool) Refusal
gathered_all xs text [] = Ok (xs, text)
gathered_all xs text (t ∷ ts) =
    result_and_then (λ x. gathered_all (xs ++ conjuncts x) (text || is_text x.ty) ts) t

-- Where an expression among them is a text, an operation on numbers is refused.
abbrev pub judged : List ℕ → Result (List TypedExpr × Bool) Refusal
    → Result (List TypedExpr × Bool) Refusal
judged op found =
    result_and_then (λ p. if p.1 then Err (wrong_argument op) else Ok (p.0, false)) found
