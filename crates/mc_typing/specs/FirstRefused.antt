-- Which operand decides: the first that is refused.
use Rattle.std.specs.Prelude.{◌≡◌, List, ◌∷◌, ◌++◌, IsOk, Err}
use Rattle.std.specs.List.{AllByRecursion}
use Rattle.mc_base.specs.declared.refusal.Refusal.{Refusal}
use Rattle.mc_typing.specs.Exprs.{Typing}

-- One of these is refused so, and those before it are typed.
pub record IsFirstRefused (ts : List Typing) (refusal : Refusal) : Type 0 where
  pub before : List Typing
  pub behind : List Typing
  pub is : ts ≡ before ++ Err refusal ∷ behind
  pub typed : AllByRecursion IsOk before
