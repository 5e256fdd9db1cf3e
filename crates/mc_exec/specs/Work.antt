-- The statements that may count work: those with LIKE.
use Rattle.std.specs.Prelude.{Bool, ◌||◌}
use Rattle.std.specs.List.{list_any}
use Rattle.mc_typing.specs.declared.typed.Typed.{Typed}
use Rattle.mc_eval.specs.Fit.{has_like}

-- LIKE stands in a condition, an expression of GROUP BY, an item or a key of the statement.
abbrev pub uses_like : Typed → Bool
uses_like q = list_any has_like q.conjuncts || (list_any has_like q.groups
    || (list_any has_like q.items || list_any (λ key. has_like key.expr) q.orders))
