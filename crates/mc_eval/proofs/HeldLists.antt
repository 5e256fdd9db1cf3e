-- Tests of held operands are tests of their values.
use Rattle.std.proofs.Common.{◌≡◌, false, ◌||◌, List, [], ◌∷◌, map, refl, ap}
use Rattle.std.specs.List.{list_any}
use Rattle.mc_eval.specs.Held.{held_value, held_values}
use Rattle.mc_eval.specs.Texts.{is_null}
use Rattle.mc_eval.specs.declared.held.Held.{Held}
use Rattle.mc_eval.specs.declared.truth.Truth.{Truth}
use Rattle.mc_eval.specs.Truths.{turned}

pub any_null : (helds : List Held) → list_any (λ held. is_null (held_value held)) helds ≡ list_any is_null (held_values helds)
any_null [] = refl
any_null (held ∷ helds) = ap (λ b. is_null (held_value held) || b) (any_null helds)

pub turned_none : (truths : List Truth) → map (turned false) truths ≡ truths
turned_none [] = refl
turned_none (t ∷ truths) = ap (λ ts. t ∷ ts) (turned_none truths)
