use Rattle.std.proofs.Common.{◌∷◌, [], None}
use Rattle.mc_grammar.proofs.Tops.{done_within, left_over_at}
use Rattle.mc_grammar.proofs.errors.left_tokens_come_first.Goals as goal

pub returns : goal.returns
returns g c = λ grammar tables deeper tv nv d limit r tokens next behind value o. (
  done_within grammar tables deeper tv nv (None ∷ []) limit 1 r tokens (next ∷ behind) value o,
  λ p. left_over_at grammar tables deeper tv nv d limit r tokens next behind value o p,
)
