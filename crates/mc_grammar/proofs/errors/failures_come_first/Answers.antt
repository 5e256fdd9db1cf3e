use Rattle.std.proofs.Common.{◌∷◌}
use Rattle.mc_grammar.proofs.Tops.{fails_within, fails_at}
use Rattle.mc_grammar.proofs.errors.failures_come_first.Goals as goal

pub returns : goal.returns
returns g c = λ grammar tables deeper tv nv d limit r tokens next behind o. (
  fails_within grammar tables deeper tv nv limit r tokens (next ∷ behind) o,
  λ p. fails_at grammar tables deeper tv nv d limit r tokens next behind o p,
)
