use Rattle.mc_grammar.proofs.Tops.{fails_whole, fails_at_end}
use Rattle.mc_grammar.proofs.errors.ends_come_first.Goals as goal

pub returns : goal.returns
returns g c = λ grammar tables deeper tv nv d limit r tokens o. (
  fails_whole grammar tables deeper tv nv limit r tokens o,
  λ f p. fails_at_end grammar tables deeper tv nv d limit r tokens f o p,
)
