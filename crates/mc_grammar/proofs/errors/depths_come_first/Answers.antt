use Rattle.mc_grammar.proofs.Tops.{too_deep_within_before, too_deep_goes_on, too_deep_at}
use Rattle.mc_grammar.proofs.errors.depths_come_first.Goals as goal

pub returns : goal.returns
returns g c = λ grammar tables deeper tv nv d limit r tokens rest o. (
  too_deep_within_before grammar tables deeper tv nv limit r tokens rest o,
  too_deep_goes_on grammar tables deeper tv nv limit r tokens rest o,
  λ p. too_deep_at grammar tables deeper tv nv d limit r tokens rest o p,
)
