use Rattle.mc_grammar.proofs.Tops.{whole_reading}
use Rattle.mc_grammar.proofs.whole.whole_readings_have_values.Goals as goal

pub returns : goal.returns
returns g c = λ grammar tables deeper tv nv after limit look r view tokens value b s h o.
    whole_reading grammar tables deeper tv nv after limit look r view tokens value b s h o
