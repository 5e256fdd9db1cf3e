use Rattle.mc_grammar.proofs.SameReadings.{same_readings}
use Rattle.mc_grammar.proofs.unique.readings_are_unique.Goals as goal

pub returns : goal.returns
returns g c = λ grammar tables depth decides r tokens f h.
    same_readings grammar tables depth decides r tokens f h
