use Rattle.std.proofs.Common.{◌≡◌, drop, filter}
use Rattle.mc_allkeys.specs.Table.{contractions_of}
use Rattle.mc_uca.specs.Weighing.{is_of_set, set_contractions}
use Rattle.mc_uca.proofs.weigher.Weigher.has_contractions.Given as goal

abbrev pub invariant-loop-place : goal.invariant-loop-place
invariant-loop-place l =
    filter (is_of_set l.self.charset) (drop l.place (contractions_of l.self.keys.entries))
    ≡ set_contractions l.self.charset l.self.keys.entries
