use Rattle.std.proofs.Common.{◌↔◌, ◌≤◌, length}
use Rattle.mc_charset.specs.Chars.{chars}
use Rattle.mc_convert.specs.Classes.{HasAll, rank}
use Rattle.mc_convert.specs.declared.repertoire.Repertoire.{Repertoire}
use Rattle.mc_convert.proofs.repertoire.class_of_each.Given as goal

-- A class has the whole text exactly where it has what was passed and what is left.
abbrev pub invariant-loop-code : goal.invariant-loop-code
invariant-loop-code g l =
    (other : Repertoire) → HasAll g.E.Encoding.set other (chars g.E.Encoding.set l.text)
    ↔ ((rank l.class ≤ rank other) × HasAll g.E.Encoding.set other (chars g.E.Encoding.set l.rest))

abbrev pub decreases-loop-code : goal.decreases-loop-code
decreases-loop-code g l = length l.rest
