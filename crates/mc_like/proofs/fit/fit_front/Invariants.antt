use Rattle.std.proofs.Common.{◌+◌, ◌≤◌, length, min}
use Rattle.mc_charset.specs.Chars.{chars}
use Rattle.mc_like.specs.Fronts.{last_count}
use Rattle.mc_like.specs.Items.{literal_count}
use Rattle.mc_like.specs.Pattern.{AreOfSet}
use Rattle.mc_like.proofs.Passes.{Passes}
use Rattle.mc_like.proofs.fit.fit_front.Given as goal

abbrev pub invariant-loop-item : goal.invariant-loop-item
invariant-loop-item g l =
    let set = g.E.Encoding.set in
    Passes (g.C.Collation.meaning l.collation) l.fn.items l.left (chars set l.text)
    (chars set l.rest)
    × AreOfSet set l.left
    × (l.work + length l.left ≤ l.fn.work + length l.fn.items)
    × (min (l.fn.work + literal_count l.fn.items) last_count
    ≤ min (l.work + literal_count l.left) last_count)
    × (min l.fn.work last_count ≤ l.work)

abbrev pub decreases-loop-item : goal.decreases-loop-item
decreases-loop-item g l = length l.left
