use Rattle.std.proofs.Common.{◌≡◌, ◌↔◌, ◌+◌, ◌*◌, ◌≤◌, ◌∷◌, length, min}
use Rattle.mc_charset.specs.Chars.{chars}
use Rattle.mc_like.specs.declared.item.PatternItem.TheVariants.{Any}
use Rattle.mc_like.specs.Fronts.{has_any, last_count}
use Rattle.mc_like.specs.Items.{literal_count}
use Rattle.mc_like.specs.Like.{Like}
use Rattle.mc_like.specs.Pattern.{AreOfSet}
use Rattle.mc_like.proofs.matching.is_match_behind.Given as goal

abbrev pub invariant-loop-gaps : goal.invariant-loop-gaps
invariant-loop-gaps g l =
    let set = g.E.Encoding.set in
    let m = g.C.Collation.meaning l.collation in
    let most = length l.fn.items + 1 in
    (Like m (Any ∷ l.items) (chars set l.rest) ↔ Like m (Any ∷ l.fn.items) (chars set l.text))
    × AreOfSet set l.items
    × (length l.items ≤ length l.fn.items)
    × (l.work + length (chars set l.rest) * most + length l.items
    ≤ l.fn.work + length (chars set l.text) * most + length l.fn.items)
    × (min (l.fn.work + literal_count l.fn.items) last_count
    ≤ min (l.work + literal_count l.items) last_count)
    × (l.gaps ≡ has_any l.items)
    × (min l.fn.work last_count ≤ l.work)

abbrev pub decreases-loop-gaps : goal.decreases-loop-gaps
decreases-loop-gaps g l = length (chars g.E.Encoding.set l.rest) + length l.items
