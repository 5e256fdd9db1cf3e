use Rattle.std.proofs.Common.{◌≡◌, ◌++◌, length}
use Rattle.mc_charset.specs.Chars.{chars}
use Rattle.mc_like.specs.Items.{items_of}
use Rattle.mc_like.specs.Pattern.{AreOfSet}
use Rattle.mc_like.proofs.read.put_items.Given as goal

abbrev pub invariant-loop-item : goal.invariant-loop-item
invariant-loop-item l =
    (l.items ++ items_of l.escape (chars l.set l.rest)
    ≡ l.fn.items ++ items_of l.escape (chars l.set l.text))
    × AreOfSet l.set l.items

abbrev pub decreases-loop-item : goal.decreases-loop-item
decreases-loop-item l = length l.rest
