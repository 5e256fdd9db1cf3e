-- No contraction that begins the text is longer than what is noted for its first code point.
use Rattle.std.proofs.Common.{List, Bor, arith}
use Rattle.mc_allkeys.specs.declared.element.Element.{Element}
use Rattle.mc_allkeys.proofs.EntryLemmas.{longer_all, longest_lift, unreached_text}
use Rattle.mc_allkeys.proofs.keys.Keys.longest.Goals as goal

pub longest-requires : goal.longest-requires
longest-requires c =
    let noted = c.reach-reach.ensures in
    unreached_text c.self.inside.singles c.self.inside.contractions c.self.inside.reaches
    c.args.text.now (omega arith) c.reach-reach.result (omega (arith, noted))

pub returns-then-reach-lt2 : goal.returns-then-reach-lt2
returns-then-reach-lt2 c =
    let noted = c.reach-reach.ensures in
    rw (← c.self.view_is)
    (longer_all c.self.inside.singles c.self.inside.contractions c.self.inside.sized c.args.text.now 1
    (unreached_text c.self.inside.singles c.self.inside.contractions c.self.inside.reaches
    c.args.text.now (omega arith) 1 (omega (arith, noted))))

pub returns : goal.returns
returns c =
    rw (← c.self.view_is)
    (longest_lift (λ (x : Bor (List Element)). x.now) c.self.inside.singles c.self.inside.contractions
    c.self.inside.sized c.args.text.now c.longest.result c.longest.ensures)
