-- A text of one code point is sought among these, any other one among the contractions.
use Rattle.std.proofs.Common.{◌≡◌, ◌≢◌, List, Bor, is_some, length, get_or, sym, ap, ◌∙◌, arith}
use Rattle.mc_allkeys.specs.Singles.{single_in}
use Rattle.std.specs.FinMap as map
use Rattle.mc_allkeys.specs.declared.element.Element.{Element}
use Rattle.mc_allkeys.proofs.EntryLemmas.{some_is, one_get, other_get}
use Rattle.mc_allkeys.proofs.keys.Keys.lists.Goals as goal

pub returns-then-text-eq1 : goal.returns-then-text-eq1
returns-then-text-eq1 c =
    let one : length c.args.text.now ≡ 1 = omega arith in
    rw (← c.self.view_is)
    (c.is_some.ensures
    ∙ some_is (λ (x : Bor (List Element)). x.now) c.get.result
    (single_in c.self.inside.singles (get_or c.args.text.now 0 0)) c.get.ensures
    ∙ ap is_some (sym (one_get c.self.inside.singles c.self.inside.contractions c.self.inside.sized
    c.args.text.now one)))

pub returns-else-text-eq1 : goal.returns-else-text-eq1
returns-else-text-eq1 c =
    let other : length c.args.text.now ≢ 1 = omega arith in
    rw (← c.self.view_is)
    (c.is_some-else-text-eq1.ensures
    ∙ some_is (λ (x : Bor (List Element)). x.now) c.get-else-text-eq1.result
    (map.get c.self.inside.contractions c.args.text.now) c.get-else-text-eq1.ensures
    ∙ ap is_some (sym (other_get c.self.inside.singles c.self.inside.contractions c.self.inside.sized
    c.args.text.now other)))
