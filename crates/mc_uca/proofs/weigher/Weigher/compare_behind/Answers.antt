use Rattle.std.proofs.Common.{ℕ, List, drop, ◌∙◌}
use Rattle.mc_charset.specs.Chars.{chars}
use Rattle.mc_rules.specs.Elements.{elements_of}
use Rattle.mc_uca.proofs.CodeLemmas.{rest_is}
use Rattle.mc_uca.proofs.FlatOrder.{AreWeights, behind_front}
use Rattle.mc_uca.proofs.Splits.{split_by}
use Rattle.mc_uca.specs.Kind.{family_of, pad_of, levels_of}
use Rattle.mc_uca.specs.UcaLaws.{unpadded}
use Rattle.mc_uca.specs.Weighing.{set_contractions, uca_list}
use Rattle.mc_uca.proofs.weigher.Weigher.compare_behind.Goals as goal

pub returns : goal.returns
returns g c =
    let self = c.args.self.now in
    let set = self.charset in
    let a = c.args.a.now in
    let b = c.args.b.now in
    let start = c.args.start in
    let T = set_contractions set self.keys.entries in
    let E = elements_of self.keys (family_of self.kind) in
    let list = uca_list set self.kind self.keys in
    let shared = c.requires.shared in
    let weighed : (text : List ℕ) → AreWeights (λ level. list level (chars set text)) =
    λ text level. c.weights_law.ensures level text in
    rw (rest_is a start, rest_is b start) at c.compare_whole.ensures
    ∙ behind_front c.order_laws.ensures.front c.order_laws.ensures.levels (levels_of self.kind)
    c.args.space (pad_of self.kind) (λ level. list level (chars set a))
    (λ level. list level (chars set b)) (λ level. list level shared.0)
    (λ level. list level (chars set (drop start a))) (λ level. list level (chars set (drop start b)))
    (unpadded self.kind)
    (split_by T E c.level_law.ensures.fresh (chars set a) shared.0 (chars set (drop start a)) shared.1
    (rw c.requires.set at c.requires.first))
    (split_by T E c.level_law.ensures.fresh (chars set b) shared.0 (chars set (drop start b))
    shared.2 (rw c.requires.set at c.requires.second))
    (weighed a) (weighed b) (weighed (drop start a)) (weighed (drop start b))
