use Rattle.std.proofs.Common.{◌+◌, drop, filter, sym, ap, ◌∙◌, arith}
use Rattle.mc_order.specs.Tails.{tails_of}
use Rattle.mc_allkeys.specs.Table.{contractions_of}
use Rattle.mc_uca.specs.Weighing.{is_of_set, uca_list}
use Rattle.mc_uca.proofs.Filters.{filter_failing, filter_passing}
use Rattle.mc_uca.proofs.Places.{at_place}
use Rattle.mc_uca.proofs.TailSteps.{more_tails}
use Rattle.mc_uca.proofs.weigher.Weigher.put_tails_at.Goals as goal

pub put_tails-requires-clause-some : goal.put_tails-requires-clause-some
put_tails-requires-clause-some c =
    let entries = c.args.self.now.keys.entries in
    let text = c.contraction-text.result.now in
    let one = at_place (contractions_of entries) c.args.place text c.requires.within
    c.contraction-text.ensures in
    let two = ((c.longest_law.ensures.all entries text).sound text one).0 in
    omega (arith, two)

pub returns-then-not-is_of_set : goal.returns-then-not-is_of_set
returns-then-not-is_of_set c = λ h.
    let self = c.args.self.now in
    let first = uca_list self.charset self.kind self.keys 1 in
    let text = c.contraction-text.result.now in
    h ∙ ap (tails_of first) (sym (filter_failing (is_of_set self.charset)
    (contractions_of self.keys.entries) c.args.place text c.requires.within c.contraction-text.ensures
    (sym c.is_of_set.ensures ∙ c.if-not-is_of_set.true)))

pub returns : goal.returns
returns c = λ h.
    let self = c.args.self.now in
    let first = uca_list self.charset self.kind self.keys 1 in
    let text = c.contraction-text.result.now in
    let xs = contractions_of self.keys.entries in
    more_tails first text (filter (is_of_set self.charset) (drop (c.args.place + 1) xs)) _ _ _
    (filter_passing (is_of_set self.charset) xs c.args.place text c.requires.within
    c.contraction-text.ensures (sym c.is_of_set.ensures ∙ c.if-not-is_of_set.false)) h
    c.in_ok-put_tails.ensures
