use Rattle.std.proofs.Common.{◌+◌, drop, filter, sym, ap, ◌∙◌, arith}
use Rattle.mc_allkeys.specs.Table.{contractions_of}
use Rattle.mc_order.specs.Meaning.{flat_list}
use Rattle.mc_uca.proofs.Filters.{filter_failing, filter_passing}
use Rattle.mc_uca.proofs.HeadPlaces.{put_on_ok}
use Rattle.mc_uca.proofs.Places.{at_place}
use Rattle.mc_uca.specs.Heads.{heads_of}
use Rattle.mc_uca.specs.UcaMeaning.{uca_meaning}
use Rattle.mc_uca.specs.Weighing.{is_of_set}
use Rattle.mc_uca.proofs.weigher.Weigher.put_head_at.Goals as goal

pub returns-then-not-is_of_set : goal.returns-then-not-is_of_set
returns-then-not-is_of_set c = λ h.
    let self = c.args.self.now in
    let list = flat_list (uca_meaning self.charset self.kind self.keys) in
    let text = c.contraction-text.result.now in
    h ∙ ap (heads_of list) (sym (filter_failing (is_of_set self.charset)
    (contractions_of self.keys.entries) c.args.place text c.requires.within
    c.contraction-text.ensures (sym c.is_of_set.ensures ∙ c.if-not-is_of_set.true)))

pub returns : goal.returns
returns c =
    let self = c.args.self.now in
    let list = flat_list (uca_meaning self.charset self.kind self.keys) in
    let text = c.contraction-text.result.now in
    let xs = contractions_of self.keys.entries in
    let one = at_place xs c.args.place text c.requires.within c.contraction-text.ensures in
    let two = ((c.longest_law.ensures.all self.keys.entries text).sound text one).0 in
    put_on_ok c.put_head.result list text
    (filter (is_of_set self.charset) (drop (c.args.place + 1) xs)) _ _ _
    (filter_passing (is_of_set self.charset) xs c.args.place text c.requires.within
    c.contraction-text.ensures (sym c.is_of_set.ensures ∙ c.if-not-is_of_set.false))
    (omega (arith, two)) c.put_head.ensures

pub put_head-requires-clause-codes : goal.put_head-requires-clause-codes
put_head-requires-clause-codes c =
    let entries = c.args.self.now.keys.entries in
    let text = c.contraction-text.result.now in
    let one = at_place (contractions_of entries) c.args.place text c.requires.within
    c.contraction-text.ensures in
    (c.keys_law.ensures.texts text
    ((c.longest_law.ensures.all entries text).sound text one).1).codes

pub put_head-requires-clause-some : goal.put_head-requires-clause-some
put_head-requires-clause-some c =
    let entries = c.args.self.now.keys.entries in
    let text = c.contraction-text.result.now in
    let one = at_place (contractions_of entries) c.args.place text c.requires.within
    c.contraction-text.ensures in
    (c.keys_law.ensures.texts text ((c.longest_law.ensures.all entries text).sound text one).1).some
