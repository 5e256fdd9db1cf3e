use Rattle.std.proofs.Common.{sym, ap, subst, ◌∙◌, arith}
use Rattle.mc_allkeys.specs.Table.{contractions_of}
use Rattle.mc_order.specs.Meaning.{flat_list}
use Rattle.mc_uca.proofs.Filters.{filter_end}
use Rattle.mc_uca.proofs.HeadPlaces.{heads_of-ascending, heads_of-none}
use Rattle.mc_uca.specs.Heads.{heads_of}
use Rattle.mc_uca.specs.Inserts.{AreAscending}
use Rattle.mc_uca.specs.UcaMeaning.{uca_meaning}
use Rattle.mc_uca.specs.Weighing.{is_of_set}
use Rattle.mc_uca.proofs.weigher.Weigher.heads.Goals as goal

pub loop-place-init : goal.loop-place-init
loop-place-init c =
    let self = c.args.self.now in
    let list = flat_list (uca_meaning self.charset self.kind self.keys) in
    let count = c.contraction_count-place.ensures in
    record {
      within = omega (arith, count);
      heads = c.new-heads.ensures.items ∙ sym (heads_of-none list)
          ∙ ap (heads_of list) (sym (filter_end (is_of_set self.charset)
          (contractions_of self.keys.entries) _ (omega (arith, count))));
    }

pub put_head_at-requires-clause-ascending : goal.put_head_at-requires-clause-ascending
put_head_at-requires-clause-ascending c =
    let self = c.args.self.now in
    subst AreAscending (sym c.loop-place.invariant.heads)
    (heads_of-ascending (flat_list (uca_meaning self.charset self.kind self.keys)) _)
