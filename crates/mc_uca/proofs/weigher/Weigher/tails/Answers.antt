use Rattle.std.proofs.Common.{sym, ap, subst, ◌∙◌, arith}
use Rattle.mc_order.specs.Tails.{tails_of}
use Rattle.mc_allkeys.specs.Table.{contractions_of}
use Rattle.mc_uca.specs.Weighing.{is_of_set, uca_list}
use Rattle.mc_uca.proofs.Filters.{filter_end}
use Rattle.mc_uca.proofs.TailPlaces.{tails_of-ascending}
use Rattle.mc_uca.proofs.TailSteps.{tails_of-none}
use Rattle.mc_uca.specs.Inserts.{AreAscending}
use Rattle.mc_uca.proofs.weigher.Weigher.tails.Goals as goal

pub loop-place-init : goal.loop-place-init
loop-place-init c =
    let self = c.args.self.now in
    let first = uca_list self.charset self.kind self.keys 1 in
    let count = c.contraction_count-place.ensures in
    record {
      within = omega (arith, count);
      tails = c.new-tails.ensures.items ∙ sym (tails_of-none first)
          ∙ ap (tails_of first) (sym (filter_end (is_of_set self.charset)
          (contractions_of self.keys.entries) _ (omega (arith, count))));
    }

pub put_tails_at-requires-clause-ascending : goal.put_tails_at-requires-clause-ascending
put_tails_at-requires-clause-ascending c =
    let self = c.args.self.now in
    subst AreAscending (sym c.loop-place.invariant.tails)
    (tails_of-ascending (uca_list self.charset self.kind self.keys 1) _)
