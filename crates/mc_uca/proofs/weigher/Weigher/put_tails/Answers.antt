use Rattle.std.proofs.Common.{◌≡◌, ◌-◌, ◌+◌, drop, sym, subst, arith}
use Rattle.std.specs.Option.{is_some}
use Rattle.mc_charset.specs.Chars.{spell}
use Rattle.mc_order.specs.Tails.{fronts}
use Rattle.mc_uca.proofs.TailPlaces.{tails_with-ascending}
use Rattle.mc_uca.proofs.TailSteps.{all_prefixes, prefix_more}
use Rattle.mc_uca.specs.Inserts.{AreAscending}
use Rattle.mc_uca.specs.SetContractions.{all-take}
use Rattle.mc_uca.specs.Weighing.{uca_list}
use Rattle.mc_uca.proofs.weigher.Weigher.put_tails.Goals as goal

pub loop-len-init : goal.loop-len-init
loop-len-init c =
    let self = c.args.self.now in
    record {
      some = c.requires.some;
      within = omega arith;
      tails = all_prefixes (uca_list self.charset self.kind self.keys 1) c.args.text.now
          c.args.tails.now.items;
    }

pub put_tail-requires-clause-of_set : goal.put_tail-requires-clause-of_set
put_tail-requires-clause-of_set c =
    all-take (λ code. is_some (spell c.args.self.now.charset code)) (c.loop-len.len - 1)
    c.args.text.now c.requires.of_set

pub put_tail-requires-clause-ascending : goal.put_tail-requires-clause-ascending
put_tail-requires-clause-ascending c =
    let self = c.args.self.now in
    subst AreAscending (sym c.loop-len.invariant.tails)
    (tails_with-ascending (uca_list self.charset self.kind self.keys 1)
    (drop c.loop-len.len (fronts c.args.text.now)) c.args.tails.now.items c.requires.ascending)

pub loop-len-preserved : goal.loop-len-preserved
loop-len-preserved c =
    let self = c.args.self.now in
    let more = c.loop-len-test.true in
    let within = c.loop-len.invariant.within in
    let back : c.loop-len.len ≡ c.loop-len.len - 1 + 1 = omega (arith, more) in
    record {
      some = omega (arith, more);
      within = omega (arith, within);
      tails = prefix_more (uca_list self.charset self.kind self.keys 1) c.args.text.now
          (c.loop-len.len - 1) c.loop-len.len c.loop-len.tails.items _ c.args.tails.now.items back
          (omega (arith, more, within)) c.loop-len.invariant.tails c.in_ok-put_tail.ensures;
    }
