use Rattle.std.proofs.Common.{refl, ◌≡◌, ◌-◌, false, true, arith}
use Rattle.mc_order.proofs.Boundary.{shares_front, take_fewer}
use Rattle.mc_order.proofs.SharedStart.{none_behind_shared, none_behind_less, parts_at_once}
use Rattle.mc_order.proofs.shared.shared_start.Goals as goal

pub loop-charset-init : goal.loop-charset-init
loop-charset-init c =
    let shared = c.shared_bytes-start.ensures in record {
      same = shared.same;
      within_first = shared.within_first;
      within_second = shared.within_second;
      none_behind = none_behind_shared c.args.charset c.args.a.now c.args.b.now _ shared.differs;
    }

pub loop-charset-preserved : goal.loop-charset-preserved
loop-charset-preserved c =
    let loop = c.loop-charset.invariant in
    let start = c.loop-charset.start in record {
      same = take_fewer c.args.a.now c.args.b.now start (start - 1) loop.same (omega arith);
      within_first = let l = loop.within_first in omega arith;
      within_second = let l = loop.within_second in omega arith;
      none_behind = none_behind_less c.args.charset c.args.a.now c.args.b.now start loop.none_behind
          (λ both. let is : false ≡ true = c.loop-charset-test.ensures.boundary.1 both in cc);
    }

pub returns-clause-shared : goal.returns-clause-shared
returns-clause-shared c =
    let both = c.loop-charset-test.ensures.boundary.0 refl in
    shares_front c.args.charset c.args.a.now c.args.b.now c.loop-charset.start
    (c.chars_law.ensures.one_list c.args.charset) (c.chars_law.ensures.decodes c.args.charset)
    (c.chars_law.ensures.joins c.args.charset) c.loop-charset.invariant.same both.0 both.1

pub returns-clause-parts : goal.returns-clause-parts
returns-clause-parts c =
    let loop = c.loop-charset.invariant in
    let both = c.loop-charset-test.ensures.boundary.0 refl in
    parts_at_once c.args.charset c.args.a.now c.args.b.now c.loop-charset.start
    (c.chars_law.ensures.joins c.args.charset) (c.chars_law.ensures.decodes c.args.charset)
    loop.none_behind loop.same both.0 both.1
