use Rattle.std.proofs.Common.{◌+◌, length-drop, take, refl, sym, subst, inl, inr, arith}
use Rattle.mc_uca.specs.Weighing.{set_contractions}
use Rattle.mc_uca.proofs.CodeLemmas.{rest_is}
use Rattle.mc_uca.proofs.Fronts.{IsLast, front_none, front_more, on_true, same_spelled, shared_before}
use Rattle.mc_uca.proofs.weigher.Weigher.last_fresh.Goals as goal
use Rattle.mc_uca.proofs.weigher.Weigher.last_fresh.Goals.{then-are_fresh, else-are_fresh}

pub loop-at-init : goal.loop-at-init
loop-at-init g c = record {
  walked = (0, front_none g.E.Encoding.set c.args.a.now);
  within_first = omega arith;
  within_second = omega arith;
  fresh = inl refl;
}

pub loop-at-preserved : goal.loop-at-preserved
loop-at-preserved g c =
    let set = g.E.Encoding.set in
    let a = c.args.a.now in
    let b = c.args.b.now in
    let at = c.loop-at.at in
    let loop = c.loop-at.invariant in
    let T = set_contractions c.args.self.now.charset c.args.self.now.keys.entries in
    let shared = c.requires.shared in
    let below = c.loop-at-test.true in
    let first = rw (rest_is a at) at c.in-Char.ensures.first in
    let heads = rw (rest_is a at) at c.in-Char.ensures.heads in
    let inside = first.within in
    let within = loop.walked.1.within in
    let long = length-drop at a in
    let end_first = c.requires.within_first in
    let end_second = c.requires.within_second in
    let last : IsLast set T a b c.if-are_fresh.last =
    elim c.if-are_fresh.branch [
      | then-are_fresh w ↦ subst (IsLast set T a b) (sym w.last-is) (
        omega (arith, below, end_first),
        omega (arith, below, end_second),
        inr (record {
          shared = shared_before set a b loop.walked.0 at c.args.end (c.chars_law.ensures.fronts set)
              loop.walked.1 (omega (arith, below))
              (same_spelled c.args.self.now.charset shared.0 (take c.args.end a)
              (take c.args.end b) shared.3 shared.4);
          first = on_true _ w.if-are_fresh.true (rw (rest_is a at) at c.are_fresh.ensures.first);
          second = on_true _ w.if-are_fresh.true (rw (rest_is b at) at c.are_fresh.ensures.second);
        }),
      )
      | else-are_fresh w ↦ subst (IsLast set T a b) (sym w.last-is)
          (loop.within_first, loop.within_second, loop.fresh)
    ] in
    record {
      walked = (
        loop.walked.0 + 1,
        front_more set a loop.walked.0 at c.in-Char.code c.in-Char.len c.chars_law.ensures.joins
            loop.walked.1 first.spelled (omega (arith, within, inside, long)) heads.0,
      );
      within_first = last.0;
      within_second = last.1;
      fresh = last.2;
    }
