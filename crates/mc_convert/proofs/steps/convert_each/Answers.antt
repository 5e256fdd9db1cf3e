use Rattle.std.proofs.Common.{◌+◌, ◌-◌, Ok, length, take, drop, sym, ap, ◌∙◌, subst}
use Rattle.mc_convert.specs.Steps.{Takes}
use Rattle.mc_convert.specs.declared.steps.Taken.{Taken}
use Rattle.mc_convert.proofs.StepLemmas.{Reached_lost, Reached_lost_one, Reached_within, ReachedBehind, ReachedBehind_start, ReachedBehind_step, ReachedBehind_end, ReachedBehind_front}
use Rattle.mc_convert.proofs.steps.convert_each.Goals as goal

pub loop-count-init : goal.loop-count-init
loop-count-init g c =
    ReachedBehind_start g.F.Encoding.set g.T.Encoding.set c.args.text.now c.args.out.now

pub loop-count-preserved : goal.loop-count-preserved
loop-count-preserved g c =
    let from = g.F.Encoding.set in
    let to = g.T.Encoding.set in
    let taken = subst (λ (t : Taken). Takes from to c.loop-count.rest.now c.loop-count.out c.take_front.new.out (Ok t)) c.in-Ok-Front.field-0-is c.in-Ok-Front.ensures in
    rw c.first_lost-lost.ensures
    (ReachedBehind_step from to c.args.text.now c.loop-count.rest.now c.args.out.now c.loop-count.out
    c.take_front.new.out c.loop-count.place c.in-Ok-Front.len c.in-Ok-Front.count c.loop-count.lost c.in-Ok-Front.fit
    (c.chars_law.ensures.joins to) c.loop-count.invariant taken)

pub returns-in-Ok-Nothing : goal.returns-in-Ok-Nothing
returns-in-Ok-Nothing g c =
    let from = g.F.Encoding.set in
    let to = g.T.Encoding.set in
    let text = c.args.text.now in
    let base = c.args.out.now in
    let rest = c.loop-count.rest.now in
    let old = c.loop-count.out in
    let place = c.loop-count.place in
    let lost = c.loop-count.lost in
    let behind = c.loop-count.invariant in
    let none = subst (λ (t : Taken). Takes from to rest old c.take_front.new.out (Ok t)) c.in-Ok-Nothing.field-0-is c.in-Ok-Nothing.ensures in
    record {
      appends = λ whole. rw none.1 (ReachedBehind_end from to text rest base old place lost behind none.0);
      lost = Reached_lost from to text rest behind.done place lost behind.reached none.0;
      within = Reached_within from to text rest behind.done place lost behind.reached;
      err = tt;
    }

pub returns-then-is_some-clause-lost : goal.returns-then-is_some-clause-lost
returns-then-is_some-clause-lost g c =
    let from = g.F.Encoding.set in
    let to = g.T.Encoding.set in
    let text = c.args.text.now in
    let base = c.args.out.now in
    let rest = c.loop-count.rest.now in
    let new = c.take_front.new.out in
    let place = c.loop-count.place in
    let len = c.in-Ok-Front.len in
    let count = c.in-Ok-Front.count in
    let taken = subst (λ (t : Taken). Takes from to rest c.loop-count.out new (Ok t)) c.in-Ok-Front.field-0-is c.in-Ok-Front.ensures in
    let behind : ReachedBehind from to text (take (length rest - len) (drop len rest)) base new (place + count) c.first_lost-lost.result =
    rw c.first_lost-lost.ensures
    (ReachedBehind_step from to text rest base c.loop-count.out new place len count c.loop-count.lost c.in-Ok-Front.fit
    (c.chars_law.ensures.joins to) c.loop-count.invariant taken) in
    Reached_lost_one from to text (take (length rest - len) (drop len rest)) behind.done (place + count) c.first_lost-lost.result
    behind.reached (sym c.is_some.ensures ∙ c.if-is_some.true)

pub returns-in-Err-clause-err : goal.returns-in-Err-clause-err
returns-in-Err-clause-err g c =
    ap (take (length c.args.out.now)) c.in-Err.ensures
    ∙ ReachedBehind_front g.F.Encoding.set g.T.Encoding.set c.args.text.now c.loop-count.rest.now c.args.out.now c.loop-count.out
    c.loop-count.place c.loop-count.lost c.loop-count.invariant
