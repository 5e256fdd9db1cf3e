use Rattle.std.proofs.Common.{refl, arith}
use Rattle.std.proofs.lemmas.Option.{MatchOption-at_some, slice_get_read}
use Rattle.std.specs.Prelude.{⊤}
use Rattle.mc_plan.specs.Plans.{ranges}
use Rattle.mc_plan.specs.Steps.{RejectsOutside}
use Rattle.mc_plan.proofs.Found.{found_here, none_more, none_yet}
use Rattle.mc_plan.proofs.Outside.{reject_outside}
use Rattle.mc_plan.proofs.choice.first_conjunct.Goals as goal

pub loop-i-init : goal.loop-i-init
loop-i-init g c =
    none_yet (ranges (g.B.Book.meaning c.args.book.now) c.args.index.now c.args.coll)
    c.args.conjuncts.now

pub returns-in-Some-clause-is : goal.returns-in-Some-clause-is
returns-in-Some-clause-is g c =
    let given = ranges (g.B.Book.meaning c.args.book.now) c.args.index.now c.args.coll in
    let e = c.index-conjuncts-i.result in
    found_here given c.args.conjuncts.now c.loop-i.i c.in_ok-place_at-in-Some.field-0 e
    c.in-Some.found c.in_ok-found.field-0
    (slice_get_read c.args.conjuncts.now _ c.loop-i.i e refl (omega arith) c.index-conjuncts-i.is)
    c.in_ok-place_at-in-Some.ensures c.in-Some.is c.in_ok-found.ensures.is c.loop-i.invariant

pub returns-in-Some-clause-rejects : goal.returns-in-Some-clause-rejects
returns-in-Some-clause-rejects g c =
    let m = g.B.Book.meaning c.args.book.now in
    let e = c.index-conjuncts-i.result in
    reject_outside m c.args.index.now c.args.coll c.args.conjuncts.now c.loop-i.i e c.in-Some.found
    (slice_get_read c.args.conjuncts.now _ c.loop-i.i e refl (omega arith) c.index-conjuncts-i.is)
    (MatchOption-at_some ⊤ (RejectsOutside m c.args.index.now c.args.coll e) c.in-Some.found
    c.in-Some.is c.in_ok-found.ensures.rejects)

pub loop-i-preserved : goal.loop-i-preserved
loop-i-preserved g c =
    let given = ranges (g.B.Book.meaning c.args.book.now) c.args.index.now c.args.coll in
    let e = c.index-conjuncts-i.result in
    none_more given c.args.conjuncts.now c.loop-i.i e c.in_ok-found.field-0
    (slice_get_read c.args.conjuncts.now _ c.loop-i.i e refl (omega arith) c.index-conjuncts-i.is)
    c.in-None.is c.in_ok-found.ensures.is c.loop-i.invariant
