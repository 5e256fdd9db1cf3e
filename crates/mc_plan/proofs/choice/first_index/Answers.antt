use Rattle.std.proofs.Common.{◌≡◌, refl, sym, subst, arith, get_or}
use Rattle.std.proofs.lemmas.Option.{MatchOption-at_some, slice_get_read}
use Rattle.std.specs.Prelude.{⊤, IsSomeAnd}
use Rattle.mc_plan.specs.Plans.{index_choice}
use Rattle.mc_plan.specs.Steps.{RejectRest}
use Rattle.mc_plan.proofs.Found.{found_here, none_more, none_yet}
use Rattle.mc_plan.proofs.choice.first_index.Goals as goal

pub loop-i-init : goal.loop-i-init
loop-i-init g c =
    none_yet (index_choice (g.B.Book.meaning c.args.book.now) c.args.columns.now
    c.args.conjuncts.now) c.args.indexes.now

pub returns-in-Some-clause-is : goal.returns-in-Some-clause-is
returns-in-Some-clause-is g c =
    let given = index_choice (g.B.Book.meaning c.args.book.now) c.args.columns.now
    c.args.conjuncts.now in
    let index = c.index-indexes-i.result in
    found_here given c.args.indexes.now c.loop-i.i c.in_ok-place_at-in-Some.field-0 index
    c.in-Some.found c.in_ok-found.field-0
    (slice_get_read c.args.indexes.now _ c.loop-i.i index refl (omega arith) c.index-indexes-i.is)
    c.in_ok-place_at-in-Some.ensures c.in-Some.is c.in_ok-found.ensures.is c.loop-i.invariant

pub returns-in-Some-clause-rejects : goal.returns-in-Some-clause-rejects
returns-in-Some-clause-rejects g c =
    let m = g.B.Book.meaning c.args.book.now in
    let index = c.index-indexes-i.result in
    let at = slice_get_read c.args.indexes.now _ c.in_ok-place_at-in-Some.field-0 index refl
    (omega arith) (subst (λ i. index ≡ get_or c.args.indexes.now i index)
    (sym c.in_ok-place_at-in-Some.ensures) c.index-indexes-i.is) in
    subst (λ o. IsSomeAnd o (λ it. RejectRest m c.args.columns.now c.args.conjuncts.now it
    c.in-Some.found.1)) (sym at) (MatchOption-at_some ⊤
    (λ it. RejectRest m c.args.columns.now c.args.conjuncts.now index it.1) c.in-Some.found
    c.in-Some.is c.in_ok-found.ensures.rejects)

pub loop-i-preserved : goal.loop-i-preserved
loop-i-preserved g c =
    let given = index_choice (g.B.Book.meaning c.args.book.now) c.args.columns.now
    c.args.conjuncts.now in
    let index = c.index-indexes-i.result in
    none_more given c.args.indexes.now c.loop-i.i index c.in_ok-found.field-0
    (slice_get_read c.args.indexes.now _ c.loop-i.i index refl (omega arith) c.index-indexes-i.is)
    c.in-None.is c.in_ok-found.ensures.is c.loop-i.invariant
