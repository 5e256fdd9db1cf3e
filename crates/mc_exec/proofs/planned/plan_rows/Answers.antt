-- The index that is held is the plan's, and what it has in the plan's intervals are the plan's
-- rows.
use Rattle.std.proofs.Common.{◌≡◌, ℕ, List, Some, subst}
use Rattle.mc_catalog.specs.declared.catalog.Catalog.{Catalog}
use Rattle.mc_gather.specs.Indexed.{rows_in}
use Rattle.mc_gather.specs.PlanLaws.{AreRead, held_at}
use Rattle.mc_gather.specs.Through.{AreRowsThrough}
use Rattle.mc_plan.specs.declared.plan.Plan.TheVariants.{ByIndex}
use Rattle.mc_exec.proofs.HeldIndex.{HasCollation, always_held, held_for, is_declared, lent_is}
use Rattle.mc_exec.proofs.HeldIndex.{lent_none, seeks_within}
use Rattle.mc_exec.proofs.Places.{ok_map}
use Rattle.mc_exec.proofs.planned.plan_rows.Goals as goal

pub through-requires-clause-pad : goal.through-requires-clause-pad
through-requires-clause-pad g c =
    let t = c.args.t.now in
    let m = g.B.Book.meaning c.args.book.now in
    let has = subst (λ (catalog : Catalog).
    HasCollation catalog c.args.place c.args.index c.collation_of-coll.result) c.catalog.ensures
    c.collation_of-coll.ensures in
    let at : held_at t.indexes c.args.place c.args.index ≡ Some c.in-Some.held.now =
    lent_is c.index.result c.in-Some.held _ c.index.ensures c.in-Some.is in
    (held_for c.plan_law.ensures.held t.catalog m t.rows t.indexes c.args.place c.args.index
    c.collation_of-coll.result c.requires.book has c.in-Some.held.now at).pad

pub through-requires-clause-space : goal.through-requires-clause-space
through-requires-clause-space g c =
    let t = c.args.t.now in
    let m = g.B.Book.meaning c.args.book.now in
    let has = subst (λ (catalog : Catalog).
    HasCollation catalog c.args.place c.args.index c.collation_of-coll.result) c.catalog.ensures
    c.collation_of-coll.ensures in
    let at : held_at t.indexes c.args.place c.args.index ≡ Some c.in-Some.held.now =
    lent_is c.index.result c.in-Some.held _ c.index.ensures c.in-Some.is in
    (held_for c.plan_law.ensures.held t.catalog m t.rows t.indexes c.args.place c.args.index
    c.collation_of-coll.result c.requires.book has c.in-Some.held.now at).space

pub unreachable-requires : goal.unreachable-requires
unreachable-requires g c =
    let t = c.args.t.now in
    let m = g.B.Book.meaning c.args.book.now in
    let has = subst (λ (catalog : Catalog).
    HasCollation catalog c.args.place c.args.index c.collation_of-coll.result) c.catalog.ensures
    c.collation_of-coll.ensures in
    absurd (always_held c.plan_law.ensures.held t.catalog m t.rows t.indexes c.args.place
    c.args.index c.collation_of-coll.result c.requires.book has
    (lent_none c.index.result _ c.index.ensures c.in-None.is))

pub returns-clause-are : goal.returns-clause-are
returns-clause-are g c =
    let t = c.args.t.now in
    let m = g.B.Book.meaning c.args.book.now in
    let at : held_at t.indexes c.args.place c.args.index ≡ Some c.in-Some.held.now =
    lent_is c.index.result c.in-Some.held _ c.index.ensures c.in-Some.is in
    ok_map (AreRowsThrough c.in-Some.held.now c.args.intervals.now)
    (λ (numbers : List ℕ). (conjunct : ℕ) → AreRead t.catalog m c.args.place
    (ByIndex c.args.index conjunct c.args.intervals.now) (rows_in t.rows c.args.place) numbers)
    c.through.result (λ numbers h conjunct. c.plan_law.ensures.read t.catalog m t.rows t.indexes
    c.args.place c.args.index conjunct c.args.intervals.now c.in-Some.held.now numbers
    c.requires.book (is_declared t.catalog c.args.place c.args.index _ c.requires.serves.declared)
    at h) c.through.ensures.are

pub returns-clause-work : goal.returns-clause-work
returns-clause-work g c =
    let t = c.args.t.now in
    let m = g.B.Book.meaning c.args.book.now in
    let has = subst (λ (catalog : Catalog).
    HasCollation catalog c.args.place c.args.index c.collation_of-coll.result) c.catalog.ensures
    c.collation_of-coll.ensures in
    let at : held_at t.indexes c.args.place c.args.index ≡ Some c.in-Some.held.now =
    lent_is c.index.result c.in-Some.held _ c.index.ensures c.in-Some.is in
    λ conjunct. seeks_within c.plan_law.ensures.held t.catalog m t.rows t.indexes c.args.place
    c.args.index c.collation_of-coll.result c.requires.book has c.in-Some.held.now at conjunct
    c.args.intervals.now _ _ c.through.ensures.work
