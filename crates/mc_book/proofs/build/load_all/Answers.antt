-- One more declaration's meaning stands behind those so far; the first refusal ends it.
use Rattle.std.proofs.Common.{◌≡◌, ◌++◌, [], ◌∷◌, Err, Ok, map, take, ap, sym, ◌∙◌, ◌+◌, suc, arith}
use Rattle.std.proofs.Math.Seq.{take-suc}
use Rattle.std.proofs.lemmas.List.{map_push}
use Rattle.std.proofs.lemmas.Result.{err_from_is_err_and}
use Rattle.mc_book.specs.Any.{any_meaning}
use Rattle.mc_book.specs.BookOutcome.{declared_outcome, behind_outcome}
use Rattle.mc_book.specs.Meanings.{meanings}
use Rattle.mc_base.specs.FileOutcome.{HasOutcome}
use Rattle.mc_book.proofs.LoadLemmas.{told_both, stopped, one_more, more_sets}
use Rattle.mc_book.proofs.build.load_all.Goals as goal

pub returns-in_err-collation-clause-told : goal.returns-in_err-collation-clause-told
returns-in_err-collation-clause-told g c =
    let p = err_from_is_err_and c.from_residual.result c.from_residual.ensures.1 in
    let before = meanings c.args.collations in
    let now = meanings c.loop-each.collations in
    let ds = c.args.declared.now in
    let i = c.loop-each.each-index in
    let d = c.each-item.result in
    let fault = c.in_err-collation.field-0.0 in
    rw (p.1, p.2) (told_both (λ told. behind_outcome before (map (declared_outcome told) (take i ds)) ≡ Ok now)
    (λ told. HasOutcome any_meaning (Err fault) (declared_outcome told d))
    (λ told. HasOutcome meanings (Err fault) (behind_outcome before (map (declared_outcome told) ds)))
    _ _ c.loop-each.invariant.kept c.loop-each.invariant.told c.in_err-collation.ensures.told
    (λ told so_far here. stopped (declared_outcome told) before now ds i d fault (omega arith) c.each-item.is so_far here))

pub loop-each-preserved : goal.loop-each-preserved
loop-each-preserved g c =
    let before = meanings c.args.collations in
    let now = meanings c.loop-each.collations in
    let ds = c.args.declared.now in
    let i = c.loop-each.each-index in
    let d = c.each-item.result in
    let collation = c.in_ok-collation.collation in
    let step : i + 1 ≡ suc i = omega arith in
    let next : take (i + 1) ds ≡ take i ds ++ d ∷ []
    = ap (λ n. take n ds) step ∙ take-suc ds i d (omega arith) ∙ ap (λ x. take i ds ++ x ∷ []) (sym c.each-item.is) in
    record {
      kept = c.in_ok-collation.ensures.kept ∙ c.loop-each.invariant.kept;
      later = omega (arith, c.in_ok-collation.ensures.later, c.loop-each.invariant.later);
      told = rw c.in_ok-push.ensures.ok (rw (map_push any_meaning c.loop-each.collations collation)
          (told_both (λ told. behind_outcome before (map (declared_outcome told) (take i ds)) ≡ Ok now)
          (λ told. HasOutcome any_meaning (Ok collation) (declared_outcome told d))
          (λ told. behind_outcome before (map (declared_outcome told) (take (i + 1) ds)) ≡ Ok (now ++ any_meaning collation ∷ []))
          _ _ c.loop-each.invariant.kept c.loop-each.invariant.told c.in_ok-collation.ensures.told
          (λ told so_far here. one_more (declared_outcome told) before now ds i d (any_meaning collation) next so_far here)));
      sets = rw c.in_ok-push.ensures.ok
          (more_sets c.args.collations c.loop-each.collations ds i d collation next c.loop-each.invariant.sets c.in_ok-collation.ensures.set);
      unopened = λ e. absurd (omega arith);
    }
