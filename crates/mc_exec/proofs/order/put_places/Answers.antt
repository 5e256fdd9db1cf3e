-- Each place is the next one.
use Rattle.std.proofs.Common.{◌≡◌, ◌++◌, ◌∷◌, [], ℕ, List, ap, arith, sym, ◌∙◌}
use Rattle.std.proofs.lemmas.List.{map-id}
use Rattle.std.proofs.lemmas.List.FromFn.{map-range_with_len_more}
use Rattle.std.specs.List.{range_with_len}
use Rattle.mc_exec.proofs.order.put_places.Goals as goal

pub loop-place-preserved : goal.loop-place-preserved
loop-place-preserved c = c.in_ok-push.ensures.ok
    ∙ (ap (λ (l : List ℕ). l ++ c.loop-place.place ∷ []) c.loop-place.invariant
    ∙ sym (map-range_with_len_more (λ (p : ℕ). p) 0 c.loop-place.place c.loop-place.place
    (omega arith)))

pub returns : goal.returns
returns c =
    let all : c.loop-place.place ≡ c.args.count =
    omega (arith, c.loop-place-test.false, c.loop-place.auto.place-end) in
    c.loop-place.invariant ∙ (map-id (range_with_len 0 c.loop-place.place)
    ∙ ap (range_with_len 0) all)
