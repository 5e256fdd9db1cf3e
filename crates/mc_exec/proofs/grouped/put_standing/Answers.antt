-- What stands for the next group.
use Rattle.std.proofs.Common.{◌≡◌, [], List, ◌++◌, ◌∷◌, ap, arith, get_or, sym, ◌∙◌}
use Rattle.std.proofs.lemmas.List.{get_or_default}
use Rattle.mc_values.specs.declared.value.Value.{Value}
use Rattle.mc_exec.specs.Shown.{standing}
use Rattle.mc_exec.proofs.Standing.{stand_more, with_these}
use Rattle.mc_exec.proofs.grouped.put_standing.Goals as goal

pub loop-i-preserved : goal.loop-i-preserved
loop-i-preserved c =
    let groups = c.args.groups.now in
    let values = c.args.values.now in
    let nulls = c.args.nulls.now in
    let i = c.loop-i.i in
    let group = get_or groups i [] in
    let it = c.index-values-i.result in
    let first : c.first_row.result.now ≡ get_or group 0 nulls =
    c.first_row.ensures ∙ ap (λ l. get_or l 0 nulls) c.rows.ensures in
    let is : c.push.new.self ≡ c.loop-i.subjects ++ standing nulls group it ∷ [] =
    c.in_ok-push.ensures.ok
    ∙ ap (λ (row : List Value). c.loop-i.subjects ++ with_these it row ∷ []) first in
    stand_more (standing nulls) groups values i group it c.loop-i.subjects c.push.new.self
    c.requires.as_many c.loop-i-test.true
    (get_or_default groups i group [] (omega (arith, c.loop-i-test.true, c.requires.as_many)))
    (sym c.index-values-i.is) is c.loop-i.invariant
