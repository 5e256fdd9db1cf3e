-- The row is behind the others of its group.
use Rattle.std.proofs.Common.{◌<◌, ◌++◌, ◌∷◌, [], Bor, List, ap, arith, get_or, length}
use Rattle.std.proofs.Common.{map, set}
use Rattle.std.proofs.Common.{subst, sym, ◌∙◌}
use Rattle.std.proofs.lemmas.List.{length-map}
use Rattle.mc_values.specs.declared.value.Value.{Value}
use Rattle.mc_exec.proofs.Parted.{put_in}
use Rattle.mc_exec.proofs.Places.{on_ok}
use Rattle.mc_exec.proofs.groups.Groups.put.Goals as goal

pub returns : goal.returns
returns c =
    let seen = λ (r : Bor (List Value)). r.now in
    let items = c.self.inside.groups.items in
    let within : c.args.place < length (map (map seen) items) =
    subst (λ (l : List (List (List Value))). c.args.place < length l)
    (sym c.self.view_is) c.requires in
    let h : c.args.place < length items = omega (arith, within, length-map items (map seen)) in
    on_ok c.push.result (λ e. put_in seen items c.args.place c.index_mut.result.now c.push.new.self
    c.args.row h c.index_mut.ensures.value e
    ∙ ap (λ (l : List (List (List Value))). set l c.args.place
    (get_or l c.args.place [] ++ c.args.row.now ∷ [])) c.self.view_is) c.push.ensures.ok
