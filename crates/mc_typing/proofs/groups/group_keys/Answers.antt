use Rattle.std.proofs.Common.{◌≡◌, [], map, rules, subst, sym, ◌∙◌}
use Rattle.std.specs.Prelude.{Ok, Err}
use Rattle.mc_typing.specs.Statements.{group_typing}
use Rattle.mc_typing.specs.Wanted.{IsLeft, IsWanted}
use Rattle.mc_typing.specs.Whole.{with_typings}
use Rattle.mc_typing.proofs.Placed.{all_typings}
use Rattle.mc_typing.proofs.Wholes.{left_wanted}
use Rattle.mc_typing.proofs.groups.group_keys.Goals as goal

pub returns-in-Ok : goal.returns-in-Ok
returns-in-Ok c =
    let ts = map (group_typing c.args.c.now c.args.s) c.args.groups.now in
    let made : with_typings [] ts ≡ Ok c.put_groups.new.xs = search rules in
    sym (all_typings c.args.c.now c.args.s ts) ∙ made

pub returns-in-Err : goal.returns-in-Err
returns-in-Err c =
    let ts = map (group_typing c.args.c.now c.args.s) c.args.groups.now in
    let faulty : IsLeft (Err c.in-Err.fault) c.put_groups.new.xs (with_typings [] ts) =
    search rules in
    subst (IsWanted (Err c.in-Err.fault)) (all_typings c.args.c.now c.args.s ts)
    (left_wanted c.in-Err.fault c.put_groups.new.xs (with_typings [] ts) faulty)
