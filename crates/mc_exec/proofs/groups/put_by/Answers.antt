-- The values of the expressions, and the groups by them.
use Rattle.std.proofs.Common.{Bor, List, None, Some, ap, map, sym, ◌∙◌}
use Rattle.std.specs.Prelude.{All, option_map}
use Rattle.mc_eval.specs.Outcomes.{IsKept}
use Rattle.mc_group.specs.Groups.{same_row}
use Rattle.mc_group.specs.Kinds.{IsKeyRow}
use Rattle.mc_values.specs.declared.value.Value.{Value}
use Rattle.mc_exec.specs.Given.{alone, values_in, values_of}
use Rattle.mc_exec.specs.Grouped.{grouped, value_kinds}
use Rattle.mc_exec.specs.Ready.{GiveKinds}
use Rattle.mc_exec.specs.Steps.{with_all}
use Rattle.mc_exec.proofs.Filled.{fails, keys_filled}
use Rattle.mc_exec.proofs.KeyRows.{each_given}
use Rattle.mc_exec.proofs.ShownRows.{all_of_map, count_all}
use Rattle.mc_exec.proofs.groups.put_by.Goals as goal

pub put_parted-requires-clause-key_rows : goal.put_parted-requires-clause-key_rows
put_parted-requires-clause-key_rows g c =
    let m = g.B.Book.meaning c.args.book.now in
    let exprs = c.args.exprs.now in
    let given = λ (row : Bor (List Value)). values_in m exprs (alone row.now) in
    each_given given (λ (row : Bor (List Value)). GiveKinds m exprs (alone row.now)) (All IsKept)
    (IsKeyRow m (value_kinds exprs)) (λ row ks h e k. h ks e k) c.args.rows.now
    c.put_keys.new.keys (keys_filled given c.args.rows.now c.new-keys.result c.new-keys.ensures
    (Some c.put_keys.new.keys) c.in-Ok.ensures.told) c.requires.kinds c.in-Ok.ensures.kept

pub put_parted-requires-clause-as_many : goal.put_parted-requires-clause-as_many
put_parted-requires-clause-as_many g c =
    let m = g.B.Book.meaning c.args.book.now in
    let given = λ (row : Bor (List Value)). values_in m c.args.exprs.now (alone row.now) in
    count_all given c.args.rows.now c.put_keys.new.keys
    (keys_filled given c.args.rows.now c.new-keys.result c.new-keys.ensures
    (Some c.put_keys.new.keys) c.in-Ok.ensures.told)

pub returns-in-Ok-put_parted-clause-told : goal.returns-in-Ok-put_parted-clause-told
returns-in-Ok-put_parted-clause-told g c =
    let m = g.B.Book.meaning c.args.book.now in
    let exprs = c.args.exprs.now in
    let seen = λ (r : Bor (List Value)). r.now in
    let given = λ (row : Bor (List Value)). values_in m exprs (alone row.now) in
    let by = λ (keys : List (List Value)). grouped (same_row m (value_kinds exprs)) keys
    (map seen c.args.rows.now) in
    let keys = sym (all_of_map seen (λ row. values_in m exprs (alone row)) c.args.rows.now
    ∙ all_of_map alone (values_in m exprs) (map seen c.args.rows.now))
    ∙ keys_filled given c.args.rows.now c.new-keys.result c.new-keys.ensures
    (Some c.put_keys.new.keys) c.in-Ok.ensures.told in
    ap (option_map by) keys ∙ ap (λ l. Some l) (sym c.in-Ok-put_parted.ensures)

pub returns-clause-told : goal.returns-clause-told
returns-clause-told g c =
    let m = g.B.Book.meaning c.args.book.now in
    let exprs = c.args.exprs.now in
    let seen = λ (r : Bor (List Value)). r.now in
    let given = λ (row : Bor (List Value)). values_in m exprs (alone row.now) in
    let by = λ (keys : List (List Value)). grouped (same_row m (value_kinds exprs)) keys
    (map seen c.args.rows.now) in
    fails (with_all given c.new-keys.result c.args.rows.now)
    (option_map by (values_of m exprs (map alone (map seen c.args.rows.now)))) c.in-Err.fault
    (λ e. ap (option_map by) (sym (all_of_map seen (λ row. values_in m exprs
    (alone row)) c.args.rows.now
    ∙ all_of_map alone (values_in m exprs) (map seen c.args.rows.now))
    ∙ keys_filled given c.args.rows.now c.new-keys.result c.new-keys.ensures None e))
    c.in-Err.ensures.told
