use Rattle.std.proofs.Common.{◌∙◌, ◌+◌, ap, sym, take}
use Rattle.mc_order.specs.Meaning.{flat_list}
use Rattle.mc_charset.specs.Chars.{chars}
use Rattle.mc_key.proofs.Kept.{kept_behind}
use Rattle.mc_key.proofs.key.put_key.Goals as goal

pub returns-clause-ok : goal.returns-clause-ok
returns-clause-ok g c =
    let m = g.C.Collation.meaning c.args.collation.now in
    kept_behind m.pad c.pad.result m.space c.space.result c.len-start.result
    c.kept_len-kept.result c.args.out.now (flat_list m (chars m.charset c.args.text.now))
    c.as_slice.result.now c.truncate.new.self c.pad.ensures c.space.ensures c.len-start.ensures
    (c.as_slice.ensures ∙ c.in_ok-put_list.ensures.ok) c.kept_len-kept.ensures.kept
    (c.truncate.ensures
    ∙ ap (take (c.len-start.result + c.kept_len-kept.result)) (sym c.as_slice.ensures))
