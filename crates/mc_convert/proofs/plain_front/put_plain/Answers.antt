use Rattle.std.proofs.Common.{◌++◌, ap, ◌∙◌}
use Rattle.std.proofs.lemmas.Result.{on_ok_weaker}
use Rattle.mc_convert.proofs.PlainTexts.{puts_bytes, puts_two_bytes, puts_four_bytes}
use Rattle.mc_convert.proofs.plain_front.put_plain.Goals as goal

pub returns-in-Latin1-clause-ok : goal.returns-in-Latin1-clause-ok
returns-in-Latin1-clause-ok g c =
    let new = c.extend_from_slice.new.self in
    on_ok_weaker c.extend_from_slice.result
    (λ w. puts_bytes c.charset.result g.T.Encoding.set c.args.front.now c.args.out.now new c.charset.ensures c.in-Latin1.is c.requires w)
    c.extend_from_slice.ensures.ok

pub returns-in-Ucs2-clause-ok : goal.returns-in-Ucs2-clause-ok
returns-in-Ucs2-clause-ok g c =
    let new = c.extend_from_slice-in-Ucs2.new.self in
    on_ok_weaker c.extend_from_slice-in-Ucs2.result
    (λ w. puts_two_bytes c.charset.result g.T.Encoding.set c.args.front.now c.args.out.now new c.charset.ensures c.in-Ucs2.is c.requires
    (w ∙ ap (λ bytes. c.args.out.now ++ bytes) c.in_two_bytes.ensures))
    c.extend_from_slice-in-Ucs2.ensures.ok

pub returns-in-Utf32-clause-ok : goal.returns-in-Utf32-clause-ok
returns-in-Utf32-clause-ok g c =
    let new = c.extend_from_slice-in-Utf32.new.self in
    on_ok_weaker c.extend_from_slice-in-Utf32.result
    (λ w. puts_four_bytes c.charset.result g.T.Encoding.set c.args.front.now c.args.out.now new c.charset.ensures c.in-Utf32.is c.requires
    (w ∙ ap (λ bytes. c.args.out.now ++ bytes) c.in_four_bytes.ensures))
    c.extend_from_slice-in-Utf32.ensures.ok
