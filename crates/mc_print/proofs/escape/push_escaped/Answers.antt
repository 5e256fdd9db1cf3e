-- Each turn appends what stands before an escape, and the escape.
use Rattle.std.proofs.Common.{◌++◌, take, drop, sym, ap, ◌∙◌}
use Rattle.mc_print.proofs.Escapes.{escaped_end, escaped_more, length_zero, one_turn}
use Rattle.mc_print.specs.Escapes.{as_written}
use Rattle.mc_print.proofs.escape.push_escaped.Goals as goal

pub returns-in_default : goal.returns-in_default
unfolding as_written
returns-in_default c =
    let plain = c.split_at.ensures.front ∙ ap (λ n. take n c.loop-byte.rest.now) c.plain_len.ensures.len in
    let behind = c.split_at.ensures.back ∙ ap (λ n. drop n c.loop-byte.rest.now) c.plain_len.ensures.len in
    c.in_ok-extend_from_slice.ensures.ok
    ∙ ap (λ x. c.loop-byte.out ++ x) (sym (escaped_end c.loop-byte.rest.now _ _ plain behind (length_zero _ c.in_default.ensures.cases)))
    ∙ c.loop-byte.invariant

pub loop-byte-preserved : goal.loop-byte-preserved
loop-byte-preserved c =
    let plain = c.split_at.ensures.front ∙ ap (λ n. take n c.loop-byte.rest.now) c.plain_len.ensures.len in
    let behind = c.split_at.ensures.back ∙ ap (λ n. drop n c.loop-byte.rest.now) c.plain_len.ensures.len in
    let more = escaped_more c.loop-byte.rest.now _ _ c.in-Some.byte.now c.in-Some.more.now plain behind c.in-Some.ensures.cases.0 in
    one_turn c.loop-byte.out c.extend_from_slice.new.self c.push_escape.new.out c.args.text.now c.args.out.now _ c.in-Some.more.now c.loop-byte.rest.now c.in-Some.byte.now
    c.in_ok-extend_from_slice.ensures.ok c.in_ok-push_escape.ensures more c.loop-byte.invariant
