use Rattle.std.proofs.Common.{◌<◌, List, ℕ, Some, length, ap, ◌∙◌, to_z-of_z}
use Rattle.mc_strfun.specs.Numbers.{natural}
use Rattle.mc_strfun.proofs.Limits.{filled, no_copies, many_copies, few_copies, few_bytes}
use Rattle.mc_strfun.proofs.copies.repeat.Goals as goal

pub returns-then-is_empty : goal.returns-then-is_empty
returns-then-is_empty c =
    ap (λ (t : List ℕ). Some t) c.new.ensures
    ∙ no_copies (natural c.args.count) c.args.text.now (c.is_empty.ensures.0 c.if-is_empty.true)

pub returns-then-count-len : goal.returns-then-count-len
returns-then-count-len c =
    let text = c.args.text.now in
    let positive : 0 < length text = filled text c.is_empty.result c.is_empty.ensures.1 c.if-is_empty.false in
    many_copies (natural c.args.count) c.natural-count.result c.len.result text positive c.len.ensures
    (c.natural-count.ensures ∙ ap natural (to_z-of_z c.ranges.count)) c.if-count-len.true

pub copies_of-requires : goal.copies_of-requires
copies_of-requires c =
    let text = c.args.text.now in
    let positive : 0 < length text = filled text c.is_empty.result c.is_empty.ensures.1 c.if-is_empty.false in
    few_bytes c.natural-count.result c.len.result text c.as_slice.result.now positive c.len.ensures c.as_slice.ensures
    c.if-count-len.false

pub returns : goal.returns
returns c =
    let text = c.args.text.now in
    let positive : 0 < length text = filled text c.is_empty.result c.is_empty.ensures.1 c.if-is_empty.false in
    few_copies (natural c.args.count) c.natural-count.result text c.as_slice.result.now c.in_ok-copies_of.field-0
    c.as_slice.ensures (c.natural-count.ensures ∙ ap natural (to_z-of_z c.ranges.count))
    (few_bytes c.natural-count.result c.len.result text c.as_slice.result.now positive c.len.ensures c.as_slice.ensures
    c.if-count-len.false) c.in_ok-copies_of.ensures
