use Rattle.std.proofs.Common.{◌<◌, pos, ◌≤ℤ◌, [], ◌++◌, length, take, ap, ◌∙◌, arith, to_z-of_z}
use Rattle.std.proofs.lemmas.Int.{ints}
use Rattle.std.proofs.lemmas.Result.{IfOk-weaker}
use Rattle.mc_charset.specs.Chars.{chars}
use Rattle.std.specs.List.{repeat}
use Rattle.mc_strfun.specs.Joins.{spelled_within}
use Rattle.mc_strfun.specs.Numbers.{natural}
use Rattle.mc_strfun.proofs.Lengths.{as_long, empty_spelled}
use Rattle.mc_strfun.proofs.Limits.{filled}
use Rattle.mc_strfun.proofs.Paddings.{chars_filled, kept_by, missing_by, left_cut, left_filled, left_negative, left_refused}
use Rattle.mc_strfun.proofs.pads.lpad.Goals.{then-is_empty-via-then-is_empty, then-is_empty-via-else-is_empty+then-missing}
use Rattle.mc_strfun.proofs.pads.lpad.Goals as goal

pub returns-then-count-lt0 : goal.returns-then-count-lt0
returns-then-count-lt0 c =
    left_negative c.args.set c.args.count _ _ (omega (arith, ints, c.if-count-lt0.true))

pub returns-then-missing-eq0 : goal.returns-then-missing-eq0
returns-then-missing-eq0 c =
    let set = c.args.set in
    let text = c.args.text.now in
    let up : pos 0 ≤ℤ c.args.count = omega (arith, ints, c.if-count-lt0.false) in
    let kept = kept_by set c.args.count _ text _ _ (c.natural.ensures ∙ ap natural (to_z-of_z c.ranges.count)) c.as_slice.ensures c.front-kept.ensures.spelled in
    let lacks = missing_by set c.args.count _ _ text _ (c.natural-2.ensures ∙ ap natural (to_z-of_z c.ranges.count)) c.as_slice-2.ensures c.missing-missing.ensures in
    IfOk-weaker c.whole.result _ _
    (λ value h. h ∙ left_cut set c.args.count (chars set c.args.pad.now) (chars set text) c.front-kept.result.now c.missing-missing.result up lacks c.if-missing-eq0.true kept)
    c.whole.ensures

pub returns-then-is_empty : goal.returns-then-is_empty
returns-then-is_empty c =
    let set = c.args.set in
    let text = c.args.text.now in
    let up : pos 0 ≤ℤ c.args.count = omega (arith, ints, c.if-count-lt0.false) in
    let lacks = missing_by set c.args.count _ _ text _ (c.natural-2.ensures ∙ ap natural (to_z-of_z c.ranges.count)) c.as_slice-2.ensures c.missing-missing.ensures in
    let pad_long = as_long set (chars set c.args.pad.now) c.args.pad.now (c.chars_law.ensures.encodes set c.args.pad.now c.requires.pad) in
    left_refused set c.args.count (chars set c.args.pad.now) (chars set text) c.missing-missing.result up lacks (omega (arith, c.if-missing-eq0.false))
    (elim c.then-is_empty.branch [
      | then-is_empty-via-then-is_empty w ↦ λ p. absurd (omega (arith, p, pad_long, ap (λ t. length t) (c.is_empty.ensures.0 w.if-is_empty.true)))
      | then-is_empty-via-else-is_empty+then-missing w ↦ λ p. w.if-missing.true
    ])

pub returns : goal.returns
returns c =
    let set = c.args.set in
    let text = c.args.text.now in
    let its = chars set c.args.pad.now in
    let up : pos 0 ≤ℤ c.args.count = omega (arith, ints, c.if-count-lt0.false) in
    let kept = kept_by set c.args.count _ text _ _ (c.natural.ensures ∙ ap natural (to_z-of_z c.ranges.count)) c.as_slice.ensures c.front-kept.ensures.spelled in
    let lacks = missing_by set c.args.count _ _ text _ (c.natural-2.ensures ∙ ap natural (to_z-of_z c.ranges.count)) c.as_slice-2.ensures c.missing-missing.ensures in
    let some : 0 < length c.args.pad.now = filled c.args.pad.now c.is_empty.result c.is_empty.ensures.1 c.if-is_empty.false in
    let some_codes : 0 < length its = chars_filled set its c.args.pad.now (c.chars_law.ensures.encodes set c.args.pad.now c.requires.pad) some in
    let n = c.missing-missing.result in
    IfOk-weaker c.padded.result _ _
    (λ value h. h [] (take (natural c.args.count) (chars set text)) (empty_spelled set) kept
    ∙ ap (λ pad. spelled_within set ([] ++ (take n (repeat n (chars set pad)) ++ take (natural c.args.count) (chars set text)))) c.as_slice-3.ensures
    ∙ left_filled set c.args.count its (chars set text) n up lacks (omega (arith, c.if-missing-eq0.false)) some_codes)
    c.padded.ensures
