-- One more block without an escape is passed.
use Rattle.std.proofs.Common.{◌≡◌, ◌+◌, ◌-◌, ◌≤◌, false, length, take, drop, sym, ap, ◌∙◌, arith}
use Rattle.std.specs.List.{list_any, position_or_len}
use Rattle.std.proofs.lemmas.List.{drop-drop, length-drop}
use Rattle.mc_print.specs.Escapes.{is_escaped}
use Rattle.mc_print.proofs.Escapes.{past_block, none_found}
use Rattle.mc_print.proofs.escape.plain_len.Goals as goal

pub loop-passed-preserved : goal.loop-passed-preserved
loop-passed-preserved c =
    let text = c.args.text.now in
    let passed = c.loop-passed.passed in
    let within = c.loop-passed.invariant.within in
    let room : passed + 32 ≤ length text = omega (arith, within, c.loop-passed-test.true) in
    let size : passed + 32 - passed ≡ 32 = omega arith in
    let none : list_any is_escaped (take 32 (drop passed text)) ≡ false =
    ap (λ n. list_any is_escaped (take n (drop passed text))) (sym size)
    ∙ none_found _ (sym c.is_plain.ensures ∙ c.if-is_plain.true) in
    let long : 32 ≤ length (drop passed text) = omega (arith, room, length-drop passed text) in
    let block = past_block 32 (drop passed text) long none in
    let behind = ap (λ rest. position_or_len is_escaped rest) (drop-drop 32 passed text) in
    record {
      within = room;
      first = omega (arith, c.loop-passed.invariant.first, block, behind);
    }
