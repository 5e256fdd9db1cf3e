use Rattle.std.proofs.Common.{sym, ◌∙◌}
use Rattle.mc_eval.proofs.HeldTexts.{no_more, one_text}
use Rattle.mc_eval.proofs.joins.texts_in.Goals.{then-not-is_null+in_ok-text_in+in_ok-push, else-not-is_null}
use Rattle.mc_eval.proofs.joins.texts_in.Goals as goal

pub loop-operand-preserved : goal.loop-operand-preserved
loop-operand-preserved c =
    elim c.if-not-is_null.branch [
      | then-not-is_null+in_ok-text_in+in_ok-push w ↦
          one_text c.args.set c.args.operands.now c.loop-operand.operand-index c.operand-item.result c.get-value.result.now
          w.in_ok-text_in.field-0 c.loop-operand.texts c.if-not-is_null.texts c.loop-operand-test.true c.operand-item.is
          c.get-value.ensures (sym c.is_null.ensures ∙ w.if-not-is_null.true) w.in_ok-text_in.ensures.is
          w.in_ok-text_in.ensures.well_formed (w.texts-is ∙ w.in_ok-push.ensures.ok) c.loop-operand.invariant
      | else-not-is_null w ↦
          no_more c.args.set c.args.operands.now c.loop-operand.operand-index c.operand-item.result c.get-value.result.now
          c.loop-operand.texts c.if-not-is_null.texts c.loop-operand-test.true c.operand-item.is
          c.get-value.ensures (sym c.is_null.ensures ∙ w.if-not-is_null.false) w.texts-is c.loop-operand.invariant
    ]
