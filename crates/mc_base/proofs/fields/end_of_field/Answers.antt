-- The loop stops at the first blank, or at the end.
use Rattle.std.proofs.Common.{length, sym, arith}
use Rattle.std.proofs.lemmas.List.Sums.{position_or_len_is}
use Rattle.mc_base.specs.Blanks.{is_blank}
use Rattle.mc_base.proofs.fields.end_of_field.Goals as goal

pub returns-then-is_blank-clause-end : goal.returns-then-is_blank-clause-end
returns-then-is_blank-clause-end c =
    sym (position_or_len_is is_blank c.args.text.now c.loop-i.i 0 (omega arith) c.loop-i.invariant (λ _. cc c.if-is_blank.ensures))

pub returns-clause-end : goal.returns-clause-end
returns-clause-end c =
    sym (position_or_len_is is_blank c.args.text.now (length c.args.text.now) 0 (omega arith) (λ k h. c.loop-i.invariant k (omega arith)) (λ h. absurd (omega arith)))
