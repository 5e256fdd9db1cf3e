-- The loop stops at the first byte that is written by an escape, or at the end.
use Rattle.std.proofs.Common.{length, sym, arith}
use Rattle.std.proofs.lemmas.List.Sums.{position_or_len_is}
use Rattle.mc_print.specs.Escapes.{is_escaped}
use Rattle.mc_print.proofs.escape.first_escape.Goals as goal

pub returns-then-is_escaped-clause-len : goal.returns-then-is_escaped-clause-len
returns-then-is_escaped-clause-len c =
    sym (position_or_len_is is_escaped c.args.text.now c.loop-i.i 0 (omega arith) c.loop-i.invariant (λ _. cc c.if-is_escaped.ensures))

pub returns-clause-len : goal.returns-clause-len
returns-clause-len c =
    sym (position_or_len_is is_escaped c.args.text.now (length c.args.text.now) 0 (omega arith) (λ k h. c.loop-i.invariant k (omega arith)) (λ h. absurd (omega arith)))
