-- The loop stops at the first quote or backslash, or at the end.
use Rattle.std.proofs.Common.{◌==◌, ◌||◌, length, sym, arith}
use Rattle.std.proofs.lemmas.List.Sums.{position_or_len_is}
use Rattle.mc_token.specs.Bytes.{backslash}
use Rattle.mc_token.proofs.element.plain_len.Goals as goal

pub returns-then-hides_next-clause-len : goal.returns-then-hides_next-clause-len
returns-then-hides_next-clause-len c =
    sym (position_or_len_is (λ byte. byte == c.args.quote || byte == backslash) c.args.bytes.now c.loop-i.i 0 (omega arith) c.loop-i.invariant (λ _. cc c.if-hides_next.ensures))

pub returns-clause-len : goal.returns-clause-len
returns-clause-len c =
    sym (position_or_len_is (λ byte. byte == c.args.quote || byte == backslash) c.args.bytes.now (length c.args.bytes.now) 0 (omega arith) (λ k h. c.loop-i.invariant k (omega arith)) (λ h. absurd (omega arith)))
