-- A subject at a number that is the next new one is picked.
use Rattle.std.proofs.Common.{◌≡◌, ◌+◌, ◌<◌, ◌≤◌, ◌++◌, ◌∷◌, [], ◌∙◌, ap, arith, drop, length}
use Rattle.std.proofs.Common.{subst, sym}
use Rattle.mc_exec.specs.Steps.{picked}
use Rattle.mc_exec.proofs.Firsts.{picked_end, picked_next, picked_same}
use Rattle.mc_exec.proofs.distinct.put_picked.Goals as goal
use Rattle.mc_exec.proofs.distinct.put_picked.Goals.{then-numbers-i+in_ok-push, else-numbers-i}

pub loop-i-preserved : goal.loop-i-preserved
loop-i-preserved c =
    let ns = c.args.numbers.now in
    let xs = c.args.subjects.now in
    let i = c.loop-i.i in
    let h : i < length xs = c.loop-i-test.true in
    let k : i < length ns = omega (arith, h, c.requires.as_many) in
    elim c.if-numbers-i.branch [
      | then-numbers-i+in_ok-push w ↦
          picked_next ns xs (picked 0 ns xs) i c.index-subjects-i.result c.loop-i.firsts
          c.if-numbers-i.firsts k h c.index-subjects-i.is
          (w.if-numbers-i.true ∙ c.len.ensures)
          (w.firsts-is ∙ (w.in_ok-push.ensures.ok
          ∙ ap (λ x. c.loop-i.firsts ++ x ∷ []) w.again.ensures)) c.loop-i.invariant
      | else-numbers-i w ↦
          let same : c.if-numbers-i.firsts ≡ c.loop-i.firsts = w.firsts-is in
          subst (λ l. l ++ picked (length l) (drop (i + 1) ns) (drop (i + 1) xs) ≡ picked 0 ns xs)
          (sym same)
          (picked_same ns xs (picked 0 ns xs) i c.index-subjects-i.result c.loop-i.firsts k h
          (λ e. w.if-numbers-i.false (e ∙ sym c.len.ensures)) c.loop-i.invariant)
    ]

pub returns : goal.returns
returns c =
    let h : length c.args.subjects.now ≤ c.loop-i.i = c.loop-i-test.false in
    picked_end c.args.numbers.now c.args.subjects.now
    (picked 0 c.args.numbers.now c.args.subjects.now) c.loop-i.i c.loop-i.firsts
    (omega (arith, h, c.requires.as_many)) c.loop-i.invariant
