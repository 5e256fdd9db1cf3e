use Rattle.std.proofs.Common.{ℕ, List, drop, subst, arith}
use Rattle.mc_charset.specs.NextChar.{IsFirst, HeadsChars}
use Rattle.mc_charset.specs.declared.char_at.CharAt.TheVariants.{Char}
use Rattle.mc_charset.proofs.Start.{start_zero, start_more, start_at_end, rest_behind, heads_nothing, start_well_formed}
use Rattle.mc_charset.proofs.count.start_behind.Goals as goal

pub loop-passed-init : goal.loop-passed-init
loop-passed-init g c = start_zero g.E.Encoding.set c.args.text.now c.requires

pub loop-passed-preserved : goal.loop-passed-preserved
loop-passed-preserved g c =
    let set = g.E.Encoding.set in
    let text = c.args.text.now in
    let rest = rest_behind c.loop-passed.start text in
    let code = c.in-Char.code in
    let len = c.in-Char.len in
    let first = subst (λ (t : List ℕ). IsFirst set t code len) rest c.in-Char.ensures.first in
    let heads = subst (λ (t : List ℕ). HeadsChars set t (Char code len)) rest c.in-Char.ensures.heads in
    start_more set text c.loop-passed.passed c.loop-passed.start code len c.loop-passed.invariant first heads.0
    (heads.1.0 (start_well_formed set text c.loop-passed.passed c.loop-passed.start c.loop-passed.invariant))

pub returns-in-End : goal.returns-in-End
returns-in-End g c =
    let set = g.E.Encoding.set in
    let text = c.args.text.now in
    let rest = rest_behind c.loop-passed.start text in
    let heads = subst (λ (t : List ℕ). HeadsChars set t c.next_in.result) rest c.next_in.ensures.heads in
    start_at_end set text c.loop-passed.passed c.args.k c.loop-passed.start c.loop-passed.invariant
    (heads_nothing set (drop c.loop-passed.start text) c.next_in.result heads c.in-End.is) (omega arith)
