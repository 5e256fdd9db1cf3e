use Rattle.std.proofs.Common.{length-drop, arith}
use Rattle.mc_uca.proofs.CodeLemmas.{rest_is}
use Rattle.mc_uca.proofs.Fronts.{front_none, front_more, front_ends}
use Rattle.mc_uca.proofs.codes.front_codes.Goals as goal

pub loop-init : goal.loop-init
loop-init g c = front_none g.E.Encoding.set c.args.text.now

pub returns-in-End : goal.returns-in-End
returns-in-End g c =
    let text = c.args.text.now in
    let below = c.loop-test.true in
    let heads = rw (rest_is text c.loop.at) at c.in-End.ensures.heads in
    front_ends g.E.Encoding.set text c.loop.counter c.loop.at c.args.count c.loop.invariant heads.0
    (omega arith)

pub returns-in-Bad : goal.returns-in-Bad
returns-in-Bad g c =
    let text = c.args.text.now in
    let below = c.loop-test.true in
    let heads = rw (rest_is text c.loop.at) at c.in-Bad.ensures.heads in
    front_ends g.E.Encoding.set text c.loop.counter c.loop.at c.args.count c.loop.invariant heads.0
    (omega arith)

pub loop-preserved : goal.loop-preserved
loop-preserved g c =
    let text = c.args.text.now in
    let set = g.E.Encoding.set in
    let first = rw (rest_is text c.loop.at) at c.in-Char.ensures.first in
    let heads = rw (rest_is text c.loop.at) at c.in-Char.ensures.heads in
    let within = c.loop.invariant.within in
    let inside = first.within in
    let long = length-drop c.loop.at text in
    front_more set text c.loop.counter c.loop.at c.in-Char.code c.in-Char.len
    c.chars_law.ensures.joins c.loop.invariant first.spelled (omega (arith, within, inside, long))
    heads.0
