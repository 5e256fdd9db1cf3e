use Rattle.std.proofs.Common.{◌≡◌, false, sym, arith}
use Rattle.mc_charset.specs.Chars.{code_points}
use Rattle.mc_order.specs.Floor.{weighs_if_char}
use Rattle.mc_uca.specs.Weighing.{uca_list}
use Rattle.mc_uca.proofs.Filters.{each_ends}
use Rattle.mc_uca.proofs.weigher.Weigher.each_weighs.Goals as goal

pub returns-then-not-weighs_if_char : goal.returns-then-not-weighs_if_char
returns-then-not-weighs_if_char c =
    let self = c.args.self.now in
    let test = weighs_if_char self.charset (uca_list self.charset self.kind self.keys 1) in
    let is = c.weighs_if_char.ensures in
    let fails = c.if-not-weighs_if_char.true in
    let below = c.loop-code-test.true in
    let e : test c.loop-code.code ≡ false = grind (arith, is, fails) in
    sym (each_ends code_points c.loop-code.code test (omega (arith, below)) e)
