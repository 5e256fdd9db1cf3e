use Rattle.std.proofs.Common.{◌↔◌, ◌≤◌, subst}
use Rattle.mc_charset.specs.declared.charset.Charset.{Charset}
use Rattle.mc_convert.specs.Classes.{HasIn, rank}
use Rattle.mc_convert.specs.declared.repertoire.Repertoire.{Repertoire}
use Rattle.mc_convert.proofs.Classes.{HasPassed_step, HasPassed_end}
use Rattle.mc_convert.proofs.repertoire.class_of_each.Goals as goal

pub loop-code-preserved : goal.loop-code-preserved
loop-code-preserved g c =
    let joined =
    subst (λ (s : Charset). (other : Repertoire) → (rank c.with_char-class.result ≤ rank other)
    ↔ ((rank c.loop-code.class ≤ rank other) × HasIn s other c.in-Char.code)) c.charset.ensures c.with_char-class.ensures in
    HasPassed_step g.E.Encoding.set c.args.text.now c.loop-code.rest.now c.in-Char.code c.in-Char.len
    c.loop-code.class c.with_char-class.result
    c.loop-code.invariant c.in-Char.ensures.heads.0 joined

pub returns-in-End : goal.returns-in-End
returns-in-End g c =
    HasPassed_end g.E.Encoding.set c.args.text.now c.loop-code.rest.now c.loop-code.class
    c.next_in.result
    c.loop-code.invariant c.next_in.ensures.heads c.in-End.is
